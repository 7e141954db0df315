-- Duration, start and rendering offset of a number, from the run that it falls in.
use Rattle.std.proofs.Common.{◌≡◌, ℕ, ◌+◌, ◌-◌, ◌*◌, ◌<◌, ◌≤◌, zero, suc, List, length, get_or, take, sum}
use Rattle.std.proofs.Common.{Some, Ok, Err, refl, sym, ap, ◌∙◌, arith}
use Rattle.std.specs.List.{sum_by}
use Rattle.std.specs.Prelude.{slice_get}
use Rattle.std.proofs.lemmas.Option.{slice_get-get_or, slice_get_past}
use Rattle.std.proofs.lemmas.List.{get_or_past, take_all}
use Rattle.mp4_table.specs.declared.stts.SttsEntry.{SttsEntry}
use Rattle.mp4_codec.specs.declared.box_type.BoxType.TheVariants.{SttsBox as stts}
use Rattle.mp4_table.specs.Runs.{expand, durations}
use Rattle.mp4_table.specs.Starts.{start_of}
use Rattle.mp4_codec.specs.Cause.{entry_in_stbl_not_found}
use Rattle.mp4_lookup.specs.Rule.{time_at}
use Rattle.mp4_lookup.proofs.RunLaws.{length-expand, get_or-expand, sum-expand, sum-take-expand, end_of_run}

pub start_is : (xs : List ℕ) (k : ℕ) → 1 ≤ k → start_of xs k ≡ sum (take (k - 1) xs)
unfolding start_of
start_is xs zero h = absurd (omega arith)
start_is xs (suc k) h = let e : suc k - 1 ≡ k = omega arith in rw e refl

-- so many samples end in run i
pub lasted_in : (runs : List SttsEntry) (count i left end : ℕ) (d : SttsEntry) → i < length runs
    → left + sum_by (λ r. r.sample_count) (take i runs) ≡ count
    → end ≡ sum_by (λ r. r.sample_count * r.sample_delta) (take i runs) → left ≤ (get_or runs i d).sample_count
    → end + left * (get_or runs i d).sample_delta ≡ start_of (durations runs) (count + 1)
lasted_in runs count i left end d h counted lasted inside =
    let samples = λ (r : SttsEntry). r.sample_count in
    let delta = λ (r : SttsEntry). r.sample_delta in
    let at : count + 1 - 1 ≡ sum_by samples (take i runs) + left = omega (arith, counted) in
    ap (λ n. n + left * (get_or runs i d).sample_delta) lasted
    ∙ sym (sum-take-expand samples delta runs i left d h inside)
    ∙ ap (λ n. sum (take n (durations runs))) (sym at)
    ∙ sym (start_is (durations runs) (count + 1) (omega arith))

-- so many samples are all, or more
pub lasted_all : (runs : List SttsEntry) (count i left end : ℕ) → length runs ≤ i
    → left + sum_by (λ r. r.sample_count) (take i runs) ≡ count
    → end ≡ sum_by (λ r. r.sample_count * r.sample_delta) (take i runs) → end ≡ start_of (durations runs) (count + 1)
lasted_all runs count i left end all counted lasted =
    let samples = λ (r : SttsEntry). r.sample_count in
    let delta = λ (r : SttsEntry). r.sample_delta in
    let ticks = λ (r : SttsEntry). r.sample_count * r.sample_delta in
    let whole : sum_by samples (take i runs) ≡ sum_by samples runs = ap (sum_by samples) (take_all i runs all) in
    let past : length (durations runs) ≤ count + 1 - 1 =
    omega (arith, whole, counted, length-expand samples delta runs) in
    lasted ∙ ap (sum_by ticks) (take_all i runs all) ∙ sym (sum-expand samples delta runs)
    ∙ ap sum (sym (take_all (count + 1 - 1) (durations runs) past))
    ∙ sym (start_is (durations runs) (count + 1) (omega arith))

-- number k falls in run i
pub time_at_in : (runs : List SttsEntry) (track k i before begin : ℕ) (d : SttsEntry) → 1 ≤ k → i < length runs
    → before ≡ sum_by (λ r. r.sample_count) (take i runs)
    → begin ≡ sum_by (λ r. r.sample_count * r.sample_delta) (take i runs) →
    before ≤ k - 1 → k - 1 - before < (get_or runs i d).sample_count →
    time_at runs track k
    ≡ Ok ((get_or runs i d).sample_delta, begin + (k - 1 - before) * (get_or runs i d).sample_delta)
unfolding time_at
time_at_in runs track k i before begin d first h counted timed reached inside =
    let r = get_or runs i d in
    let count = λ (r : SttsEntry). r.sample_count in
    let delta = λ (r : SttsEntry). r.sample_delta in
    let j = k - 1 - before in
    let at : k - 1 ≡ sum_by count (take i runs) + j = omega (arith, counted) in
    let fits : k - 1 < length (durations runs) =
    omega (arith, at, length-expand count delta runs, end_of_run count runs i d h) in
    let one : slice_get (durations runs) (k - 1) ≡ Some r.sample_delta =
    slice_get-get_or (durations runs) (k - 1) 0 fits
    ∙ ap Some (ap (λ n. get_or (durations runs) n 0) at ∙ get_or-expand count delta runs i j d 0 h inside) in
    let all : start_of (durations runs) k ≡ begin + j * r.sample_delta = start_is (durations runs) k first
    ∙ ap (λ n. sum (take n (durations runs))) at ∙ sum-take-expand count delta runs i j d h (omega arith)
    ∙ ap (λ n. n + j * r.sample_delta) (sym timed) in
    rw (one, all) refl

-- number k is past all runs
pub time_at_past : (runs : List SttsEntry) (track k i before : ℕ) → 1 ≤ k → length runs ≤ i
    → before ≡ sum_by (λ r. r.sample_count) (take i runs) → before ≤ k - 1
    → time_at runs track k ≡ Err (entry_in_stbl_not_found track stts k)
unfolding time_at
time_at_past runs track k i before first all counted reached =
    let count = λ (r : SttsEntry). r.sample_count in
    let whole : sum_by count (take i runs) ≡ sum_by count runs = ap (sum_by count) (take_all i runs all) in
    rw (slice_get_past (durations runs) (k - 1)
    (omega (arith, whole, counted, length-expand count (λ r. r.sample_delta) runs))) refl

-- the value of number k in the runs of ctts, or of any other table
pub value_in : {X A : Type 0} (count : X → ℕ) (value : X → A) (runs : List X) (k i before : ℕ) (d : X) (e : A)
    → i < length runs → before ≡ sum_by count (take i runs) → before ≤ k - 1
    → k - 1 - before < count (get_or runs i d)
    → get_or (expand count value runs) (k - 1) e ≡ value (get_or runs i d)
value_in count value runs k i before d e h counted reached inside =
    let at : k - 1 ≡ sum_by count (take i runs) + (k - 1 - before) = omega (arith, counted) in
    ap (λ n. get_or (expand count value runs) n e) at ∙ get_or-expand count value runs i (k - 1 - before) d e h inside

pub value_past : {X A : Type 0} (count : X → ℕ) (value : X → A) (runs : List X) (k i before : ℕ) (e : A)
    → length runs ≤ i → before ≡ sum_by count (take i runs) → before ≤ k - 1
    → get_or (expand count value runs) (k - 1) e ≡ e
value_past count value runs k i before e all counted reached =
    let whole : sum_by count (take i runs) ≡ sum_by count runs = ap (sum_by count) (take_all i runs all) in
    get_or_past (expand count value runs) (k - 1) e
    (rw (length-expand count value runs) (omega (arith, whole, counted)))
