-- The arithmetic of stsc against the counts of its chunks, written out.
use Rattle.std.proofs.Common.{◌≡◌, ℕ, zero, suc, ◌+◌, ◌-◌, ◌*◌, ◌<◌, ◌≤◌, List}
use Rattle.std.proofs.Common.{length, get_or, take, sum, sym, ap, ◌∙◌, arith, add-one}
use Rattle.std.proofs.Common.{⊎_elim}
use Rattle.std.specs.Prelude.{nat_le, option_map, unwrap_or}
use Rattle.std.specs.List.{AllPairs, All}
use Rattle.std.proofs.lemmas.Bool.{le-leb, lt-leb, cases_eq}
use Rattle.std.proofs.lemmas.List.{get_or_default}
use Rattle.std.proofs.lemmas.List.FromFn.{get_or-map-range_with_len, length-map-range_with_len}
use Rattle.std.proofs.lemmas.List.Sums.{sum_by_more}
use Rattle.mp4_table.specs.declared.stsc.StscEntry.{StscEntry}
use Rattle.mp4_table.specs.Chunks.{samples_in, counts}
use Rattle.mp4_table.specs.Stsc.{HasFirstSamples}
use Rattle.mp4_samples.proofs.LastLaws.{last_where_is}

abbrev pub Rises : List StscEntry → Type 0
Rises entries = AllPairs (λ a b. a.first_chunk < b.first_chunk) entries

-- chunks after entry i's first are before those of later entries
before_later : (entries : List StscEntry) (i c k : ℕ) (d : StscEntry) → Rises entries
    → (i + 1 < length entries → c < (get_or entries (i + 1) d).first_chunk) → i < k → k < length entries
    → c < (get_or entries k d).first_chunk
before_later entries i c k d up to p q =
    ⊎_elim (λ (e : k ≡ i + 1). rw e (to (omega arith)))
    (λ ne. let further : i + 1 < k = omega (arith, ne) in omega (arith, up (i + 1) k d further q, to (omega arith)))
    (cases_eq k (i + 1))

-- chunk c is one of entry i's
pub samples_in_is : (entries : List StscEntry) (i c : ℕ) (d : StscEntry) → Rises entries → i < length entries
    → (get_or entries i d).first_chunk ≤ c → (i + 1 < length entries → c < (get_or entries (i + 1) d).first_chunk)
    → samples_in entries c ≡ (get_or entries i d).samples_per_chunk
unfolding samples_in
samples_in_is entries i c d up h from to =
    ap (λ o. unwrap_or (option_map (λ (e : StscEntry). e.samples_per_chunk) o) 0)
    (last_where_is (λ e. nat_le e.first_chunk c) entries i d h (le-leb _ _ from)
    (λ k e p q. rw (get_or_default entries k e d q) (lt-leb _ _ (before_later entries i c k d up to p q))))

pub length-counts : (entries : List StscEntry) (n : ℕ) → length (counts entries n) ≡ n
unfolding counts
length-counts entries n = length-map-range_with_len (samples_in entries) 1 n

pub get_or-counts : (entries : List StscEntry) (n c : ℕ) → c < n
    → get_or (counts entries n) c 0 ≡ samples_in entries (c + 1)
unfolding counts
get_or-counts entries n c h = get_or-map-range_with_len (samples_in entries) 1 n c (c + 1) 0 h (omega arith)

sum-take-counts_more : (entries : List StscEntry) (n c : ℕ) → c < n
    → sum (take (c + 1) (counts entries n)) ≡ sum (take c (counts entries n)) + samples_in entries (c + 1)
sum-take-counts_more entries n c h =
    sum_by_more (λ x. x) (counts entries n) c 0 (rw (length-counts entries n) h)
    ∙ ap (λ s. sum (take c (counts entries n)) + s) (get_or-counts entries n c h)

pub first_chunk_positive : (entries : List StscEntry) (i : ℕ) (d : StscEntry) → Rises entries
    → (get_or entries 0 d).first_chunk ≡ 1 → i < length entries → 1 ≤ (get_or entries i d).first_chunk
first_chunk_positive entries zero d up one h = omega (arith, one)
first_chunk_positive entries (suc i) d up one h = omega (arith, one, up 0 (suc i) d (omega arith) h)

-- m chunks on from entry i's first, from what holds at its first
along : (entries : List StscEntry) (n i : ℕ) (d : StscEntry) → Rises entries → i < length entries →
    ((c : ℕ) → c + 1 ≡ (get_or entries i d).first_chunk
    → sum (take c (counts entries n)) + 1 ≡ (get_or entries i d).first_sample) →
    (m c : ℕ) → c + 1 ≡ (get_or entries i d).first_chunk + m → 1 ≤ (get_or entries i d).first_chunk → c ≤ n
    → (i + 1 < length entries → c + 1 ≤ (get_or entries (i + 1) d).first_chunk) →
    sum (take c (counts entries n)) + 1
    ≡ (get_or entries i d).first_sample + m * (get_or entries i d).samples_per_chunk
along entries n i d up h base zero c e pos fits to = omega (arith, base c (omega arith))
along entries n i d up h base (suc m) zero e pos fits to = absurd (omega arith)
along entries n i d up h base (suc m) (suc c) e pos fits to =
    let inner : sum (take c (counts entries n)) + 1
    ≡ (get_or entries i d).first_sample + m * (get_or entries i d).samples_per_chunk =
    along entries n i d up h base m c (omega arith) pos (omega arith) (λ q. omega (arith, to q)) in
    let here : samples_in entries (suc c) ≡ (get_or entries i d).samples_per_chunk =
    samples_in_is entries i (suc c) d up h (omega arith) (λ q. omega (arith, to q)) in
    let more : sum (take (suc c) (counts entries n)) ≡ sum (take c (counts entries n)) + samples_in entries (suc c) =
    rw (add-one c) at (sum-take-counts_more entries n c (omega arith)) in
    omega (arith, inner, here, more)

-- Before chunk c + 1, which is the m-th after entry i's first, lie the entry's first sample less 1 and m chunks'
-- samples.
pub sum-take-counts : (entries : List StscEntry) (n i : ℕ) (d : StscEntry) → Rises entries → HasFirstSamples entries
    → (get_or entries 0 d).first_chunk ≡ 1 → All (λ e. e.first_chunk ≤ n) entries → i < length entries →
    (m c : ℕ) → c + 1 ≡ (get_or entries i d).first_chunk + m → 1 ≤ (get_or entries i d).first_chunk → c ≤ n
    → (i + 1 < length entries → c + 1 ≤ (get_or entries (i + 1) d).first_chunk) →
    sum (take c (counts entries n)) + 1
    ≡ (get_or entries i d).first_sample + m * (get_or entries i d).samples_per_chunk
sum-take-counts entries n zero d up firsts one fit h = along entries n zero d up h
    (λ c e. let none : c ≡ 0 = omega (arith, one) in rw none (sym (firsts.first d h)))
sum-take-counts entries n (suc i) d up firsts one fit h = along entries n (suc i) d up h
    (λ c e.
    let a = get_or entries i d in
    let b = get_or entries (suc i) d in
    let less : a.first_chunk < b.first_chunk = up i (suc i) d (omega arith) h in
    let before : 1 ≤ a.first_chunk = first_chunk_positive entries i d up one (omega arith) in
    let whole : sum (take c (counts entries n)) + 1
    ≡ a.first_sample + (b.first_chunk - a.first_chunk) * a.samples_per_chunk =
    sum-take-counts entries n i d up firsts one fit (omega arith) (b.first_chunk - a.first_chunk) c
    (omega arith) before (omega (arith, fit (suc i) d h)) (λ q. rw (add-one i) (omega arith)) in
    whole ∙ sym (rw (add-one i) at (firsts.next i d (omega arith))))
