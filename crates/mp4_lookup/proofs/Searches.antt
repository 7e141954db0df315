-- What a search in sums, first samples or sync numbers says of the tables.
use Rattle.std.proofs.Common.{◌≡◌, ℕ, zero, suc, ◌+◌, ◌-◌, ◌*◌, ◌^◌, ◌<◌, ◌≤◌, false, List}
use Rattle.std.proofs.Common.{length, get_or, take, map, sum, Some, None, sym, ap, ◌∙◌, arith, add-one}
use Rattle.std.proofs.Common.{⊎_elim}
use Rattle.std.specs.Prelude.{nat_le, ◌==◌, slice_index, slice_range}
use Rattle.std.specs.List.{list_any, All}
use Rattle.std.specs.List.Sorted.{IsNonDecreasing, IsStrictlyIncreasing}
use Rattle.std.proofs.Math.Seq.{take-add}
use Rattle.std.proofs.lemmas.Bool.{le-leb, lt-leb, cases_lt, cases_eq, eq-eqb, ne_eqb}
use Rattle.std.proofs.lemmas.List.{get_or_default, get_or-map, length-map, length-take}
use Rattle.std.proofs.lemmas.List.Elements.{All-take}
use Rattle.std.proofs.lemmas.List.Sums.{sum_by-append, sum_by-le}
use Rattle.std.proofs.lemmas.List.Folds.{list_any_none, list_any_at}
use Rattle.mp4_table.specs.declared.stsc.StscEntry.{StscEntry}
use Rattle.mp4_table.specs.Chunks.{last_where}
use Rattle.mp4_table.specs.Stsc.{HasFirstSamples}
use Rattle.mp4_search.specs.Search.{IsLastAtMost}
use Rattle.mp4_search.specs.Sums.{SumsBefore64}
use Rattle.mp4_samples.proofs.LastLaws.{last_where_is, last_where_none}
use Rattle.mp4_lookup.proofs.EntryLaws.{first_samples_climb}

-- what rises

pub first_samples_rise : (entries : List StscEntry) → HasFirstSamples entries
    → IsNonDecreasing (map (λ e. e.first_sample) entries)
first_samples_rise entries firsts i j d h k =
    let e : StscEntry = record {
      first_chunk = 0;
      samples_per_chunk = 0;
      sample_description_index = 0;
      first_sample =
          d;
    } in
    let within : j < length entries = rw length-map at k in
    rw (
      get_or-map (λ (e : StscEntry). e.first_sample) entries i e d (omega arith),
      get_or-map (λ (e : StscEntry). e.first_sample) entries j e d within,
    )
    (first_samples_climb entries e firsts i j h within)

pub climbs : (xs : List ℕ) → IsStrictlyIncreasing xs → (i j : ℕ) → i ≤ j → j < length xs
    → slice_index xs i ≤ slice_index xs j
climbs xs up i zero h k = let e : i ≡ 0 = omega arith in rw e (omega arith)
climbs xs up i (suc j) h k =
    ⊎_elim (λ (e : i ≡ suc j). rw e (omega arith))
    (λ ne. omega (
      arith,
      climbs xs up i j (omega (arith, ne)) (omega arith),
      rw (add-one j) at (up j (omega arith)),
    )) (cases_eq i (suc j))

pub strictly_rise : (xs : List ℕ) → IsStrictlyIncreasing xs → IsNonDecreasing xs
strictly_rise xs up i j d h k =
    rw (get_or_default xs i d 0 (omega arith), get_or_default xs j d 0 k) (climbs xs up i j h k)

-- stsc

pub last_where-searched : {X : Type 0} (f : X → ℕ) (xs : List X) (key i : ℕ) (d : X) → IsLastAtMost (map f xs) key i
    → last_where (λ x. nat_le (f x) key) xs ≡ Some (get_or xs i d)
last_where-searched f xs key i d at =
    let within : i < length xs = rw length-map at at.within in
    let small : f (get_or xs i d) ≤ key = rw (← get_or-map f xs i d 0 within) at.small in
    last_where_is (λ x. nat_le (f x) key) xs i d within (le-leb _ _ small)
    (λ j e p q. lt-leb _ _ (rw (← get_or-map f xs j e 0 q) (at.later j p (rw (length-map xs f) q))))

pub last_where-searched_none : {X : Type 0} (f : X → ℕ) (xs : List X) (key : ℕ)
    → ((j : ℕ) → j < length (map f xs) → key < slice_index (map f xs) j)
    → last_where (λ x. nat_le (f x) key) xs ≡ None
last_where-searched_none f xs key above =
    last_where_none (λ x. nat_le (f x) key) xs
    (λ j e q. lt-leb _ _ (rw (← get_or-map f xs j e 0 q) (above j (rw (length-map xs f) q))))

-- stss

pub list_any-searched : (xs : List ℕ) (key i : ℕ) → IsNonDecreasing xs → IsLastAtMost xs key i
    → (slice_index xs i == key) ≡ list_any (λ n. n == key) xs
list_any-searched xs key i up at =
    ⊎_elim
    (λ (e : slice_index xs i ≡ key). eq-eqb _ _ e ∙ sym (list_any_at (λ n. n == key) xs i 0 at.within (eq-eqb _ _ e)))
    (λ ne. ne_eqb _ _ ne
    ∙ sym (list_any_none (λ n. n == key) xs (λ j d h. rw (get_or_default xs j d 0 h) (ne_eqb _ _ (λ e.
    ⊎_elim (λ (later : i < j). absurd (omega (arith, at.later j later h, e)))
    (λ (q : j ≤ i). omega (arith, up j i 0 q at.within, at.small, e, ne)) (cases_lt i j))))))
    (cases_eq (slice_index xs i) key)

pub list_any-searched_none : (xs : List ℕ) (key : ℕ) → ((j : ℕ) → j < length xs → key < slice_index xs j)
    → list_any (λ n. n == key) xs ≡ false
list_any-searched_none xs key above =
    list_any_none (λ n. n == key) xs
    (λ j d h. rw (get_or_default xs j d 0 h) (ne_eqb _ _ (λ e. omega (arith, above j h, e))))

-- sizes

-- the sum from one place to another is the difference of the sums before them
pub sum-slice_range : (xs : List ℕ) (a b : ℕ) → a ≤ b → sum (slice_range xs a b) + sum (take a xs) ≡ sum (take b xs)
sum-slice_range xs a b h =
    let e : b ≡ a + (b - a) = omega arith in
    let cut : sum (take (a + (b - a)) xs) ≡ sum (take a xs) + sum (slice_range xs a b) =
    ap sum (take-add a (b - a) xs) ∙ sum_by-append (λ x. x) (take a xs) (slice_range xs a b) in
    let same : sum (take b xs) ≡ sum (take (a + (b - a)) xs) = ap (λ n. sum (take n xs)) e in
    omega (arith, cut, same)

pub first_sample_found : (entries : List StscEntry) (k i : ℕ) (d : StscEntry)
    → IsLastAtMost (map (λ e. e.first_sample) entries) k i
    → (i < length entries) × ((get_or entries i d).first_sample ≤ k)
first_sample_found entries k i d at =
    let within : i < length entries = rw length-map at at.within in
    (within, rw (← get_or-map (λ (e : StscEntry). e.first_sample) entries i d 0 within) at.small)

-- so many bytes as samples of sizes of 32 bits have
size_before : (xs : List ℕ) (i : ℕ) → All (λ x. x < 2 ^ 32) xs → sum (take i xs) ≤ i * (2 ^ 32 - 1)
size_before xs i small =
    let most = sum_by-le (λ x. x) (2 ^ 32 - 1) (take i xs)
    (λ k d h. omega (arith, All-take (λ x. x < 2 ^ 32) i xs small k d h)) in
    omega (arith, most, length-take i xs)

-- the same, read off the sums: those before numbers of 32 bits stay below 2 ^ 64
pub sums_between : (xs sums : List ℕ) (first k : ℕ) → SumsBefore64 (λ s. s) xs sums → All (λ x. x < 2 ^ 32) xs
    → 1 ≤ first → first ≤ k → k ≤ length xs → k < 2 ^ 32
    → slice_index sums (first - 1) + sum (slice_range xs (first - 1) (k - 1)) ≡ slice_index sums (k - 1)
sums_between xs sums first k s small h1 h2 h3 h4 =
    omega (
      arith,
      s.each (first - 1) (omega arith),
      s.each (k - 1) (omega arith),
      size_before xs (first - 1) small,
      size_before xs (k - 1) small,
      sum-slice_range xs (first - 1) (k - 1) (omega arith),
    )
