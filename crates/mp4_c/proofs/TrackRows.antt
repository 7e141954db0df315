-- The ids of tracks, and rows that are filled in one after the other.
use Rattle.std.proofs.Common.{◌≡◌, ◌≢◌, ℕ, ◌+◌, ◌<◌, List, length, get_or, arith, below_more, eqb, get_or-set_other}
use Rattle.std.proofs.Common.{ap, drop, get_or-set_same, sym, ◌∙◌}
use Rattle.std.proofs.Math.ListN.{set}
use Rattle.std.proofs.lemmas.Bool.Decides.{nat_tests}
use Rattle.std.proofs.lemmas.List.Sorted.{IsNonDecreasingBy-from_sort}
use Rattle.std.proofs.lemmas.Map.Keys.{IsDistinct-IsPermutation, IsStrictlyIncreasing-from_distinct}
use Rattle.std.specs.HashMap.{HashMap}
use Rattle.std.specs.List.{IsDistinct}
use Rattle.std.specs.List.Sorted.{IsPermutation, IsSorted, IsStrictlyIncreasing}
use Rattle.std.specs.Ordering.{nat_cmp}
use Rattle.mp4_lookup.specs.declared.track.Mp4Track.{Mp4Track}
use Rattle.mp4_c.specs.declared.tracks.TrackInfo.{TrackInfo}
use Rattle.mp4_c.specs.TrackRows.{HasRows, IsRowOf}

-- numbers that differ rise once they are sorted
pub rising_once_sorted : (numbers sorted : List ℕ) → IsDistinct eqb numbers → IsPermutation numbers sorted
    → IsSorted nat_cmp sorted → IsStrictlyIncreasing sorted
rising_once_sorted numbers sorted apart moved in_order =
    IsStrictlyIncreasing-from_distinct sorted (IsNonDecreasingBy-from_sort (λ n. n) sorted in_order)
    (IsDistinct-IsPermutation eqb (λ x y. grind (arith, nat_tests)) numbers sorted moved apart)

-- a row more has what each row before it has
pub each_next : {T : Type 0} (P : ℕ → T → Type 0) (rows : List T) (k : ℕ) (x : T) → k < length rows
    → ((d : T) (j : ℕ) → j < k → P j (get_or rows j d)) → P k x
    → (d : T) (j : ℕ) → j < k + 1 → P j (get_or (set rows k x) j d)
each_next P rows k x here each last d =
    below_more (λ j. P j (get_or (set rows k x) j d)) k
    (λ j below. let other : j ≢ k = omega arith in rw (get_or-set_other rows k j x d other) (each d j below))
    (rw (get_or-set_same rows k x d here) last)

-- each track has a row
pub all_filled : {S : Type 0} (tracks : HashMap ℕ Mp4Track S) (ids : List ℕ) (old rows new : List TrackInfo) (k : ℕ)
    → new ≡ rows → ((d : TrackInfo) (j : ℕ) → j < k → IsRowOf tracks (get_or ids j 0) (get_or rows j d))
    → drop k rows ≡ drop k old → k ≡ length ids → HasRows tracks ids old new
all_filled tracks ids old rows new k same each rest end = record {
  rows = λ d j below. let earlier : j < k = omega arith in rw same (each d j earlier);
  rest = ap (λ l. drop (length ids) l) same ∙ ap (λ n. drop n rows) (sym end) ∙ rest ∙ ap (λ n. drop n old) end;
}
