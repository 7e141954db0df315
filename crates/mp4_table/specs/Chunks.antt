-- Samples in chunks: how many each chunk has, and where each lies (ISO/IEC 14496-12, 8.7.3 to 8.7.5).
use Rattle.std.specs.Prelude.{ℕ, ◌+◌, ◌≤◌, Bool, List, [], ◌∷◌, ◌++◌, take, drop, map, fold, Option, Some, None}
use Rattle.std.specs.Prelude.{IsSome, option_map, unwrap_or, nat_le, if◌then◌else◌}
use Rattle.std.specs.List.{range_with_len}
use Rattle.mp4_table.specs.declared.stsc.StscEntry.{StscEntry}

-- the last member that passes the test
abbrev pub last_where : {X : Type 0} → (X → Bool) → List X → Option X
last_where test xs = fold (λ found x. if test x then Some x else found) None xs

-- the entry of chunk c: the last whose first chunk is at most c
abbrev pub entry_of : List StscEntry → ℕ → Option StscEntry
entry_of entries c = last_where (λ e. nat_le e.first_chunk c) entries

-- how many samples chunk c has, as its entry says
unfoldable pub samples_in : List StscEntry → ℕ → ℕ
samples_in entries c = unwrap_or (option_map (λ e. e.samples_per_chunk) (entry_of entries c)) 0

-- how many samples each of the chunks 1 to n has
unfoldable pub counts : List StscEntry → ℕ → List ℕ
counts entries n = map (samples_in entries) (range_with_len 1 n)

-- each of the chunks 1 to n has an entry
abbrev pub EachHasEntry : List StscEntry → ℕ → Type 0
EachHasEntry entries n = (c : ℕ) → 1 ≤ c → c ≤ n → IsSome (entry_of entries c)

-- samples of these sizes, one after the other from a place on: the place and the size of each
unfoldable pub laid_from : ℕ → List ℕ → List (ℕ × ℕ)
laid_from place [] = []
laid_from place (size ∷ sizes) = (place, size) ∷ laid_from (place + size) sizes

-- The sizes cut into pieces of these counts, a chunk each: the place and the size of each sample, the first of a
-- chunk at
-- its offset.
unfoldable pub places : List ℕ → List ℕ → List ℕ → List (ℕ × ℕ)
places [] offsets sizes = []
places (n ∷ counts) [] sizes = []
places (n ∷ counts) (offset ∷ offsets) sizes = laid_from offset (take n sizes) ++ places counts offsets (drop n sizes)
