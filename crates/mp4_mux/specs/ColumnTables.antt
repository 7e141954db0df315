-- What the tables say of the samples, from a list of one kind of number.
use Rattle.std.specs.Prelude.{ℕ, ◌+◌, ℤ, Bool, List, [], ◌∷◌, if◌then◌else◌, ◌==◌}
use Rattle.std.specs.List.{list_all}
use Rattle.mp4_table.specs.declared.stts.SttsEntry.{SttsEntry}
use Rattle.mp4_table.specs.declared.ctts.CttsEntry.{CttsEntry}

abbrev pub stts_entry : ℕ → ℕ → SttsEntry
stts_entry n duration = record { sample_count = n; sample_delta = duration }

abbrev pub ctts_entry : ℕ → ℤ → CttsEntry
ctts_entry n offset = record { sample_count = n; sample_offset = offset }

-- the numbers of those that are true, where the first has number k
unfoldable pub true_numbers_from : ℕ → List Bool → List ℕ
true_numbers_from k [] = []
true_numbers_from k (b ∷ bs) = if b then k ∷ true_numbers_from (k + 1) bs else true_numbers_from (k + 1) bs

-- the size that all have, and 0 where they differ
unfoldable pub same_size : List ℕ → ℕ
same_size [] = 0
same_size (x ∷ xs) = if list_all (λ y. y == x) xs then x else 0
