-- Runs of equal values, and the lists that they stand for (ISO/IEC 14496-12, 8.6.1.2 and 8.6.1.3).
use Rattle.std.specs.Prelude.{ℕ, ◌+◌, ℤ, Bool, List, [], ◌∷◌, replicate, if◌then◌else◌}
use Rattle.std.specs.List.{flat_map}
use Rattle.mp4_table.specs.declared.stts.SttsEntry.{SttsEntry}
use Rattle.mp4_table.specs.declared.ctts.CttsEntry.{CttsEntry}

-- each run's value repeated by its count, run after run
unfoldable pub expand : {R A : Type 0} → (R → ℕ) → (R → A) → List R → List A
expand count value runs = flat_map (λ r. replicate (count r) (value r)) runs

-- how long each sample lasts, in order
abbrev pub durations : List SttsEntry → List ℕ
durations runs = expand (λ r. r.sample_count) (λ r. r.sample_delta) runs

-- how much later than it is decoded each sample is shown, in order
abbrev pub rendering_offsets : List CttsEntry → List ℤ
rendering_offsets runs = expand (λ r. r.sample_count) (λ r. r.sample_offset) runs

-- how many members differ from the one before them; before the first is x
unfoldable pub changes_after : {A : Type 0} → (A → A → Bool) → A → List A → ℕ
changes_after same x [] = 0
changes_after same x (y ∷ ys) = (if same x y then 0 else 1) + changes_after same y ys

-- how many members are the first or differ from the one before
unfoldable pub changes : {A : Type 0} → (A → A → Bool) → List A → ℕ
changes same [] = 0
changes same (x ∷ xs) = 1 + changes_after same x xs
