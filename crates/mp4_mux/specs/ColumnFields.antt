-- What the fields of a column keep true of one another.
use Rattle.std.specs.Prelude.{◌≡◌, ℕ, ◌<◌, ◌≤◌, List, length}
use Rattle.std.specs.List.{AllByRecursion}
use Rattle.mp4_mux.specs.declared.column.Run.{Run}
use Rattle.mp4_mux.specs.Columns.{values_of, runs_in}

pub record IsColumn {X : Type 0} (runs : List (Run X)) (last : Run X) (each : List X) (len : ℕ) : Type 0 where
  pub counted : length (values_of (runs_in runs last each)) ≡ len
  -- no run is empty, but for the last where there is no value
  pub some_per_run : AllByRecursion (λ (r : Run X). 1 ≤ r.count) runs
  pub some_at_end : 0 < len → 1 ≤ last.count
