-- Lists of values as runs of equal neighbours.
use Rattle.std.specs.Prelude.{List, [], ◌∷◌, ◌++◌, map, replicate}
use Rattle.mp4_mux.specs.declared.column.Run.{Run}

-- the values, run after run
unfoldable pub values_of : {X : Type 0} → List (Run X) → List X
values_of [] = []
values_of (r ∷ rs) = replicate r.count r.value ++ values_of rs

-- one value as a run
abbrev pub one_run : {X : Type 0} → X → Run X
one_run x = record { count = 1; value = x }

-- the runs that are over, the last one, and the values after it
abbrev pub runs_in : {X : Type 0} → List (Run X) → Run X → List X → List (Run X)
runs_in runs last each = runs ++ last ∷ map one_run each
