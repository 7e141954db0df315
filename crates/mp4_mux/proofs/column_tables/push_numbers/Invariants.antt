use Rattle.std.proofs.Common.{◌≡◌, ◌+◌, ◌++◌, replicate, true}
use Rattle.mp4_mux.specs.ColumnTables.{true_numbers_from}
use Rattle.mp4_mux.proofs.column_tables.push_numbers.Given as goal

abbrev pub invariant-loop-k : goal.invariant-loop-k
invariant-loop-k l =
    l.numbers.items ≡ l.fn.numbers.items ++ true_numbers_from (l.before + 1) (replicate l.k true)
