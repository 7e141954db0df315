use Rattle.std.proofs.Common.{◌≡◌, IfOk, subst, ◌∙◌, ap}
use Rattle.mp4_mux.specs.ColumnTables.{true_numbers_from}
use Rattle.mp4_mux.proofs.ColumnTableLaws.{true_numbers-map}
use Rattle.mp4_mux.proofs.tables.sync_numbers.Goals as goal

pub returns : goal.returns
returns c =
    subst (λ xs. IfOk c.true_numbers.result (λ numbers. numbers.items ≡ xs))
    (ap (true_numbers_from 1) c.syncs.ensures ∙ true_numbers-map 1 c.args.samples.now)
    c.true_numbers.ensures
