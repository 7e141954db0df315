use Rattle.std.proofs.Common.{◌∙◌, ap}
use Rattle.std.specs.List.{count_by}
use Rattle.mp4_mux.proofs.ColumnTableLaws.{true_count-map}
use Rattle.mp4_mux.proofs.table_sizes.sync_count.Goals as goal

pub returns : goal.returns
returns c =
    c.true_count.ensures ∙ ap (count_by (λ b. b)) c.syncs.ensures ∙ true_count-map c.args.samples.now
