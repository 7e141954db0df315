use Rattle.std.proofs.Common.{◌∙◌, ap}
use Rattle.mp4_mux.specs.ColumnTables.{same_size}
use Rattle.mp4_mux.proofs.ColumnTableLaws.{same_size-map}
use Rattle.mp4_mux.proofs.tables.one_size.Goals as goal

pub returns : goal.returns
returns c = c.same_size.ensures ∙ ap same_size c.sizes.ensures ∙ same_size-map c.args.samples.now
