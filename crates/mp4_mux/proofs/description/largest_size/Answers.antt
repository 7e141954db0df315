use Rattle.std.proofs.Common.{◌∙◌, ap, fold, max}
use Rattle.mp4_mux.proofs.ColumnTableLaws.{largest-map}
use Rattle.mp4_mux.proofs.description.largest_size.Goals as goal

pub returns : goal.returns
returns c = c.largest.ensures ∙ ap (fold max 0) c.sizes.ensures ∙ largest-map 0 c.args.samples.now
