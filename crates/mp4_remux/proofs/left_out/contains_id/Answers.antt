use Rattle.std.proofs.Common.{◌∙◌}
use Rattle.mp4_remux.proofs.Finding.{found_by}
use Rattle.mp4_remux.proofs.left_out.contains_id.Goals as goal

pub returns : goal.returns
returns c = c.is_ok.ensures.value
    ∙ found_by c.args.sorted.now c.args.id c.binary_search.result c.requires c.binary_search.ensures.position
