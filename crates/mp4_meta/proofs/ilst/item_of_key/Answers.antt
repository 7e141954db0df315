use Rattle.std.proofs.Common.{◌∙◌}
use Rattle.mp4_meta.proofs.Items.{held_at-item_at}
use Rattle.mp4_meta.proofs.ilst.item_of_key.Goals as goal

pub returns : goal.returns
returns c = c.get.ensures ∙ held_at-item_at c.args.items.now c.args.key c.len-keys.ensures.each
