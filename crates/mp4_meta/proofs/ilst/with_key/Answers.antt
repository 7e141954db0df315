use Rattle.std.proofs.Common.{refl}
use Rattle.mp4_meta.proofs.Items.{with_item-items_with, with_nothing}
use Rattle.mp4_meta.proofs.ilst.with_key.Goals as goal

pub returns-in-None : goal.returns-in-None
returns-in-None c =
    rw (c.in-None.is, with_nothing c.args.items c.args.key c.len-keys.ensures.each c.requires) refl

pub returns-in_ok-insert-in-Some : goal.returns-in_ok-insert-in-Some
returns-in_ok-insert-in-Some c =
    rw (
      c.in-Some.is,
      c.in_ok-insert-in-Some.ensures.ok,
      with_item-items_with c.args.items c.args.key c.in-Some.item c.len-keys.ensures.each,
    ) refl
