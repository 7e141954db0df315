use Rattle.mp4_codec.proofs.Keyed.{held_in-with_item}
use Rattle.mp4_codec.proofs.keyed_items.KeyedItems.insert.Goals as goal

pub returns-clause-ok : goal.returns-clause-ok
returns-clause-ok g c =
    rw (← c.self.view_is) (held_in-with_item g.K.PartialEq.eq c.self.inside.items c.insert.new.self g.K.Key.all
    c.args.key c.args.value c.in_ok-insert.ensures.updates.0)
