use Rattle.std.proofs.Common.{sym}
use Rattle.mp4_codec.proofs.Keyed.{held_at-held_in}
use Rattle.mp4_codec.proofs.keyed_items.KeyedItems.get.Goals as goal

pub returns : goal.returns
returns g c =
    rw (c.get.ensures.value, ← c.self.view_is)
    (sym (held_at-held_in g.met.K.Eq.laws c.self.inside.items g.K.Key.all c.args.key
    (g.met.K.Key.is_listed c.args.key)))
