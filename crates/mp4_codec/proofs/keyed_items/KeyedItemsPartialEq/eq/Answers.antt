use Rattle.mp4_codec.proofs.Keyed.{hash_map_eq-pointwise}
use Rattle.mp4_codec.proofs.keyed_items.KeyedItemsPartialEq.eq.Goals as goal

pub returns : goal.returns
returns g c =
    rw (c.eq.ensures, ← c.self.view_is, ← c.other.view_is)
    (hash_map_eq-pointwise g.V.PartialEq.eq g.met.K.Eq.laws c.self.inside.items c.other.inside.items g.K.Key.all
    g.met.K.Key.is_listed)
