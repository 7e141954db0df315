use Rattle.mp4_codec.proofs.Keyed.{hash_map_len-count}
use Rattle.mp4_codec.proofs.keyed_items.KeyedItems.len.Goals as goal

pub returns-clause-value : goal.returns-clause-value
returns-clause-value g c =
    rw (c.len.ensures.len, ← c.self.view_is)
    (hash_map_len-count g.met.K.Eq.laws c.self.inside.items g.K.Key.all c.len.ensures.unique g.met.K.Key.listed_once
    g.met.K.Key.is_listed)
