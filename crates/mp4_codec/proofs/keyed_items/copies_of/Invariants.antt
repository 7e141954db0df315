use Rattle.std.proofs.Common.{◌≡◌, take}
use Rattle.std.specs.HashMap.{get}
use Rattle.mp4_codec.proofs.Keyed.{copied_at}
use Rattle.mp4_codec.proofs.keyed_items.copies_of.Given as goal

abbrev pub invariant-loop-key : goal.invariant-loop-key
invariant-loop-key g l = (q : _)
    → get g.K.PartialEq.eq l.copies q
    ≡ copied_at g.K.PartialEq.eq (get g.K.PartialEq.eq l.items) (take l.key-index l.key-items) q
