use Rattle.std.proofs.Common.{arith}
use Rattle.mp4_codec.specs.Framing.{IsBytes}
use Rattle.mp4_codec.proofs.Framed.{bytes_of, has_children, only_children}
use Rattle.mp4_codec.proofs.laws.payload_has_its_children.Goals as goal

pub returns : goal.returns
returns c =
    let bytes : IsBytes c.args.payload.now = bytes_of c.args.payload.now (λ k. omega (arith, c.type_inv.payload k)) in
    record { are = has_children c.args.payload.now bytes; only = only_children c.args.payload.now bytes }
