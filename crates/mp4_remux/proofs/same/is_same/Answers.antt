use Rattle.std.proofs.Common.{refl}
use Rattle.mp4_remux.proofs.same.is_same.Goals as goal

pub returns : goal.returns
returns c = (
  λ is. record {
    size = c.if-after-before.false;
    start_time = c.if-after-before-2.false;
    duration = c.if-after-before-3.false;
    rendering_offset = c.if-not-is_equal.ensures.0 refl;
    is_sync = c.if-not-is_equal-2.ensures.0 refl;
    bytes = c.is_part.ensures.0 is;
  },
  λ same. c.is_part.ensures.1 same.bytes,
)
