use Rattle.std.proofs.Common.{◌≡◌}
use Rattle.mp4_remux.proofs.segment_index.check_moved.Given as goal

-- the source has the bytes that it had, and can refuse only if it could
abbrev pub invariant-loop-i : goal.invariant-loop-i
invariant-loop-i g l = record {
  contents : g.S.ByteSource.contents l.source ≡ g.S.ByteSource.contents l.fn.source;
  can_refuse : g.S.ByteSource.can_refuse l.source ≡ g.S.ByteSource.can_refuse l.fn.source;
  len : l.len ≡ l.fn.len;
}
