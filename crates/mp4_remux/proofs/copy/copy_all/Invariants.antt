use Rattle.std.proofs.Common.{◌-◌, ◌≡◌, ◌+◌, ◌≤◌}
use Rattle.mp4_remux.proofs.Copying.{AreCopied}
use Rattle.mp4_remux.proofs.copy.copy_all.Given as goal

-- the bytes before the place are copied, and only they
abbrev pub invariant-loop-place : goal.invariant-loop-place
invariant-loop-place g l = record {
  upto : l.place ≤ l.len;
  len : l.len ≡ l.fn.len;
  contents : g.S.ByteSource.contents l.source ≡ g.S.ByteSource.contents l.fn.source;
  can_refuse : g.S.ByteSource.can_refuse l.source ≡ g.S.ByteSource.can_refuse l.fn.source;
  sink_can_refuse : g.K.ByteSink.can_refuse l.sink ≡ g.K.ByteSink.can_refuse l.fn.sink;
  count : g.K.ByteSink.len l.sink ≡ g.K.ByteSink.len l.fn.sink + l.place;
  copied : AreCopied (g.S.ByteSource.contents l.fn.source) l.place (g.K.ByteSink.contents l.fn.sink)
      (g.K.ByteSink.contents l.sink);
}

abbrev pub decreases-loop-place : goal.decreases-loop-place
decreases-loop-place g l = l.len - l.place
