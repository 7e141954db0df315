use Rattle.std.proofs.Common.{◌-◌, ◌≡◌, ◌+◌, ◌≤◌, length, drop, take, IfSome}
use Rattle.mp4_remux.specs.Splice.{spliced}
use Rattle.mp4_remux.proofs.splice.SpliceByteSource.read_exact_at.Given as goal

-- what was filled are the bytes from the place on, and only the source was borrowed, which has the bytes that it had
abbrev pub invariant-loop-filled : goal.invariant-loop-filled
invariant-loop-filled g l = record {
  room : l.n ≡ length l.buf;
  whole : l.n ≡ length l.fn.buf;
  upto : l.filled ≤ l.n;
  place : l.place ≡ l.fn.place;
  within : l.fn.place + l.n ≤ l.fn.self.layout.len;
  layout : l.self.layout ≡ l.fn.self.layout;
  contents : g.S.ByteSource.contents l.self.source ≡ g.S.ByteSource.contents l.fn.self.source;
  can_refuse : g.S.ByteSource.can_refuse l.self.source ≡ g.S.ByteSource.can_refuse l.fn.self.source;
  bytes : IfSome (g.S.ByteSource.contents l.fn.self.source) (λ xs. take l.filled l.buf
      ≡ take l.filled (drop l.fn.place (spliced xs l.fn.self.layout.made.items l.fn.self.layout.pieces.items)));
}

abbrev pub decreases-loop-filled : goal.decreases-loop-filled
decreases-loop-filled g l = l.n - l.filled
