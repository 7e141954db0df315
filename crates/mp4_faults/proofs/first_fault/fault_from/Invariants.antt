use Rattle.std.proofs.Common.{◌≡◌, ◌-◌}
use Rattle.std.specs.Prelude.{IfSome}
use Rattle.mp4_faults.proofs.Walked.{WalksTo}
use Rattle.mp4_faults.proofs.first_fault.fault_from.Given as goal

-- Where the bytes are known, these are the boxes up to the cursor, none of which has a fault. The source has the bytes
-- that it had.
abbrev pub invariant-loop-open_type : goal.invariant-loop-open_type
invariant-loop-open_type g l = record {
  walked : IfSome (g.S.ByteSource.contents l.fn.reader.source) (λ bytes.
      WalksTo l.size bytes l.fn.reader.position l.seen l.reader.position);
  contents : g.S.ByteSource.contents l.reader.source ≡ g.S.ByteSource.contents l.fn.reader.source;
  can_refuse : g.S.ByteSource.can_refuse l.reader.source ≡ g.S.ByteSource.can_refuse l.fn.reader.source;
  same_len : l.reader.len ≡ l.fn.reader.len;
}

abbrev pub decreases-loop-open_type : goal.decreases-loop-open_type
decreases-loop-open_type g l = l.size - l.reader.position
