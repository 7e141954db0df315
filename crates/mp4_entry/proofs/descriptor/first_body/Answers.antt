use Rattle.std.proofs.Common.{arith, sym}
use Rattle.mp4_entry.specs.DescriptorLaws.{descriptor_at-shorter, first_of-found, first_of-passed, first_of-ended}
use Rattle.mp4_entry.proofs.descriptor.first_body.Goals as goal

pub returns-then-other-tag : goal.returns-then-other-tag
returns-then-other-tag c =
    first_of-found c.args.tag c.in-Some.other c.loop-other.rest c.in-Some.body.now c.descriptor.new.self _
    (rw c.in-Some.is at c.descriptor.ensures) (grind arith) c.loop-other.invariant

pub loop-other-preserved : goal.loop-other-preserved
loop-other-preserved c =
    first_of-passed c.args.tag c.in-Some.other c.loop-other.rest c.in-Some.body.now c.descriptor.new.self _
    (rw c.in-Some.is at c.descriptor.ensures) (grind arith) c.loop-other.invariant

pub loop-other-smaller : goal.loop-other-smaller
loop-other-smaller c =
    descriptor_at-shorter c.loop-other.rest _ (sym (rw c.in-Some.is at c.descriptor.ensures))

pub returns : goal.returns
returns c =
    first_of-ended c.args.tag c.loop-other.rest _ (rw c.in_default.is at c.descriptor.ensures) c.loop-other.invariant
