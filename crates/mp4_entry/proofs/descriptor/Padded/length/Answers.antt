use Rattle.std.proofs.Common.{arith}
use Rattle.mp4_entry.proofs.Lengths.{few, ends, goes_on, is_done}
use Rattle.mp4_entry.proofs.descriptor.Padded.length.Goals as goal

pub overflow_mul-length : goal.overflow_mul-length
overflow_mul-length c =
    let short = few c.loop.counter c.loop.length c.loop-test.true c.loop.invariant.small in omega (arith, short)

pub overflow_add-length : goal.overflow_add-length
overflow_add-length c =
    let short = few c.loop.counter c.loop.length c.loop-test.true c.loop.invariant.small in omega (arith, short)

pub returns-then-byte-lt128 : goal.returns-then-byte-lt128
returns-then-byte-lt128 c =
    ends _ c.loop.counter c.loop.length c.loop.self c.u8-byte.result c.u8-byte.new.self c.loop-test.true
    c.u8-byte.ensures c.if-byte-lt128.true c.loop.invariant

pub loop-preserved : goal.loop-preserved
loop-preserved c =
    goes_on _ c.loop.counter c.loop.length c.loop.self c.u8-byte.result c.u8-byte.new.self c.loop-test.true
    c.u8-byte.ensures c.if-byte-lt128.false c.loop.invariant

pub returns : goal.returns
returns c = is_done _ c.loop.counter c.loop.length c.loop.self c.loop-test.false c.loop.invariant
