use Rattle.std.proofs.Common.{arith}
use Rattle.mp4_remux.proofs.HeaderLaws.{time_more, time_of_all, time_past}
use Rattle.mp4_remux.proofs.headers.time_of.Goals as goal

pub loop-i-preserved : goal.loop-i-preserved
loop-i-preserved c =
    record {
      upto = omega (arith, c.loop-i-test.true);
      same =
          time_more c.args.edits.now c.loop-i.i c.loop-i.time c.in_ok-time.time _ c.loop-i-test.true
          c.loop-i.invariant.same (c.in_ok-time.ensures).1;
      edits = c.loop-i.invariant.edits;
    }

pub returns-in_err-time-clause-long : goal.returns-in_err-time-clause-long
returns-in_err-time-clause-long c =
    rw c.from_residual.ensures (time_past c.args.edits.now c.loop-i.i c.loop-i.time 18446744073709551616 _
    c.loop-i-test.true c.loop-i.invariant.same c.in_err-time.ensures)

pub returns-clause-time : goal.returns-clause-time
returns-clause-time c =
    time_of_all c.args.edits.now c.loop-i.i c.loop-i.time c.loop-i-test.false c.loop-i.invariant.same
