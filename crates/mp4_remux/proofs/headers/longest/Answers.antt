use Rattle.std.proofs.Common.{arith}
use Rattle.mp4_remux.proofs.HeaderLaws.{longest_more, longest_of_all}
use Rattle.mp4_remux.proofs.headers.longest.Goals as goal

pub loop-i-preserved : goal.loop-i-preserved
loop-i-preserved c =
    record {
      upto = omega (arith, c.loop-i-test.true);
      same =
          longest_more c.args.traks.now c.loop-i.i c.loop-i.most c.max-most.result c.index-traks-i.result
          c.loop-i-test.true c.loop-i.invariant.same c.max-most.ensures;
      traks = c.loop-i.invariant.traks;
    }

pub returns : goal.returns
returns c = longest_of_all c.args.traks.now c.loop-i.i c.loop-i.most c.loop-i-test.false c.loop-i.invariant.same
