use Rattle.std.proofs.Common.{arith}
use Rattle.mp4_faults.specs.Inner.{inner}
use Rattle.mp4_faults.proofs.Refused.{led-starts, led-on, led-ends}
use Rattle.mp4_faults.proofs.innermost.innermost_fault.Goals as goal

pub loop-step-init : goal.loop-step-init
loop-step-init c = record {
  led = λ cause refused. led-starts cause (inner c.args.outermost) c.args.path.now refused;
  within = omega arith;
}

pub loop-step-preserved : goal.loop-step-preserved
loop-step-preserved c =
    let found = rw c.in-Some.is at c.in_ok-step.ensures.answer in
    let l = c.loop-step.invariant in
    let closer = rw c.in-Some.is at c.in_ok-step.ensures.within in
    record {
      led = λ cause refused.
          led-on cause (inner c.args.outermost) (inner c.loop-step.at) found.0 (inner c.in-Some.child) c.args.path.now
          c.loop-step.path c.push.new.self c.in-Some.step found.1 (l.led cause refused) found.2 found.3
          c.in_ok-push.ensures.ok;
      within = omega (arith, closer, l.within);
    }

pub returns-clause-answer : goal.returns-clause-answer
returns-clause-answer c =
    let l = c.loop-step.invariant in
    λ cause refused. led-ends cause (inner c.args.outermost) (inner c.loop-step.at) c.args.path.now c.loop-step.path
    (l.led cause refused) (rw c.in_default.is at c.in_ok-step.ensures.answer)
