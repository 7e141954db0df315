use Rattle.std.proofs.Common.{sym, refl, ◌∙◌}
use Rattle.mp4_faults.specs.Inner.{inner}
use Rattle.mp4_faults.proofs.Looking.{starts, goes_on, finds, ends, ends_at_first}
use Rattle.mp4_faults.proofs.innermost.first_refused.Goals as goal

pub loop-child-init : goal.loop-child-init
loop-child-init c =
    let parent = c.args.parent.now in
    starts parent.name parent.payload.now c.in-Some.start c.new-before.result (sym c.in-Some.ensures)
    c.new-before.ensures

pub returns-in-Some-2-clause-answer : goal.returns-in-Some-2-clause-answer
returns-in-Some-2-clause-answer c =
    let parent = c.args.parent.now in (
      _,
      finds parent.name parent.payload.now c.loop-child.place c.loop-child.before (inner c.in-Some-child_at.child)
          c.step_to.result _ c.loop-child.invariant (sym c.in-Some-child_at.ensures.value)
          (sym (rw (c.in-Some-2.is, c.in_ok-items.ensures) at c.in_ok-child_refusal.ensures))
          (c.step_to.ensures ∙ rw c.as_slice.ensures refl),
    )

pub returns-then-looks_at_first_alone-clause-answer : goal.returns-then-looks_at_first_alone-clause-answer
returns-then-looks_at_first_alone-clause-answer c =
    let parent = c.args.parent.now in
    ends_at_first parent.name parent.payload.now c.loop-child.place c.loop-child.before
    (inner c.in-Some-child_at.child) c.loop-child.invariant (sym c.in-Some-child_at.ensures.value)
    (sym (rw (c.in_default-2.is, c.in_ok-items.ensures) at c.in_ok-child_refusal.ensures))
    (sym c.looks_at_first_alone.ensures ∙ c.if-looks_at_first_alone.true)

pub loop-child-preserved : goal.loop-child-preserved
loop-child-preserved c =
    let parent = c.args.parent.now in
    rw c.end-place.ensures (goes_on parent.name parent.payload.now c.loop-child.place c.loop-child.before
    c.push.new.self (inner c.in-Some-child_at.child) c.loop-child.invariant (sym c.in-Some-child_at.ensures.value)
    (sym (rw (c.in_default-2.is, c.in_ok-items.ensures) at c.in_ok-child_refusal.ensures))
    (sym c.looks_at_first_alone.ensures ∙ c.if-looks_at_first_alone.false) c.in_ok-push.ensures.ok)

pub returns-clause-answer : goal.returns-clause-answer
returns-clause-answer c =
    let parent = c.args.parent.now in
    ends parent.name parent.payload.now c.loop-child.place c.loop-child.before c.loop-child.invariant
    (sym (rw c.in_default-child_at.is at c.child_at.ensures.value))
