use Rattle.std.proofs.Common.{refl}
use Rattle.std.specs.Option.{option_map}
use Rattle.std.proofs.lemmas.Result.{err_from_is_err_and}
use Rattle.mp4_codec.specs.Cause.{cause_of}
use Rattle.mp4_codec.specs.Children.{child_box, fault_in, all_of, last_of, with_last}
use Rattle.mp4_codec.specs.ChildrenLaws.{begins, ends, breaks}
use Rattle.mp4_codec.specs.GatherLaws.{with_last-last_of}
use Rattle.mp4_codec.proofs.GatherLoop.{starts, takes, breaks_off, is_done}
use Rattle.mp4_entry.specs.Mp4a.{as_it_is}
use Rattle.mp4_entry.proofs.mp4a.last_payload.Goals as goal

pub loop-child-init : goal.loop-child-init
unfolding all_of last_of
loop-child-init c =
    rw c.new-children.ensures
    (starts (fault_in c.args.kind as_it_is) (last_of c.args.kind as_it_is) _ c.args.bytes.now refl)

pub loop-child-preserved : goal.loop-child-preserved
loop-child-preserved c =
    let kind = c.args.kind in
    let child = child_box c.in-Some.child in
    let next = rw c.in-Some.is at c.in_ok-child.ensures.value in
    let shorter = rw c.in-Some.is at c.in_ok-child.ensures.shorter in
    takes (fault_in kind as_it_is) (last_of kind as_it_is) (λ last k. with_last kind as_it_is k last)
    (with_last-last_of kind as_it_is) (option_map (λ x. x.now) c.loop-child.last)
    (option_map (λ x. x.now) c.with_child-last.result) c.loop-child.children c.next_child.new.self c.args.bytes.now
    child (begins c.loop-child.children child c.next_child.new.self next) shorter c.with_child-last.ensures
    c.loop-child.invariant

pub returns-in_err-child : goal.returns-in_err-child
returns-in_err-child c =
    let p = err_from_is_err_and c.from_residual.result c.from_residual.ensures.1 in
    let cause = cause_of c.in_err-child.field-0.0 in
    rw (p.1, p.2) (breaks_off (fault_in c.args.kind as_it_is) (last_of c.args.kind as_it_is)
    (option_map (λ x. x.now) c.loop-child.last) c.loop-child.children c.args.bytes.now cause
    (breaks c.loop-child.children cause c.in_err-child.ensures.value) c.loop-child.invariant)

pub returns : goal.returns
returns c =
    let next = rw c.in_default.is at c.in_ok-child.ensures.value in
    is_done (fault_in c.args.kind as_it_is) (last_of c.args.kind as_it_is) (option_map (λ x. x.now) c.loop-child.last)
    c.loop-child.children c.args.bytes.now (ends c.loop-child.children c.next_child.new.self next)
    c.loop-child.invariant
