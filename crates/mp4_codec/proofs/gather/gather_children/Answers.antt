use Rattle.std.proofs.Common.{inl, inr}
use Rattle.std.proofs.lemmas.Result.{err_from_is_err_and}
use Rattle.mp4_codec.specs.Cause.{cause_of}
use Rattle.mp4_codec.specs.Children.{child_box}
use Rattle.mp4_codec.specs.ChildrenLaws.{begins, ends, breaks}
use Rattle.mp4_codec.proofs.GatherLoop.{starts, takes, refuses, breaks_off, is_done}
use Rattle.mp4_codec.proofs.EarlyGathering as early
use Rattle.mp4_codec.proofs.gather.gather_children.Goals as goal

pub loop-parts-init : goal.loop-parts-init
loop-parts-init g c =
    rw c.new-children.ensures (record {
      given = starts g.G.Gather.fault g.G.Gather.taken c.none-parts.result c.args.payload.now c.none-parts.ensures;
      early = early.starts g.G.Gather.early c.args.payload.now;
    })

pub returns-in_err-child : goal.returns-in_err-child
returns-in_err-child g c =
    let p = err_from_is_err_and c.from_residual.result c.from_residual.ensures.1 in
    let broken = breaks c.loop-parts.children (cause_of c.in_err-child.field-0.0) c.in_err-child.ensures.value in
    rw (p.1, p.2) (record {
      value = inr (breaks_off g.G.Gather.fault g.G.Gather.taken c.loop-parts.parts c.loop-parts.children
          c.args.payload.now (cause_of c.in_err-child.field-0.0) broken c.loop-parts.invariant.given);
      early = early.breaks_off g.G.Gather.early c.loop-parts.children c.args.payload.now _ c.in_err-child.field-0.0
          broken c.loop-parts.invariant.early;
    })

pub loop-parts-preserved : goal.loop-parts-preserved
loop-parts-preserved g c =
    let child = child_box c.in-Some.child in
    let next = rw c.in-Some.is at c.in_ok-child.ensures.value in
    let shorter = rw c.in-Some.is at c.in_ok-child.ensures.shorter in
    let begun = begins c.loop-parts.children child c.next_child.new.self next in
    record {
      given = takes g.G.Gather.fault g.G.Gather.taken g.G.Gather.added g.met.G.Gather.adds c.loop-parts.parts
          c.add.new.self c.loop-parts.children c.next_child.new.self c.args.payload.now child begun shorter
          c.in_ok-add.ensures.value c.loop-parts.invariant.given;
      early = early.takes g.G.Gather.early c.loop-parts.children c.args.payload.now child c.next_child.new.self
          c.in_ok-add.field-0 begun shorter c.in_ok-add.ensures.early c.loop-parts.invariant.early;
    }

pub returns-in_err-add : goal.returns-in_err-add
returns-in_err-add g c =
    let p = err_from_is_err_and c.from_residual-in_err-add.result c.from_residual-in_err-add.ensures.1 in
    let child = child_box c.in-Some.child in
    let next = rw c.in-Some.is at c.in_ok-child.ensures.value in
    let begun = begins c.loop-parts.children child c.next_child.new.self next in
    rw (p.1, p.2) (record {
      value = elim c.in_err-add.ensures.value [
        | inl memory ↦ inl memory
        | inr fault ↦ inr (refuses g.G.Gather.fault g.G.Gather.taken g.G.Gather.added g.met.G.Gather.adds
            c.loop-parts.parts c.loop-parts.children c.next_child.new.self c.args.payload.now child
            (cause_of c.in_err-add.field-0.0) begun fault c.loop-parts.invariant.given)
      ];
      early = early.refuses g.G.Gather.early c.loop-parts.children c.args.payload.now _ _ child c.next_child.new.self
          c.in_err-add.field-0.0 begun c.in_err-add.ensures.early c.loop-parts.invariant.early;
    })

pub returns : goal.returns
returns g c =
    let next = rw c.in_default.is at c.in_ok-child.ensures.value in
    let ended = ends c.loop-parts.children c.next_child.new.self next in
    record {
      value = is_done g.G.Gather.fault g.G.Gather.taken c.loop-parts.parts c.loop-parts.children c.args.payload.now
          ended c.loop-parts.invariant.given;
      early = early.is_done g.G.Gather.early c.loop-parts.children c.args.payload.now c.loop-parts.parts ended
          c.loop-parts.invariant.early;
    }
