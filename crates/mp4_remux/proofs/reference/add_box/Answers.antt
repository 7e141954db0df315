use Rattle.std.proofs.Common.{arith}
use Rattle.mp4_remux.specs.References.{Part, of_kind}
use Rattle.mp4_remux.proofs.Referring.{begin_with, begin_with_none, box_more, boxes_end, in_tref}
use Rattle.mp4_remux.proofs.reference.add_box.Goals as goal

pub loop-kind-preserved : goal.loop-kind-preserved
loop-kind-preserved c =
    let one = c.in-Some.kind in
    record {
      all = box_more (λ (p : Part). of_kind c.args.track_id p.name p.payload) c.loop-kind.rest.now one.after.now _
          c.loop-kind.list.items _ _
          (begin_with c.loop-kind.rest.now one.name one.header.now one.payload.now one.after.now
          c.in-Some.ensures.header
          c.in-Some.ensures.first) c.loop-kind.invariant.all c.in_ok-add_kind.ensures.more;
      track = c.loop-kind.invariant.track;
    }

pub returns : goal.returns
returns c = record {
  more = rw (in_tref c.args.track_id c.args.one.now.name c.args.one.now.payload.now (omega
      (arith, c.from.ensures, c.if-from-ne-REFERENCES.false)))
      (boxes_end (λ (p : Part). of_kind c.args.track_id p.name p.payload) c.loop-kind.rest.now c.loop-kind.list.items _
      (begin_with_none c.loop-kind.rest.now c.in_default.ensures.none)
      c.loop-kind.invariant.all);
}
