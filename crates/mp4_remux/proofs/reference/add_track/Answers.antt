use Rattle.mp4_remux.specs.References.{Part, of_box}
use Rattle.mp4_remux.proofs.Referring.{begin_with, begin_with_none, box_more, boxes_end}
use Rattle.mp4_remux.proofs.reference.add_track.Goals as goal

pub loop-one-preserved : goal.loop-one-preserved
loop-one-preserved c =
    let one = c.in-Some.one in
    record {
      all = box_more (λ (p : Part). of_box c.args.track_id p.name p.payload) c.loop-one.rest.now one.after.now _
          c.loop-one.list.items _ _
          (begin_with c.loop-one.rest.now one.name one.header.now one.payload.now one.after.now c.in-Some.ensures.header
          c.in-Some.ensures.first) c.loop-one.invariant.all c.in_ok-add_box.ensures.more;
      track = c.loop-one.invariant.track;
    }

pub returns : goal.returns
returns c = record {
  more = boxes_end (λ (p : Part). of_box c.args.track_id p.name p.payload) c.loop-one.rest.now c.loop-one.list.items _
      (begin_with_none c.loop-one.rest.now c.in_default.ensures.none)
      c.loop-one.invariant.all;
}
