use Rattle.std.proofs.Common.{[], refl}
use Rattle.mp4_remux.proofs.Naming.{first_named, inner_named, later_named}
use Rattle.mp4_remux.proofs.fragment_boxes.more_in.Goals as goal

pub returns-in-Some-more_in_track-clause-there : goal.returns-in-Some-more_in_track-clause-there
returns-in-Some-more_in_track-clause-there c =
    let one = c.in-Some.one in
    let found = c.in-Some-more_in_track.found in
    c.loop-one.invariant.within found.name found.place
    (inner_named c.loop-one.rest.now one.name one.header.now one.payload.now one.after.now c.in-Some.ensures.first
    c.args.end [] one.payload.now found.name found.place refl
    (rw c.payload_end.ensures at c.in-Some-more_in_track.ensures.there))

pub returns-then-not-is_kept_by_tables-clause-there : goal.returns-then-not-is_kept_by_tables-clause-there
returns-then-not-is_kept_by_tables-clause-there c =
    let one = c.in-Some.one in
    rw (c.found_before.ensures.name, c.found_before.ensures.place)
    (c.loop-one.invariant.within one.name _
    (first_named c.loop-one.rest.now one.name one.header.now one.payload.now one.after.now c.in-Some.ensures.first
    c.args.end))

pub loop-one-preserved : goal.loop-one-preserved
loop-one-preserved c =
    let one = c.in-Some.one in
    record {
      within = λ name place named. c.loop-one.invariant.within name place
          (later_named c.loop-one.rest.now one.name one.header.now one.payload.now one.after.now c.in-Some.ensures.first
          c.args.end name place named);
    }
