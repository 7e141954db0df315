use Rattle.mp4_remux.proofs.Naming.{first_named, later_named}
use Rattle.mp4_remux.proofs.fragment_boxes.more_in_track.Goals as goal

pub returns-then-not-is_kept_by_tables-clause-there : goal.returns-then-not-is_kept_by_tables-clause-there
returns-then-not-is_kept_by_tables-clause-there c =
    let one = c.in-Some.one in
    rw (c.found_before.ensures.name, c.found_before.ensures.place)
    (c.loop-one.invariant.within one.name _
    (first_named c.loop-one.rest.now one.name one.header.now one.payload.now one.after.now c.in-Some.ensures.first
    c.args.end))

pub loop-one-preserved : goal.loop-one-preserved
loop-one-preserved c =
    let one = c.in-Some.one in
    record {
      within = λ name place named. c.loop-one.invariant.within name place
          (later_named c.loop-one.rest.now one.name one.header.now one.payload.now one.after.now c.in-Some.ensures.first
          c.args.end name place named);
    }
