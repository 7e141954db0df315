use Rattle.mp4_remux.proofs.Naming.{first_named, inner_named, later_named}
use Rattle.mp4_remux.proofs.places.+find_in.Goals as goal

pub returns-then-says_places-clause-there : goal.returns-then-says_places-clause-there
returns-then-says_places-clause-there t c =
    let one = c.in-Some.one in
    rw (c.found_before.ensures.name, c.found_before.ensures.place)
    (c.loop-one.invariant.within one.name _
    (first_named c.loop-one.rest.now one.name one.header.now one.payload.now one.after.now c.in-Some.ensures.first
    c.args.end))

pub returns-in-Some-found-clause-there : goal.returns-in-Some-found-clause-there
returns-in-Some-found-clause-there t c =
    let one = c.in-Some.one in
    c.loop-one.invariant.within _ _
    (inner_named c.loop-one.rest.now one.name one.header.now one.payload.now one.after.now c.in-Some.ensures.first
    c.args.end c.children_of.ensures.0 c.children_of.result.now _ _ c.children_of.ensures.1
    (rw c.payload_end.ensures at c.in-Some-found.ensures.there))

pub loop-one-preserved : goal.loop-one-preserved
loop-one-preserved t c =
    let one = c.in-Some.one in
    record {
      within = λ name place named. c.loop-one.invariant.within name place
          (later_named c.loop-one.rest.now one.name one.header.now one.payload.now one.after.now c.in-Some.ensures.first
          c.args.end name place named);
    }
