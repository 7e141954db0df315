use Rattle.std.proofs.Common.{[], inr, refl}
use Rattle.mp4_remux.proofs.Naming.{inner_named}
use Rattle.mp4_remux.proofs.fragment_boxes.check_fragment.Goals as goal

pub returns-in-Some-more_in-clause-names : goal.returns-in-Some-more_in-clause-names
returns-in-Some-more_in-clause-names c =
    let one = c.in-Some.fragment in
    let found = c.in-Some-more_in.found in (
      inr c.in-Some-more_in.ensures.more,
      inner_named c.args.bytes.now one.name one.header.now one.payload.now one.after.now c.in-Some.ensures.first
          c.args.end [] one.payload.now found.name found.place refl
          (rw c.payload_end.ensures at c.in-Some-more_in.ensures.there),
    )
