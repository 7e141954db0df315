use Rattle.mp4_fragments.proofs.lookup.end_before.Goals as goal

pub returns-in-Some : goal.returns-in-Some
returns-in-Some c = λ runs at. c.end_before.ensures runs (rw c.in-Some.is at at)
