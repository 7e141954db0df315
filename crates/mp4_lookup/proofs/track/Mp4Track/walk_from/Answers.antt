use Rattle.mp4_lookup.proofs.track.Mp4Track.walk_from.Goals as goal

pub invariant_of-result : goal.invariant_of-result
invariant_of-result c = record {
  lists = c.of-tables.ensures.tables;
  here = λ _. c.before-2.ensures;
  added = tt;
}
