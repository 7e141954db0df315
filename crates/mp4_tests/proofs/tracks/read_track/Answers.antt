use Rattle.mp4_tests.proofs.tracks.read_track.Goals as goal

pub new-track-requires-clause-first_samples : goal.new-track-requires-clause-first_samples
new-track-requires-clause-first_samples g c =
    c.read_tables_have_first_samples.ensures.trak c.args.payload.now c.expect-trak.result
    (rw c.expect-trak.ensures at c.read_payload.ensures.value)
