use Rattle.mp4_mux.specs.Writing.{with_track}
use Rattle.mp4_media.proofs.KeptMovies.{track-config, hold-track}
use Rattle.mp4_media.proofs.file_writer.Mp4FileWriter.add_track.Goals as goal

pub add_track-requires : goal.add_track-requires
add_track-requires g c =
    let held = c.self.invariant (rw (← c.self.view_is) at c.in_ok-check_sink.ensures.ok) in
    let none = (rw (← c.self.view_is) at c.in_ok-check_track.ensures) held.0 held.1 in
    track-config _ held.0 held.1 c.args.config.now none

pub invariant_of-self-2 : goal.invariant_of-self-2
invariant_of-self-2 g c = λ goes_on.
    let held = c.self.invariant goes_on in
    let none = (rw (← c.self.view_is) at c.in_ok-check_track.ensures) held.0 held.1 in
    rw c.in_ok-add_track.ensures.ok (
      with_track held.0 c.args.config.now,
      hold-track _ held.0 held.1 c.args.config.now none c.in_range.ensures,
    )

pub returns-clause-ok : goal.returns-clause-ok
returns-clause-ok g c = rw (c.in_ok-add_track.ensures.ok, ← c.self.view_is) (λ st h.
    let none = (rw (← c.self.view_is) at c.in_ok-check_track.ensures) st h in
    hold-track _ st h c.args.config.now none c.in_range.ensures)
