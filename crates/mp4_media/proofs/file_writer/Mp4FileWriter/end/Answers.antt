use Rattle.std.proofs.Common.{◌≡◌}
use Rattle.mp4_mux.specs.Media.{KeptMedia, MayBe, Media}
use Rattle.mp4_mux.specs.Writing.{with_end}
use Rattle.mp4_media.proofs.KeptMovies.{end-written, hold-end}
use Rattle.mp4_media.proofs.file_writer.Mp4FileWriter.end.Goals as goal

-- bytes that are handed on change nothing of what the data may be
flushed : (before after : KeptMedia) (media : Media) → after ≡ record before { waiting = after.waiting }
    → MayBe before media → MayBe after media
flushed before after media same h = rw same (record {
  len = h.len;
  contents = h.contents;
  tracks = h.tracks;
  written = h.written;
})

pub add_end-requires-clause-written : goal.add_end-requires-clause-written
add_end-requires-clause-written g c =
    let held = c.self.invariant (rw (← c.self.view_is) at c.in_ok-check_sink.ensures.ok) in
    let none = (rw (← c.self.view_is) at c.in_ok-check_end.ensures) held.0 held.1 in
    end-written _ held.0 held.1 none

pub invariant_of-self-in_default-flush : goal.invariant_of-self-in_default-flush
invariant_of-self-in_default-flush g c = λ goes_on.
    let held = c.self.invariant goes_on in
    let none = (rw (← c.self.view_is) at c.in_ok-check_end.ensures) held.0 held.1 in (
      with_end held.0,
      hold-end _ held.0 held.1 none _ (flushed c.add_end.new.self c.flush.new.self _ c.in_default-flush.ensures.same
          (c.in_default.ensures.ok held.1.held held.1.may_be)),
    )

pub returns-clause-ok : goal.returns-clause-ok
returns-clause-ok g c = rw (← c.self.view_is) (λ st h.
    let none = (rw (← c.self.view_is) at c.in_ok-check_end.ensures) st h in
    hold-end _ st h none _ (flushed c.add_end.new.self c.flush.new.self _ c.in_default-flush.ensures.same
    (c.in_default.ensures.ok h.held h.may_be)))
