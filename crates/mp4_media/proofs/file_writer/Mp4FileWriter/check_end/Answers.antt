use Rattle.std.proofs.Common.{◌≡◌, true, false, sym, ap, ◌∙◌}
use Rattle.mp4_mux.proofs.StateLaws.{end_cause-ended}
use Rattle.mp4_mux.specs.Parts.{state_of}
use Rattle.mp4_mux.proofs.PartsLaws.{state-ended, state-open}
use Rattle.mp4_mux.proofs.EndLaws.{end_cause-kept, few-kept, clocks-kept}
use Rattle.mp4_media.specs.WriterFields.{KeptMovie, parts_of}
use Rattle.mp4_media.proofs.file_writer.Mp4FileWriter.check_end.Goals as goal

pub returns-then-self : goal.returns-then-self
returns-then-self g c = λ st h.
    let p = parts_of c.args.self.now h.held in
    let over : p.ended ≡ true = sym (ap (λ (w : KeptMovie). w.ended) c.self.view_is) ∙ c.if-self.true in
    rw (← h.state) (end_cause-ended (state_of p) (state-ended p ∙ over))

pub check_movie-requires-clause-few : goal.check_movie-requires-clause-few
check_movie-requires-clause-few g c =
    let h = (c.self.invariant (rw (← c.self.view_is) at c.requires)).1 in
    rw (c.tracks.ensures, h.may_be.tracks) (few-kept _ h.writing c.if-self.false)

pub check_movie-requires-clause-clocks : goal.check_movie-requires-clause-clocks
check_movie-requires-clause-clocks g c =
    let h = (c.self.invariant (rw (← c.self.view_is) at c.requires)).1 in
    rw (c.tracks.ensures, h.may_be.tracks) (clocks-kept _ h.writing c.if-self.false)

pub returns : goal.returns
returns g c = λ st h.
    let p = parts_of c.args.self.now h.held in
    let unended : p.ended ≡ false = sym (ap (λ (w : KeptMovie). w.ended) c.self.view_is) ∙ c.if-self.false in
    rw (
      ← h.state,
      state-open p unended,
      end_cause-kept p h.writing unended,
      ← h.may_be.len,
      ← h.may_be.tracks,
      ← c.self.view_is,
      ← c.len.ensures.len,
      ← c.tracks.ensures,
    ) c.check_movie.ensures
