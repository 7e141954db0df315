use Rattle.std.proofs.Common.{◌≡◌, Some, Result, Ok, Err, IsErrAnd, length, true, false, refl, sym, ap, ◌∙◌, arith}
use Rattle.mp4_codec.specs.declared.error.Error.{Error}
use Rattle.mp4_codec.specs.Cause.{Checks, cause_of}
use Rattle.mp4_mux.specs.Writing.{track_cause}
use Rattle.mp4_mux.proofs.StateLaws.{track_cause-ended, track_cause-config, track_cause-many, track_cause-none}
use Rattle.mp4_mux.specs.Parts.{open_state, state_of}
use Rattle.mp4_mux.proofs.PartsLaws.{state-ended, state-open, track-count}
use Rattle.mp4_media.specs.WriterFields.{KeptMovie, parts_of}
use Rattle.mp4_media.proofs.file_writer.Mp4FileWriter.check_track.Goals as goal

-- the same error
checks-same : (r : Result (Unit {0}) Error) (e : Error) → IsErrAnd r (λ f. f ≡ e) → Checks r (Some (cause_of e))
checks-same (Ok x) e h = absurd h
checks-same (Err f) e h = ap (λ g. Some (cause_of g)) (sym h)

pub returns-then-self : goal.returns-then-self
returns-then-self g c = λ st h.
    let p = parts_of c.args.self.now h.held in
    let over : p.ended ≡ true = sym (ap (λ (w : KeptMovie). w.ended) c.self.view_is) ∙ c.if-self.true in
    rw (← h.state) (track_cause-ended (state_of p) c.args.config.now (state-ended p ∙ over))

pub returns-in_err-check : goal.returns-in_err-check
returns-in_err-check g c = λ st h.
    let p = parts_of c.args.self.now h.held in
    let unended : p.ended ≡ false = sym (ap (λ (w : KeptMovie). w.ended) c.self.view_is) ∙ c.if-self.false in
    let refused : track_cause (open_state p) c.args.config.now ≡ Some (cause_of c.in_err-check.field-0.0) =
    track_cause-config (open_state p) c.args.config.now
    (cause_of c.in_err-check.field-0.0) refl c.in_err-check.ensures in
    rw (← h.state, state-open p unended, refused)
    (checks-same c.from_residual.result c.in_err-check.field-0.0 c.from_residual.ensures.1)

pub returns-then-tracks : goal.returns-then-tracks
returns-then-tracks g c = λ st h.
    let p = parts_of c.args.self.now h.held in
    let unended : p.ended ≡ false = sym (ap (λ (w : KeptMovie). w.ended) c.self.view_is) ∙ c.if-self.false in
    let same : c.tracks.result.now ≡ h.held.tracks =
    c.tracks.ensures ∙ ap (λ (w : KeptMovie). w.media.tracks) c.self.view_is ∙ h.may_be.tracks in
    rw (← h.state, state-open p unended)
    (track_cause-many (open_state p) c.args.config.now refl c.in_ok-check.ensures
    (omega (arith, track-count p h.writing unended, c.if-tracks.true, ap length same)))

pub returns : goal.returns
returns g c = λ st h.
    let p = parts_of c.args.self.now h.held in
    let unended : p.ended ≡ false = sym (ap (λ (w : KeptMovie). w.ended) c.self.view_is) ∙ c.if-self.false in
    let same : c.tracks.result.now ≡ h.held.tracks =
    c.tracks.ensures ∙ ap (λ (w : KeptMovie). w.media.tracks) c.self.view_is ∙ h.may_be.tracks in
    rw (← h.state, state-open p unended)
    (track_cause-none (open_state p) c.args.config.now refl c.in_ok-check.ensures
    (omega (arith, track-count p h.writing unended, c.if-tracks.false, ap length same)))
