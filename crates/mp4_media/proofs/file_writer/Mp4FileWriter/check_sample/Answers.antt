use Rattle.std.proofs.Common.{◌≡◌, ◌-◌, length, true, false, inl, inr, refl, sym, ap, ◌∙◌, arith}
use Rattle.std.proofs.lemmas.List.{get_or_read}
use Rattle.mp4_mux.specs.Media.{building_at, no_building}
use Rattle.mp4_mux.specs.Sound.{IsIdOf}
use Rattle.mp4_mux.specs.Writing.{lent_sample}
use Rattle.mp4_mux.proofs.StateLaws.{sample_cause-ended, sample_cause-unknown}
use Rattle.mp4_mux.specs.Parts.{open_state, state_of}
use Rattle.mp4_mux.proofs.PartsLaws.{state-ended, state-open, track-count, cause-same, is_track}
use Rattle.mp4_media.specs.WriterFields.{KeptMovie, parts_of}
use Rattle.mp4_media.proofs.file_writer.Mp4FileWriter.check_sample.Goals as goal
use Rattle.mp4_media.proofs.file_writer.Mp4FileWriter.check_sample.Goals.{then-id-eq0-via-then-id-eq0}
use Rattle.mp4_media.proofs.file_writer.Mp4FileWriter.check_sample.Goals.{then-id-eq0-via-else-id-eq0+then-id-tracks}

pub returns-then-self : goal.returns-then-self
returns-then-self g c = λ st h.
    let p = parts_of c.args.self.now h.held in
    let over : p.ended ≡ true = sym (ap (λ (w : KeptMovie). w.ended) c.self.view_is) ∙ c.if-self.true in
    rw (← h.state)
    (sample_cause-ended (state_of p) c.args.id (lent_sample c.args.sample.now) (state-ended p ∙ over))

pub returns-then-id-eq0 : goal.returns-then-id-eq0
returns-then-id-eq0 g c = λ st h.
    let p = parts_of c.args.self.now h.held in
    let unended : p.ended ≡ false = sym (ap (λ (w : KeptMovie). w.ended) c.self.view_is) ∙ c.if-self.false in
    let count = track-count p h.writing unended in
    let same : c.tracks-tracks.result.now ≡ h.held.tracks =
    c.tracks-tracks.ensures ∙ ap (λ (w : KeptMovie). w.media.tracks) c.self.view_is ∙ h.may_be.tracks in
    rw (← h.state, state-open p unended)
    (sample_cause-unknown (open_state p) c.args.id (lent_sample c.args.sample.now) refl
    (elim c.then-id-eq0.branch [
      | then-id-eq0-via-then-id-eq0 w ↦ inl w.if-id-eq0.true
      | then-id-eq0-via-else-id-eq0+then-id-tracks w ↦ inr
          (omega (arith, count, w.if-id-tracks.true, ap length same))
    ]))

pub returns : goal.returns
returns g c = λ st h.
    let p = parts_of c.args.self.now h.held in
    let unended : p.ended ≡ false = sym (ap (λ (w : KeptMovie). w.ended) c.self.view_is) ∙ c.if-self.false in
    let count = track-count p h.writing unended in
    let same : c.tracks-tracks.result.now ≡ h.held.tracks =
    c.tracks-tracks.ensures ∙ ap (λ (w : KeptMovie). w.media.tracks) c.self.view_is ∙ h.may_be.tracks in
    let known : IsIdOf (open_state p) c.args.id =
    record {
      first = let n = c.if-id-eq0.false in omega (arith, n);
      last = omega (arith, count, c.if-id-tracks.false, ap length same);
    } in
    let s = lent_sample c.args.sample.now in
    let track : c.index-tracks-id.result ≡ building_at h.held.tracks (c.args.id - 1) =
    get_or_read h.held.tracks (c.args.id - 1) c.index-tracks-id.result
    (is_track p h.writing unended c.args.id known s)
    (rw (← same) c.index-tracks-id.is) no_building in
    rw (
      ← h.state,
      state-open p unended,
      cause-same p h.writing unended c.args.id known s,
      ← track,
    ) c.check_sample.ensures
