-- A track is refused for what its row or the writer refuses.
use Rattle.std.proofs.Common.{Err, refl}
use Rattle.std.proofs.lemmas.Result.{err_from_is_err_and}
use Rattle.mp4_mux.specs.declared.config.TrackConfig.{TrackConfig}
use Rattle.mp4_mux.specs.Writing.{track_cause, with_track}
use Rattle.mp4_c.specs.Refusals.{IsTrackFault, no_config, refused}
use Rattle.mp4_c.specs.TrackConfigs.{row_fault}
use Rattle.mp4_c.specs.WrittenReply.{refusal_in}
use Rattle.mp4_c.proofs.Refusals.{refused_by, refused_error, refused_for}
use Rattle.mp4_c.proofs.written.add_track.Goals as goal

pub returns-in-Ok-clause-added : goal.returns-in-Ok-clause-added
returns-in-Ok-clause-added g c = λ st h.
    let config = c.in_ok-config.config in (
      with_track st config,
      (config, c.in_ok-config.ensures.config, c.in-Ok.ensures.cause st h, refl),
      c.in-Ok.ensures.ok st h,
    )

pub returns-in_err-config-clause-refused : goal.returns-in_err-config-clause-refused
returns-in_err-config-clause-refused g c =
    let p = err_from_is_err_and c.from_residual.result c.from_residual.ensures.1 in
    rw (p.1, p.2) (λ st h. refused_for {X = TrackConfig} (IsTrackFault c.args.source.now st c.args.track.now)
    (row_fault c.args.source.now c.args.track.now) (Err c.in_err-config.field-0.0) (λ x same. no_config same)
    c.in_err-config.ensures.cause)

pub returns-clause-refused : goal.returns-clause-refused
returns-clause-refused g c =
    let config = c.in_ok-config.config in
    rw c.refusal_in.ensures (λ st h. refused_error (IsTrackFault c.args.source.now st c.args.track.now)
    (track_cause st config) (refusal_in c.in-Err.error) (λ x same. refused config c.in_ok-config.ensures.config same)
    (refused_by _ (track_cause st config) c.in-Err.error (c.in-Err.ensures.cause st h)))
