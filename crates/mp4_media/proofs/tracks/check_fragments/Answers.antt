use Rattle.std.proofs.Common.{sym, ap, ◌∙◌}
use Rattle.std.proofs.lemmas.Result.{err_from_is_err_and}
use Rattle.mp4_codec.specs.Cause.{cause_of}
use Rattle.mp4_codec.specs.Boxes.{all_refusal}
use Rattle.mp4_codec.specs.ListLaws.{all_refusal-take_more, all_refusal-first}
use Rattle.mp4_media.specs.MovieTracks.{has_id, unknown_id}
use Rattle.mp4_media.proofs.tracks.check_fragments.Goals as goal

pub returns-in_err-check_trafs : goal.returns-in_err-check_trafs
returns-in_err-check_trafs c =
    let unknown = unknown_id (has_id c.args.tracks.now) in
    let p = err_from_is_err_and c.from_residual.result c.from_residual.ensures.1 in
    rw (p.1, p.2)
    (all_refusal-first (λ m. all_refusal unknown m.trafs) c.args.moofs.now c.loop-moof.moof-index c.moof-item.result
    (cause_of c.in_err-check_trafs.field-0.0) c.loop-moof-test.true c.moof-item.is c.loop-moof.invariant
    (ap (all_refusal unknown) (sym c.as_slice.ensures) ∙ c.in_err-check_trafs.ensures))

pub loop-moof-preserved : goal.loop-moof-preserved
loop-moof-preserved c =
    let unknown = unknown_id (has_id c.args.tracks.now) in
    all_refusal-take_more (λ m. all_refusal unknown m.trafs) c.args.moofs.now c.loop-moof.moof-index
    c.moof-item.result c.loop-moof-test.true c.moof-item.is c.loop-moof.invariant
    ∙ ap (all_refusal unknown) (sym c.as_slice.ensures)
    ∙ c.in_ok-check_trafs.ensures
