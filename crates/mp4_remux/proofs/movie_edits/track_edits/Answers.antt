use Rattle.std.proofs.Common.{◌∙◌, Err, ap, arith, subst}
use Rattle.mp4_boxes.specs.declared.trak.TrakBox.{TrakBox}
use Rattle.mp4_remux.specs.PlannedRebuilt.{IsTrackEdit}
use Rattle.std.proofs.lemmas.Result.{err_from_is_err_and}
use Rattle.mp4_media.specs.FileBoxes.{opened_movie}
use Rattle.mp4_remux.specs.declared.layout_error.LayoutError.{LayoutError}
use Rattle.mp4_remux.specs.Errors.{of_layout}
use Rattle.mp4_remux.proofs.RebuildEdits.{all_edits, edits_by, one_edit_more, unmade_among, why_of_one}
use Rattle.mp4_remux.proofs.movie_edits.track_edits.Goals as goal

pub returns-in_err-edit-clause-why : goal.returns-in_err-edit-clause-why
returns-in_err-edit-clause-why c = λ ids same.
    let p = err_from_is_err_and c.from_residual.result c.from_residual.ensures.1 in
    rw (p.1 ∙ ap (λ (e : LayoutError). Err e) p.2)
    (why_of_one (opened_movie c.args.movie.now) ids c.args.sorted.now _ c.args.most _ same c.in_err-edit.ensures.kept
    c.in_err-edit.ensures.why)

pub returns-in_err-edit-clause-unmade : goal.returns-in_err-edit-clause-unmade
returns-in_err-edit-clause-unmade c = λ to by ids same.
    let p = err_from_is_err_and c.from_residual.result c.from_residual.ensures.1 in
    rw (p.1 ∙ ap (λ (e : LayoutError). Err e) p.2)
    (unmade_among (opened_movie c.args.movie.now) ids c.args.sorted.now to _ (of_layout c.in_err-edit.field-0.0) same
    c.in_err-edit.ensures.kept (c.in_err-edit.ensures.unmade to by))

pub loop-i-preserved : goal.loop-i-preserved
loop-i-preserved c = record {
  edits = λ to by.
      one_edit_more (opened_movie c.args.movie.now) to c.args.sorted.now c.args.movie.now.moov.traks _ _ c.loop-i.i
      c.index-traks-i.result _ (rw c.as_slice-traks.ensures at c.loop-i-test.true) (c.loop-i.invariant.edits to by)
      c.in_ok-push.ensures.items
      (subst (λ (t : TrakBox). IsTrackEdit (opened_movie c.args.movie.now) to c.args.sorted.now t c.in_ok-edit.edit)
      (rw c.as_slice-traks.ensures at c.index-traks-i.is) (c.in_ok-edit.ensures.edit to by));
  traks_are = c.loop-i.invariant.traks_are;
}

pub returns-clause-edits : goal.returns-clause-edits
returns-clause-edits c = λ to by ids same.
    edits_by (opened_movie c.args.movie.now) to ids c.args.sorted.now same c.args.movie.now.moov.traks
    c.loop-i.edits.items
    (all_edits (opened_movie c.args.movie.now) to c.args.sorted.now c.args.movie.now.moov.traks c.loop-i.edits.items
    c.loop-i.i (omega (arith, rw c.as_slice-traks.ensures at c.loop-i-test.false)) (c.loop-i.invariant.edits to by))
