use Rattle.std.proofs.Common.{◌∙◌, ℕ, Bool, Err, Some, ap, subst}
use Rattle.std.specs.Prelude.{option_map, vec_items}
use Rattle.mp4_remux.specs.PlannedRebuilt.{AreIdsLeft}
use Rattle.std.proofs.lemmas.Result.{err_from_is_err_and}
use Rattle.mp4_media.specs.FileBoxes.{opened_movie}
use Rattle.mp4_remux.specs.declared.layout_error.LayoutError.{LayoutError}
use Rattle.mp4_remux.proofs.RebuildEdits.{some_left}
use Rattle.mp4_remux.proofs.movie_edits.edit_of.Goals as goal

pub returns-in_err-tracks-clause-unmade : goal.returns-in_err-tracks-clause-unmade
returns-in_err-tracks-clause-unmade c = λ to by ids same.
    let p = err_from_is_err_and c.from_residual.result c.from_residual.ensures.1 in
    rw (p.1 ∙ ap (λ (e : LayoutError). Err e) p.2) (c.in_err-tracks.ensures.unmade to by ids same)

pub returns-clause-edit : goal.returns-clause-edit
returns-clause-edit c = λ to by ids same. record {
  tracks = c.in_ok-tracks.ensures.edits to by ids same;
  duration = ap (λ (n : ℕ). Some n)
      (rw (c.as_slice-traks.ensures, c.deref.ensures.value) at c.longest_after-duration.ensures);
  ids_left = subst (λ (b : Bool). AreIdsLeft b ids (option_map vec_items c.in_ok-ids.ids))
      (some_left (opened_movie c.args.movie.now) ids c.args.sorted.now same)
      (rw c.as_slice-traks.ensures at (c.in_ok-ids.ensures.left ids same));
  gathered = c.has_fragments.ensures.tables;
}
