use Rattle.std.proofs.Common.{◌∙◌, Err, ap, arith}
use Rattle.std.proofs.lemmas.Result.{err_from_is_err_and}
use Rattle.mp4_media.specs.FileBoxes.{opened_movie}
use Rattle.mp4_remux.specs.Errors.{of_layout}
use Rattle.mp4_remux.specs.PlannedRebuilt.{data_moved}
use Rattle.mp4_remux.specs.declared.layout_error.LayoutError.{LayoutError}
use Rattle.mp4_remux.proofs.ClosedUp.{closed_by}
use Rattle.mp4_remux.proofs.PlanningRebuilt.{few_bytes, fits_in, planned_begins, planned_layout, too_long}
use Rattle.mp4_remux.proofs.PlanningRebuilt.{unmade_unplanned, unplanned_data, unread_unplanned}
use Rattle.mp4_remux.proofs.rebuilt_layout.plan.Goals as goal

pub returns-in_err-extents-clause-unplanned : goal.returns-in_err-extents-clause-unplanned
returns-in_err-extents-clause-unplanned c =
    let p = err_from_is_err_and c.from_residual.result c.from_residual.ensures.1 in
    rw (p.1 ∙ ap (λ (e : LayoutError). Err e) p.2)
    (λ before measured is stay. unread_unplanned before c.args.len (opened_movie c.args.movie.now)
    c.args.keeps.now.ids.now (of_layout c.in_err-extents.field-0.0) measured c.in_err-extents.ensures.unread)

pub returns-in_err-edit-clause-unplanned : goal.returns-in_err-edit-clause-unplanned
returns-in_err-edit-clause-unplanned c =
    let p = err_from_is_err_and c.from_residual-in_err-edit.result c.from_residual-in_err-edit.ensures.1 in
    let extents = c.in_ok-extents.extents.items in
    let samples = c.in_ok-extents.ensures.data in
    let closed = (rw c.deref.ensures.value at c.in_ok-list.ensures.moves) samples.apart in
    let by = closed_by extents c.deref-2.result 0 (rw c.deref-2.ensures.value closed) in
    rw (p.1 ∙ ap (λ (e : LayoutError). Err e) p.2)
    (λ before measured is stay. unmade_unplanned before (opened_movie c.args.movie.now) c.args.keeps.now.ids.now
    extents (of_layout c.in_err-edit.field-0.0) samples
    (c.in_err-edit.ensures.unmade (data_moved extents 0) by c.args.keeps.now.ids.now c.requires.ids))

pub plan_data-requires-clause-few : goal.plan_data-requires-clause-few
plan_data-requires-clause-few c =
    rw c.deref-3.ensures.value (omega (
      arith,
      few_bytes c.args.len c.in_ok-extents.extents.items c.in_ok-extents.ensures.data.apart
          c.in_ok-extents.ensures.within,
      c.ranges.len.fits,
    ))

pub returns-in_err-made-clause-unplanned : goal.returns-in_err-made-clause-unplanned
returns-in_err-made-clause-unplanned c =
    let p = err_from_is_err_and c.from_residual-in_err-made.result c.from_residual-in_err-made.ensures.1 in
    let extents = c.in_ok-extents.extents.items in
    let samples = c.in_ok-extents.ensures.data in
    let closed = (rw c.deref.ensures.value at c.in_ok-list.ensures.moves) samples.apart in
    let by = closed_by extents c.deref-2.result 0 (rw c.deref-2.ensures.value closed) in
    let edits = c.in_ok-edit.ensures.edit (data_moved extents 0) by c.args.keeps.now.ids.now c.requires.ids in
    rw (p.1 ∙ ap (λ (e : LayoutError). Err e) p.2)
    (λ before measured is stay. unplanned_data before c.args.len (opened_movie c.args.movie.now)
    c.args.keeps.now.ids.now
    c.args.frame.now extents c.in_ok-edit.edit measured is samples edits
    c.args.keeps.now.references.now (of_layout c.in_err-made.field-0.0) stay
    (rw c.deref-3.ensures.value at c.in_err-made.ensures.unplanned))

pub returns-in-Some-clause-begins : goal.returns-in-Some-clause-begins
returns-in-Some-clause-begins c =
    let extents = c.in_ok-extents.extents.items in
    let samples = c.in_ok-extents.ensures.data in
    let closed = (rw c.deref.ensures.value at c.in_ok-list.ensures.moves) samples.apart in
    let by = closed_by extents c.deref-2.result 0 (rw c.deref-2.ensures.value closed) in
    let edits = c.in_ok-edit.ensures.edit (data_moved extents 0) by c.args.keeps.now.ids.now c.requires.ids in
    rw (c.in-Some.ensures.made, c.in-Some.ensures.pieces)
    (planned_begins (opened_movie c.args.movie.now) c.args.keeps.now.ids.now
    c.args.frame.now extents c.in_ok-edit.edit
    c.args.keeps.now.references.now c.in_ok-made.made.items c.in_ok-made.pieces.items edits
    (rw c.deref-3.ensures.value at c.in_ok-made.ensures.planned))

pub returns-in-Some-clause-planned : goal.returns-in-Some-clause-planned
returns-in-Some-clause-planned c = λ before measured is.
    let extents = c.in_ok-extents.extents.items in
    let samples = c.in_ok-extents.ensures.data in
    let closed = (rw c.deref.ensures.value at c.in_ok-list.ensures.moves) samples.apart in
    let by = closed_by extents c.deref-2.result 0 (rw c.deref-2.ensures.value closed) in
    let edits = c.in_ok-edit.ensures.edit (data_moved extents 0) by c.args.keeps.now.ids.now c.requires.ids in
    planned_layout before c.args.len (opened_movie c.args.movie.now) c.args.keeps.now.ids.now
    c.args.frame.now extents c.in_ok-edit.edit measured is samples edits
    c.args.keeps.now.references.now c.in_ok-made.made.items c.in_ok-made.pieces.items c.in-Some.layout
    (rw c.deref-3.ensures.value at c.in_ok-made.ensures.planned) c.in-Some.ensures.source_len c.in-Some.ensures.made
    c.in-Some.ensures.pieces

pub returns-clause-unplanned : goal.returns-clause-unplanned
returns-clause-unplanned c = λ before measured is stay.
    let extents = c.in_ok-extents.extents.items in
    let samples = c.in_ok-extents.ensures.data in
    let closed = (rw c.deref.ensures.value at c.in_ok-list.ensures.moves) samples.apart in
    let by = closed_by extents c.deref-2.result 0 (rw c.deref-2.ensures.value closed) in
    let edits = c.in_ok-edit.ensures.edit (data_moved extents 0) by c.args.keeps.now.ids.now c.requires.ids in
    too_long before c.args.len (opened_movie c.args.movie.now) c.args.keeps.now.ids.now
    c.args.frame.now extents c.in_ok-edit.edit measured is samples edits c.args.keeps.now.references.now
    c.in_ok-made.made.items c.in_ok-made.pieces.items (rw c.deref-3.ensures.value at c.in_ok-made.ensures.planned)
    (rw c.deref-3.ensures.value at (c.in_ok-made.ensures.follow c.args.len
    (rw c.deref-3.ensures.value (fits_in before c.args.len (opened_movie c.args.movie.now) c.args.keeps.now.ids.now
    c.args.frame.now extents c.in_ok-edit.edit measured is samples edits
    c.in_ok-extents.ensures.within)))) c.in-None.ensures.none
