use Rattle.std.proofs.Common.{◌∙◌, Err, ap, arith, subst}
use Rattle.std.proofs.lemmas.Result.{err_from_is_err_and}
use Rattle.mp4_codec.specs.declared.error.Error.{Error}
use Rattle.mp4_remux.proofs.ClosedUp.{closed_by}
use Rattle.mp4_remux.proofs.EditedMost.{edited_most}
use Rattle.mp4_remux.proofs.PlanningRebuilt.{IsLeastMovie, least_movie, movie_at}
use Rattle.mp4_remux.specs.PlannedRebuilt.{data_moved}
use Rattle.mp4_remux.proofs.rebuilt_layout.movie_by_rounds.Goals as goal

pub returns-in_err-movie-clause-refused : goal.returns-in_err-movie-clause-refused
returns-in_err-movie-clause-refused c = λ extents closed.
    let p = err_from_is_err_and c.from_residual.result c.from_residual.ensures.1 in
    rw (p.1 ∙ ap (λ (e : Error). Err e) p.2) (
      c.data_begin-base.result,
      rw c.deref.ensures.value at (c.in_err-movie.ensures.refused (data_moved extents c.data_begin-base.result)
          (closed_by extents c.args.list c.data_begin-base.result closed)),
    )

pub loop-movie-smaller : goal.loop-movie-smaller
loop-movie-smaller c =
    let extents = c.requires.closed.0 in
    let closed = c.requires.closed.1 in
    let edited = rw c.deref.ensures.value at (c.in_ok-movie.ensures.edited
    (data_moved extents c.data_begin-base.result) (closed_by extents c.args.list c.data_begin-base.result closed)) in
    omega (
      arith,
      c.loop-movie.invariant.least extents closed c.in_ok-movie.movie.items
          (movie_at c.args.edit.now c.args.frame.now extents c.data_begin-base.result _ c.in_ok-movie.movie.items
          c.data_begin-base.ensures edited),
      edited_most c.args.edit.now (data_moved extents c.data_begin-base.result) c.data_begin-base.result 0 0
          c.args.frame.now.movie_bytes.items c.in_ok-movie.movie.items edited,
      c.if-len-movie_len.false,
      c.len-movie_len.ensures,
      c.len.ensures,
    )

pub loop-movie-preserved : goal.loop-movie-preserved
loop-movie-preserved c = record {
  least = λ extents closed.
      let edited = rw c.deref.ensures.value at (c.in_ok-movie.ensures.edited
      (data_moved extents c.data_begin-base.result)
      (closed_by extents c.args.list c.data_begin-base.result closed)) in
      subst (λ n. IsLeastMovie c.args.edit.now c.args.frame.now extents c.args.header_len n)
      (omega (arith, c.len-movie_len.ensures)) (least_movie c.args.edit.now c.args.frame.now extents c.args.header_len
      c.loop-movie.movie_len c.in_ok-movie.movie.items (c.loop-movie.invariant.least extents closed)
      (movie_at c.args.edit.now c.args.frame.now extents c.data_begin-base.result _ c.in_ok-movie.movie.items
      c.data_begin-base.ensures edited));
}
