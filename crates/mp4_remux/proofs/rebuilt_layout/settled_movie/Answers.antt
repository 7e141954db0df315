use Rattle.std.proofs.Common.{◌∙◌, Err, ap, arith}
use Rattle.std.proofs.lemmas.Result.{err_from_is_err_and}
use Rattle.mp4_codec.specs.declared.error.Error.{Error}
use Rattle.mp4_remux.specs.PlannedRebuilt.{data_moved}
use Rattle.mp4_remux.proofs.ClosedUp.{closed_by}
use Rattle.mp4_remux.proofs.PlanningRebuilt.{settled_at}
use Rattle.mp4_remux.proofs.rebuilt_layout.settled_movie.Goals as goal

pub returns-in_err-movie-clause-refused : goal.returns-in_err-movie-clause-refused
returns-in_err-movie-clause-refused c = λ extents closed.
    let p = err_from_is_err_and c.from_residual.result c.from_residual.ensures.1 in
    rw (p.1 ∙ ap (λ (e : Error). Err e) p.2) (
      c.data_begin-base.result,
      rw c.deref.ensures.value at (c.in_err-movie.ensures.refused (data_moved extents c.data_begin-base.result)
          (closed_by extents c.args.list c.data_begin-base.result closed)),
    )

pub returns-then-len-movie_len-clause-settled : goal.returns-then-len-movie_len-clause-settled
returns-then-len-movie_len-clause-settled c = λ extents closed.
    settled_at c.args.edit.now c.args.frame.now extents c.args.header_len c.data_begin-base.result _
    c.in_ok-movie.movie.items c.data_begin-base.ensures (omega (arith, c.len.ensures, c.if-len-movie_len.true))
    (rw c.deref.ensures.value at (c.in_ok-movie.ensures.edited (data_moved extents c.data_begin-base.result)
    (closed_by extents c.args.list c.data_begin-base.result closed)))
