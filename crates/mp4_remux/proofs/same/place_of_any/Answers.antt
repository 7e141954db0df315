use Rattle.std.proofs.Common.{◌∙◌, Err, ap, inl}
use Rattle.std.proofs.lemmas.Result.{err_from_is_err_and}
use Rattle.mp4_codec.specs.Cause.{cause_of}
use Rattle.mp4_codec.specs.declared.error.Error.{Error}
use Rattle.mp4_remux.proofs.LookedUp.{none_found, none_said, not_counted, not_found, some_found}
use Rattle.mp4_remux.proofs.same.place_of_any.Goals as goal

pub returns-in-Ok-clause-some : goal.returns-in-Ok-clause-some
returns-in-Ok-clause-some c =
    some_found c.args.movie.now c.requires.tracks c.args.track_id c.args.k c.in-Ok.place c.in-Ok.ensures

pub returns-in-Ok-clause-none : goal.returns-in-Ok-clause-none
returns-in-Ok-clause-none c =
    none_found c.args.movie.now c.requires.tracks c.args.track_id c.args.k c.in-Ok.place c.in-Ok.ensures

pub returns-then-k-ne1-clause-unread : goal.returns-then-k-ne1-clause-unread
returns-then-k-ne1-clause-unread c =
    not_found c.args.movie.now c.requires.tracks c.args.track_id c.args.k (cause_of c.in-Err.error) c.requires.number
    c.in-Err.ensures

pub returns-in_err-sample_count-clause-unread : goal.returns-in_err-sample_count-clause-unread
returns-in_err-sample_count-clause-unread c =
    let p = err_from_is_err_and c.from_residual.result c.from_residual.ensures.1 in
    rw (p.1 ∙ ap (λ (e : Error). Err e) p.2)
    (not_counted c.args.movie.now c.requires.tracks c.args.track_id (cause_of c.in_err-sample_count.field-0.0)
    c.in_err-sample_count.ensures)

pub returns-then-branch-eq0-clause-none : goal.returns-then-branch-eq0-clause-none
returns-then-branch-eq0-clause-none c =
    inl (
      c.if-k-ne1.false,
      none_said c.args.movie.now c.requires.tracks c.args.track_id (cause_of c.in-Err.error)
          (rw c.if-branch-eq0.true at c.in_ok-sample_count.ensures) (rw c.if-k-ne1.false at c.in-Err.ensures),
    )

pub returns-clause-unread : goal.returns-clause-unread
returns-clause-unread c =
    not_found c.args.movie.now c.requires.tracks c.args.track_id c.args.k (cause_of c.in-Err.error) c.requires.number
    c.in-Err.ensures
