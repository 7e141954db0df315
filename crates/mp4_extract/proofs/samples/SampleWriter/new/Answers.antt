use Rattle.std.proofs.Common.{inl, inr, sym}
use Rattle.std.proofs.lemmas.Result.{err_from_is_err_and}
use Rattle.mp4_extract.proofs.samples.SampleWriter.new.Goals as goal

pub returns-clause-form : goal.returns-clause-form
returns-clause-form g c = (
  c.in-Some.track.now,
  rw (← c.deref.ensures, ← c.tracks.ensures) (sym c.in-Some.ensures.value),
  c.in_ok-form.ensures.form,
)

pub returns-clause-described : goal.returns-clause-described
returns-clause-described g c = (
  c.in-Some.track.now,
  rw (← c.deref.ensures, ← c.tracks.ensures) (sym c.in-Some.ensures.value),
  rw (← c.deref-2.ensures, ← c.as_slice.ensures) c.in_ok-check_descriptions.ensures.ok,
)

pub returns-in_err-form-clause-refused : goal.returns-in_err-form-clause-refused
returns-in_err-form-clause-refused g c =
    let p = err_from_is_err_and c.from_residual.result c.from_residual.ensures.1 in
    rw (p.1, p.2) (inl (inr (
      c.in-Some.track.now,
      rw (← c.deref.ensures, ← c.tracks.ensures) (sym c.in-Some.ensures.value),
      c.in_err-form.ensures.refused,
    )))

pub returns-in_err-check_descriptions-clause-refused : goal.returns-in_err-check_descriptions-clause-refused
returns-in_err-check_descriptions-clause-refused g c =
    let residual = c.from_residual-in_err-check_descriptions in
    let p = err_from_is_err_and residual.result residual.ensures.1 in
    let refused = rw (c.deref-2.ensures, c.as_slice.ensures) at c.in_err-check_descriptions.ensures.refused in
    rw (p.1, p.2) (inr (
      (
        c.in_ok-form.form,
        (
          c.in-Some.track.now,
          rw (← c.deref.ensures, ← c.tracks.ensures) (sym c.in-Some.ensures.value),
          c.in_ok-form.ensures.form,
        ),
      ),
      c.in-Some.track.now,
      rw (← c.deref.ensures, ← c.tracks.ensures) (sym c.in-Some.ensures.value),
      refused.0,
      refused.1,
      refused.2,
    ))
