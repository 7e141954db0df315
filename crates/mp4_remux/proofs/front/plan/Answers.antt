use Rattle.std.proofs.Common.{◌∙◌, Err, ap, inl, inr, refl}
use Rattle.std.proofs.lemmas.Result.{err_from_is_err_and}
use Rattle.mp4_remux.specs.declared.error.RemuxError.{RemuxError}
use Rattle.mp4_remux.specs.Front.{IsMovieLater}
use Rattle.mp4_codec.specs.declared.box_type.BoxType.TheVariants.{FtypBox, MoovBox}
use Rattle.mp4_remux.proofs.Faults.{refused_anyhow}
use Rattle.mp4_remux.proofs.Naming.{twice_known}
use Rattle.mp4_remux.proofs.TopBoxes.{movie_later, no_boxes_at_all}
use Rattle.mp4_remux.proofs.NotInFront.{neither_why, whatever_boxes}
use Rattle.mp4_remux.specs.declared.error.RemuxError.TheVariants.{OtherTracks}
use Rattle.mp4_remux.proofs.front.plan.Goals as goal
use Rattle.mp4_remux.proofs.front.plan.Goals.{in_default-via-in-Some+in_default, in_default-via-in_default}

pub returns-in_err-source-clause-named : goal.returns-in_err-source-clause-named
returns-in_err-source-clause-named g c =
    let p = err_from_is_err_and c.from_residual.result c.from_residual.ensures.1 in
    rw (p.1 ∙ ap (λ (e : RemuxError). Err e) p.2)
    (λ named. no_boxes_at_all (g.S.ByteSource.contents c.args.source) (c.in_err-source.ensures.none named))

pub returns-in_err-file_type-clause-named : goal.returns-in_err-file_type-clause-named
returns-in_err-file_type-clause-named g c =
    refused_anyhow (IsMovieLater (g.S.ByteSource.contents c.args.source)) c.from_residual-in_err-file_type.result
    (movie_later (g.S.ByteSource.contents c.args.source) c.in_ok-source.boxes.items c.in_ok-source.ensures.boxes
    (rw c.deref.ensures.value at (c.if-is_in_front.ensures.later refl)))

pub returns-in_err-movie-clause-named : goal.returns-in_err-movie-clause-named
returns-in_err-movie-clause-named g c =
    refused_anyhow (IsMovieLater (g.S.ByteSource.contents c.args.source)) c.from_residual-in_err-movie.result
    (movie_later (g.S.ByteSource.contents c.args.source) c.in_ok-source.boxes.items c.in_ok-source.ensures.boxes
    (rw c.deref.ensures.value at (c.if-is_in_front.ensures.later refl)))

pub returns-in_err-source-2-clause-named : goal.returns-in_err-source-2-clause-named
returns-in_err-source-2-clause-named g c =
    refused_anyhow (IsMovieLater (g.S.ByteSource.contents c.args.source)) c.from_residual-in_err-source-2.result
    (movie_later (g.S.ByteSource.contents c.args.source) c.in_ok-source.boxes.items c.in_ok-source.ensures.boxes
    (rw c.deref.ensures.value at (c.if-is_in_front.ensures.later refl)))

pub returns-in_default-clause-named : goal.returns-in_default-clause-named
returns-in_default-clause-named g c = λ _.
    movie_later (g.S.ByteSource.contents c.args.source) c.in_ok-source.boxes.items c.in_ok-source.ensures.boxes
    (rw c.deref.ensures.value at (c.if-is_in_front.ensures.later refl))

pub returns-clause-later : goal.returns-clause-later
returns-clause-later g c =
    movie_later (g.S.ByteSource.contents c.args.source) c.in_ok-source.boxes.items c.in_ok-source.ensures.boxes
    (rw c.deref.ensures.value at (c.if-is_in_front.ensures.later refl))

pub returns-in_err-file_type-clause-names : goal.returns-in_err-file_type-clause-names
returns-in_err-file_type-clause-names g c =
    let p = err_from_is_err_and c.from_residual-in_err-file_type.result c.from_residual-in_err-file_type.ensures.1 in
    rw (p.1 ∙ ap (λ (e : RemuxError). Err e) p.2)
    (twice_known (g.S.ByteSource.contents c.args.source) c.in_ok-source.boxes.items FtypBox
    c.in_ok-source.ensures.boxes (inl refl) _ (rw c.deref-2.ensures.value at c.in_err-file_type.ensures.names))

pub returns-in_err-movie-clause-names : goal.returns-in_err-movie-clause-names
returns-in_err-movie-clause-names g c =
    let p = err_from_is_err_and c.from_residual-in_err-movie.result c.from_residual-in_err-movie.ensures.1 in
    rw (p.1 ∙ ap (λ (e : RemuxError). Err e) p.2)
    (twice_known (g.S.ByteSource.contents c.args.source) c.in_ok-source.boxes.items MoovBox
    c.in_ok-source.ensures.boxes (inr refl) _ (rw c.deref-3.ensures.value at c.in_err-movie.ensures.names))

pub returns-in_err-source-2-clause-why : goal.returns-in_err-source-2-clause-why
returns-in_err-source-2-clause-why g c =
    let p = err_from_is_err_and c.from_residual-in_err-source-2.result c.from_residual-in_err-source-2.ensures.1 in
    rw (p.1 ∙ ap (λ (e : RemuxError). Err e) p.2)
    (whatever_boxes (g.S.ByteSource.contents c.args.source) c.in_ok-source.boxes.items _ c.in_ok-source.ensures.boxes
    (rw (c.in_ok-source.ensures.contents, c.deref-4.ensures.value) at c.in_err-source-2.ensures.why))

pub returns-in_default-clause-why : goal.returns-in_default-clause-why
returns-in_default-clause-why g c =
    whatever_boxes (g.S.ByteSource.contents c.args.source) c.in_ok-source.boxes.items OtherTracks
    c.in_ok-source.ensures.boxes
    (neither_why (g.S.ByteSource.contents c.args.source) c.in_ok-source.boxes.items
    (elim c.in_default.branch [
      | in_default-via-in-Some+in_default w ↦
          inr (rw (w.in_default.is-1, c.deref-3.ensures.value) at c.in_ok-movie.ensures.none)
      | in_default-via-in_default w ↦
          inl (rw (w.in_default.is-0, c.deref-2.ensures.value) at c.in_ok-file_type.ensures.none)
    ]))
