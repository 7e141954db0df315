use Rattle.std.proofs.Common.{◌∙◌, Err, ap, inl, inr, refl}
use Rattle.std.proofs.lemmas.Result.{err_from_is_err_and}
use Rattle.mp4_codec.specs.declared.box_type.BoxType.TheVariants.{FtypBox, MoovBox}
use Rattle.mp4_remux.specs.declared.error.RemuxError.{RemuxError}
use Rattle.mp4_remux.proofs.Naming.{twice_known}
use Rattle.mp4_remux.specs.declared.error.RemuxError.TheVariants.{OtherTracks}
use Rattle.mp4_remux.proofs.Framing.{box_frame, header_frame, neither_frame, whatever_frame}
use Rattle.mp4_remux.proofs.frame.read_frame.Goals as goal
use Rattle.mp4_remux.proofs.frame.read_frame.Goals.{in_default-via-in-Some+in_default, in_default-via-in_default}

pub returns-in_err-file_type-clause-names : goal.returns-in_err-file_type-clause-names
returns-in_err-file_type-clause-names g c =
    let p = err_from_is_err_and c.from_residual-in_err-file_type.result c.from_residual-in_err-file_type.ensures.1 in
    rw (p.1 ∙ ap (λ (e : RemuxError). Err e) p.2)
    (twice_known (g.S.ByteSource.contents c.args.source) c.in_ok-source.boxes.items FtypBox
    c.in_ok-source.ensures.boxes (inl refl) _ (rw c.deref.ensures.value at c.in_err-file_type.ensures.names))

pub returns-in_err-movie-clause-names : goal.returns-in_err-movie-clause-names
returns-in_err-movie-clause-names g c =
    let p = err_from_is_err_and c.from_residual-in_err-movie.result c.from_residual-in_err-movie.ensures.1 in
    rw (p.1 ∙ ap (λ (e : RemuxError). Err e) p.2)
    (twice_known (g.S.ByteSource.contents c.args.source) c.in_ok-source.boxes.items MoovBox
    c.in_ok-source.ensures.boxes (inr refl) _ (rw c.deref-2.ensures.value at c.in_err-movie.ensures.names))

pub returns-in_default-clause-why : goal.returns-in_default-clause-why
returns-in_default-clause-why g c =
    whatever_frame (g.S.ByteSource.contents c.args.source) c.in_ok-source.boxes.items OtherTracks
    c.in_ok-source.ensures.boxes
    (neither_frame (g.S.ByteSource.contents c.args.source) c.in_ok-source.boxes.items
    (elim c.in_default.branch [
      | in_default-via-in-Some+in_default w ↦
          inr (rw (w.in_default.is-1, c.deref-2.ensures.value) at c.in_ok-movie.ensures.none)
      | in_default-via-in_default w ↦
          inl (rw (w.in_default.is-0, c.deref.ensures.value) at c.in_ok-file_type.ensures.none)
    ]))

pub returns-in_err-source-2-clause-why : goal.returns-in_err-source-2-clause-why
returns-in_err-source-2-clause-why g c =
    let p = err_from_is_err_and c.from_residual-in_err-source-2.result c.from_residual-in_err-source-2.ensures.1 in
    rw (p.1 ∙ ap (λ (e : RemuxError). Err e) p.2)
    (whatever_frame (g.S.ByteSource.contents c.args.source) c.in_ok-source.boxes.items _ c.in_ok-source.ensures.boxes
    (header_frame (g.S.ByteSource.contents c.args.source) c.in_ok-source.boxes.items FtypBox
    c.in-Some-Some.file_type _ (inl refl)
    (rw (c.in-Some-Some.is-0, c.deref.ensures.value) at c.in_ok-file_type.ensures.only) c.in_ok-source.ensures.boxes
    (rw c.in_ok-source.ensures.contents at c.in_err-source-2.ensures.cause)))

pub returns-in_err-source-3-clause-why : goal.returns-in_err-source-3-clause-why
returns-in_err-source-3-clause-why g c =
    let p = err_from_is_err_and c.from_residual-in_err-source-3.result c.from_residual-in_err-source-3.ensures.1 in
    rw (p.1 ∙ ap (λ (e : RemuxError). Err e) p.2)
    (whatever_frame (g.S.ByteSource.contents c.args.source) c.in_ok-source.boxes.items _ c.in_ok-source.ensures.boxes
    (header_frame (g.S.ByteSource.contents c.args.source) c.in_ok-source.boxes.items MoovBox c.in-Some-Some.movie _
    (inr refl) (rw (c.in-Some-Some.is-1, c.deref-2.ensures.value) at c.in_ok-movie.ensures.only)
    c.in_ok-source.ensures.boxes
    (rw (c.in_ok-source-2.ensures.contents, c.in_ok-source.ensures.contents) at c.in_err-source-3.ensures.cause)))

pub returns-in_err-movie_bytes-clause-why : goal.returns-in_err-movie_bytes-clause-why
returns-in_err-movie_bytes-clause-why g c =
    let p = err_from_is_err_and c.from_residual-in_err-movie_bytes.result
    c.from_residual-in_err-movie_bytes.ensures.1 in
    rw (p.1 ∙ ap (λ (e : RemuxError). Err e) p.2)
    (whatever_frame (g.S.ByteSource.contents c.args.source) c.in_ok-source.boxes.items _ c.in_ok-source.ensures.boxes
    (box_frame (g.S.ByteSource.contents c.args.source) c.in_ok-source.boxes.items MoovBox c.in-Some-Some.movie _
    (rw (c.in-Some-Some.is-1, c.deref-2.ensures.value) at c.in_ok-movie.ensures.only) c.in_ok-source.ensures.boxes
    (rw (
      c.check_others.ensures.contents,
      c.in_ok-source-3.ensures.contents,
      c.in_ok-source-2.ensures.contents,
      c.in_ok-source.ensures.contents,
    ) at c.in_err-movie_bytes.ensures.cause)))
