use Rattle.std.proofs.Common.{◌≡◌, ◌∙◌, ◌-◌, ◌*◌, ◌^◌, ◌<◌, ◌≤◌, ℕ, length, Err, ap, arith, inl, inr, refl, subst}
use Rattle.std.proofs.lemmas.Result.{err_from_is_err_and}
use Rattle.std.specs.List.{filter}
use Rattle.mp4_codec.specs.declared.box_type.BoxType.TheVariants.{FtypBox, MoovBox}
use Rattle.mp4_remux.specs.Front.{AreApart}
use Rattle.mp4_remux.specs.PlannedFront.{front_stretches}
use Rattle.mp4_remux.specs.Splice.{Follow, has_bytes}
use Rattle.mp4_remux.specs.declared.error.RemuxError.{RemuxError}
use Rattle.mp4_remux.proofs.Naming.{names_known, one_of_known}
use Rattle.mp4_remux.proofs.NotInFront.{box_why, header_why, no_layout_why}
use Rattle.mp4_remux.proofs.Planning.{is_planned}
use Rattle.mp4_remux.proofs.front.plan_moved.Goals as goal

pub returns-in_err-check_moved-clause-names : goal.returns-in_err-check_moved-clause-names
returns-in_err-check_moved-clause-names g c =
    let p = err_from_is_err_and c.from_residual-in_err-check_moved.result
    c.from_residual-in_err-check_moved.ensures.1 in
    rw (p.1 ∙ ap (λ (e : RemuxError). Err e) p.2)
    (names_known (g.S.ByteSource.contents c.args.source) _
    (one_of_known (g.S.ByteSource.contents c.args.source) c.args.boxes.now c.requires.boxes) _
    c.in_err-check_moved.ensures.names)

pub returns-clause-planned : goal.returns-clause-planned
returns-clause-planned g c =
    rw (c.in-Some.ensures.made, c.in-Some.ensures.pieces)
    (is_planned (g.S.ByteSource.contents c.args.source) c.args.len c.args.boxes.now c.args.file_type c.args.movie
    c.in_ok-bytes.bytes.items c.in_ok-made.made.items c.in_ok-pieces.pieces.items c.in-Some.layout c.requires.len
    c.requires.file_type c.requires.movie c.requires.boxes c.in_ok-source.ensures.header
    (rw c.in_ok-source.ensures.contents at c.in_ok-source-2.ensures.header)
    (rw (
      c.check_metadata.ensures.contents,
      c.check_moved.ensures.contents,
      c.in_ok-source-2.ensures.contents,
      c.in_ok-source.ensures.contents,
    ) at c.in_ok-bytes.ensures.bytes) (rw c.deref.ensures.value at c.in_ok-made.ensures.moved)
    (c.in_ok-pieces.ensures.stretches ∙ ap (λ n. filter has_bytes
    (front_stretches c.args.len c.args.file_type c.args.movie n)) (omega (arith, c.len.ensures)))
    (λ source long. c.in_ok-pieces.ensures.bytes source c.in_ok-made.made.items long (omega (arith, c.len.ensures)))
    c.in-Some.ensures.source_len c.in-Some.ensures.made c.in-Some.ensures.pieces c.in-Some.ensures.small)

pub returns-in_err-source-clause-why : goal.returns-in_err-source-clause-why
returns-in_err-source-clause-why g c =
    let p = err_from_is_err_and c.from_residual.result c.from_residual.ensures.1 in
    rw (p.1 ∙ ap (λ (e : RemuxError). Err e) p.2)
    (header_why (g.S.ByteSource.contents c.args.source) c.args.boxes.now FtypBox c.args.file_type _ (inl refl)
    c.requires.file_type c.requires.boxes c.in_err-source.ensures.cause)

pub returns-in_err-source-2-clause-why : goal.returns-in_err-source-2-clause-why
returns-in_err-source-2-clause-why g c =
    let p = err_from_is_err_and c.from_residual-in_err-source-2.result c.from_residual-in_err-source-2.ensures.1 in
    rw (p.1 ∙ ap (λ (e : RemuxError). Err e) p.2)
    (header_why (g.S.ByteSource.contents c.args.source) c.args.boxes.now MoovBox c.args.movie _ (inr refl)
    c.requires.movie c.requires.boxes
    (rw c.in_ok-source.ensures.contents at c.in_err-source-2.ensures.cause))

pub returns-in_err-bytes-clause-why : goal.returns-in_err-bytes-clause-why
returns-in_err-bytes-clause-why g c =
    let p = err_from_is_err_and c.from_residual-in_err-bytes.result c.from_residual-in_err-bytes.ensures.1 in
    rw (p.1 ∙ ap (λ (e : RemuxError). Err e) p.2)
    (box_why (g.S.ByteSource.contents c.args.source) c.args.boxes.now MoovBox c.args.movie _ c.requires.movie
    c.requires.boxes (rw (
      c.check_metadata.ensures.contents,
      c.check_moved.ensures.contents,
      c.in_ok-source-2.ensures.contents,
      c.in_ok-source.ensures.contents,
    ) at c.in_err-bytes.ensures.cause))

pub returns-in_default-clause-why : goal.returns-in_default-clause-why
returns-in_default-clause-why g c =
    let many : c.len.result ≡ length c.in_ok-made.made.items = omega (arith, c.len.ensures) in
    no_layout_why (g.S.ByteSource.contents c.args.source) c.args.len c.args.boxes.now c.args.file_type c.args.movie
    c.in_ok-bytes.bytes.items c.in_ok-made.made.items c.in_ok-pieces.pieces.items c.requires.len c.requires.file_type
    c.requires.movie c.requires.boxes
    (rw (
      c.check_metadata.ensures.contents,
      c.check_moved.ensures.contents,
      c.in_ok-source-2.ensures.contents,
      c.in_ok-source.ensures.contents,
    ) at c.in_ok-bytes.ensures.bytes) (rw c.deref.ensures.value at c.in_ok-made.ensures.len)
    (subst (λ n. AreApart c.args.len c.args.file_type c.args.movie → c.args.len < 2 ^ 63
    → n ≤ 2 * (c.args.movie.end - c.args.movie.place)
    → (end : ℕ) × ((end < 2 ^ 64) × Follow c.args.len n 0 c.in_ok-pieces.pieces.items end)) many
    c.in_ok-pieces.ensures.follow) c.in_default.ensures.none
