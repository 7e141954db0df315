use Rattle.std.proofs.Common.{ℕ, List, Option, IfSome, Err, ap, refl, sym, subst, ◌∙◌}
use Rattle.std.proofs.lemmas.Result.{err_from_is_err_and}
use Rattle.mp4_remux.specs.declared.error.RemuxError.{RemuxError}
use Rattle.mp4_remux.specs.declared.error.RemuxError.TheVariants.{OtherTracks}
use Rattle.mp4_remux.proofs.Faults.{refused_layout}
use Rattle.mp4_codec.specs.Cursor.{here}
use Rattle.mp4_media.specs.FileBoxes.{opened_movie}
use Rattle.mp4_media.specs.FileGrammar.{IsFile}
use Rattle.mp4_remux.proofs.HeaderLaws.{durations_of}
use Rattle.mp4_remux.proofs.Naming.{why_known}
use Rattle.mp4_remux.proofs.Rewriting.{on_ok, measured_after, same_splice, writes_remuxed}
use Rattle.mp4_remux.proofs.Refusing.{copied_or_not, not_opened, not_the_other, out_of_memory}
use Rattle.mp4_remux.proofs.rewrite.write_layout.Goals as goal

pub copy_all-requires : goal.copy_all-requires
copy_all-requires g c =
    measured_after (g.S.ByteSource.contents c.args.source) _ c.args.layout.now c.len-len.result c.requires.len
    (c.in_ok-splice.ensures.contents
    ∙ same_splice g.S.ByteSource.contents c.new-splice.result.source c.args.source c.new-splice.result.layout
    c.in_ok-try_clone.field-0 c.args.layout.now c.new-splice.ensures.source c.new-splice.ensures.layout
    c.in_ok-try_clone.ensures.made c.in_ok-try_clone.ensures.pieces)
    c.len-len.ensures

pub returns-clause-written : goal.returns-clause-written
returns-clause-written g c =
    on_ok c.copy_all.result c.copy_all.ensures.ok
    (writes_remuxed (g.S.ByteSource.contents c.args.source) _ (g.K.ByteSink.contents c.args.sink.now) _
    c.args.layout.now
    c.args.before.now c.in_ok-splice.after c.len-len.result c.args.made _ c.requires.len c.requires.opened
    (c.in_ok-splice.ensures.contents
    ∙ same_splice g.S.ByteSource.contents c.new-splice.result.source c.args.source c.new-splice.result.layout
    c.in_ok-try_clone.field-0 c.args.layout.now c.new-splice.ensures.source c.new-splice.ensures.layout
    c.in_ok-try_clone.ensures.made c.in_ok-try_clone.ensures.pieces)
    c.len-len.ensures
    (subst (λ (known : Option (List ℕ)). IfSome known (λ ys. IsFile c.len-len.result (here ys 0)
    (opened_movie c.in_ok-splice.after))) (sym c.in_ok-splice.ensures.contents) c.in_ok-splice.ensures.file)
    c.in_ok-check_same.ensures.ids c.in_ok-check_same.ensures.unfragmented c.in_ok-check_same.ensures.tracks
    (c.if-not-keeps_headers.ensures.0 refl)
    (durations_of c.args.made (opened_movie c.in_ok-splice.after) (c.if-not-has_durations.ensures.movie refl)
    (c.if-not-has_durations.ensures.tracks refl) c.in_ok-check_same.ensures.media))

pub returns-in_err-check_same-clause-refused : goal.returns-in_err-check_same-clause-refused
returns-in_err-check_same-clause-refused g c =
    let p = err_from_is_err_and c.from_residual-in_err-check_same.result c.from_residual-in_err-check_same.ensures.1 in
    refused_layout _ _ c.in_err-check_same.field-0.0 c.from_residual-in_err-check_same.result
    (p.1 ∙ ap (λ (e : RemuxError). Err e) p.2)

pub returns-in_err-check_same-clause-names : goal.returns-in_err-check_same-clause-names
returns-in_err-check_same-clause-names g c =
    let p = err_from_is_err_and c.from_residual-in_err-check_same.result c.from_residual-in_err-check_same.ensures.1 in
    rw (p.1 ∙ ap (λ (e : RemuxError). Err e) p.2)
    (why_known (g.S.ByteSource.contents c.args.source) c.args.layout.now.source_len (opened_movie c.args.before.now)
    c.args.ids.now c.requires.len c.requires.opened c.requires.kept _ c.in_err-check_same.ensures.why)

pub returns-in_err-try_clone-clause-why : goal.returns-in_err-try_clone-clause-why
returns-in_err-try_clone-clause-why g c =
    let p = err_from_is_err_and c.from_residual.result c.from_residual.ensures.1 in
    rw (p.1 ∙ ap (λ (e : RemuxError). Err e) p.2)
    (out_of_memory (g.S.ByteSource.contents c.args.source) c.args.layout.now c.args.made c.args.ids.now
    (opened_movie c.args.before.now))

pub returns-in_err-splice-clause-why : goal.returns-in_err-splice-clause-why
returns-in_err-splice-clause-why g c =
    let p = err_from_is_err_and c.from_residual-in_err-splice.result c.from_residual-in_err-splice.ensures.1 in
    rw (p.1 ∙ ap (λ (e : RemuxError). Err e) p.2)
    (not_opened (g.S.ByteSource.contents c.args.source) _ c.args.layout.now c.len-len.result c.args.made c.args.ids.now
    (opened_movie c.args.before.now) c.requires.len
    (same_splice g.S.ByteSource.contents c.new-splice.result.source c.args.source c.new-splice.result.layout
    c.in_ok-try_clone.field-0 c.args.layout.now c.new-splice.ensures.source c.new-splice.ensures.layout
    c.in_ok-try_clone.ensures.made c.in_ok-try_clone.ensures.pieces)
    c.len-len.ensures _ c.in_err-splice.ensures.why)

pub returns-in_err-check_same-clause-why : goal.returns-in_err-check_same-clause-why
returns-in_err-check_same-clause-why g c =
    let p = err_from_is_err_and c.from_residual-in_err-check_same.result c.from_residual-in_err-check_same.ensures.1 in
    rw (p.1 ∙ ap (λ (e : RemuxError). Err e) p.2)
    (not_the_other (g.S.ByteSource.contents c.args.source) _ c.args.layout.now c.len-len.result c.args.made
    c.args.ids.now (opened_movie c.args.before.now) (opened_movie c.in_ok-splice.after) c.requires.len
    (c.in_ok-splice.ensures.contents
    ∙ same_splice g.S.ByteSource.contents c.new-splice.result.source c.args.source c.new-splice.result.layout
    c.in_ok-try_clone.field-0 c.args.layout.now c.new-splice.ensures.source c.new-splice.ensures.layout
    c.in_ok-try_clone.ensures.made c.in_ok-try_clone.ensures.pieces)
    c.len-len.ensures
    (subst (λ (known : Option (List ℕ)). IfSome known (λ ys. IsFile c.len-len.result (here ys 0)
    (opened_movie c.in_ok-splice.after))) (sym c.in_ok-splice.ensures.contents) c.in_ok-splice.ensures.file)
    _ c.in_err-check_same.ensures.other)

pub returns-then-not-keeps_headers-clause-why : goal.returns-then-not-keeps_headers-clause-why
returns-then-not-keeps_headers-clause-why g c =
    not_the_other (g.S.ByteSource.contents c.args.source) _ c.args.layout.now c.len-len.result c.args.made
    c.args.ids.now (opened_movie c.args.before.now) (opened_movie c.in_ok-splice.after) c.requires.len
    (c.in_ok-splice.ensures.contents
    ∙ same_splice g.S.ByteSource.contents c.new-splice.result.source c.args.source c.new-splice.result.layout
    c.in_ok-try_clone.field-0 c.args.layout.now c.new-splice.ensures.source c.new-splice.ensures.layout
    c.in_ok-try_clone.ensures.made c.in_ok-try_clone.ensures.pieces)
    c.len-len.ensures
    (subst (λ (known : Option (List ℕ)). IfSome known (λ ys. IsFile c.len-len.result (here ys 0)
    (opened_movie c.in_ok-splice.after))) (sym c.in_ok-splice.ensures.contents) c.in_ok-splice.ensures.file)
    OtherTracks (λ keeps. let no = c.if-not-keeps_headers.ensures.1 keeps.headers in absurd cc)

pub returns-then-not-has_durations-clause-why : goal.returns-then-not-has_durations-clause-why
returns-then-not-has_durations-clause-why g c =
    not_the_other (g.S.ByteSource.contents c.args.source) _ c.args.layout.now c.len-len.result c.args.made
    c.args.ids.now (opened_movie c.args.before.now) (opened_movie c.in_ok-splice.after) c.requires.len
    (c.in_ok-splice.ensures.contents
    ∙ same_splice g.S.ByteSource.contents c.new-splice.result.source c.args.source c.new-splice.result.layout
    c.in_ok-try_clone.field-0 c.args.layout.now c.new-splice.ensures.source c.new-splice.ensures.layout
    c.in_ok-try_clone.ensures.made c.in_ok-try_clone.ensures.pieces)
    c.len-len.ensures
    (subst (λ (known : Option (List ℕ)). IfSome known (λ ys. IsFile c.len-len.result (here ys 0)
    (opened_movie c.in_ok-splice.after))) (sym c.in_ok-splice.ensures.contents) c.in_ok-splice.ensures.file)
    OtherTracks (λ keeps. c.if-not-has_durations.ensures.other refl keeps.durations)

pub returns-clause-why : goal.returns-clause-why
returns-clause-why g c =
    copied_or_not (g.S.ByteSource.contents c.args.source) c.args.layout.now c.args.made c.args.ids.now
    (opened_movie c.args.before.now) _ _ c.copy_all.result c.copy_all.ensures.err
