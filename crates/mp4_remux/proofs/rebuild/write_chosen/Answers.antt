use Rattle.std.proofs.Common.{◌≡◌, ◌∙◌, ℕ, List, Ok, Err, ap, refl, subst}
use Rattle.mp4_codec.specs.declared.error.Error.TheVariants.{OutOfMemory}
use Rattle.mp4_remux.specs.Errors.{of_layout}
use Rattle.mp4_remux.specs.declared.error.RemuxError.TheVariants.{Mp4}
use Rattle.mp4_remux.specs.PlannedRebuilt.{staying_of}
use Rattle.std.proofs.lemmas.Result.{err_from_is_err_and}
use Rattle.mp4_remux.specs.declared.error.RemuxError.{RemuxError}
use Rattle.mp4_remux.proofs.Faults.{refused_layout}
use Rattle.mp4_remux.proofs.Naming.{why_known}
use Rattle.mp4_media.specs.FileBoxes.{opened_movie}
use Rattle.mp4_remux.specs.References.{leaves_some, references_in}
use Rattle.mp4_remux.proofs.Finding.{left_out_by, staying_by}
use Rattle.mp4_remux.proofs.Rebuilding.{writes_rebuilt}
use Rattle.mp4_remux.proofs.Framing.{frame_of, opened_frame}
use Rattle.mp4_remux.proofs.PlanningRebuilt.{frame_why, memory_why, unplanned_why, written_planned, written_why}
use Rattle.mp4_remux.proofs.rebuild.write_chosen.Goals as goal

pub returns-clause-written : goal.returns-clause-written
returns-clause-written g c =
    let f = c.in_ok-source.frame in
    let some = leaves_some c.args.all.now c.args.ids.now in
    let sorted = c.in_ok-sorted.sorted.items in
    let all : c.in_ok-references.references.items ≡ references_in f.movie_bytes.items c.args.all.now =
    c.in_ok-references.ensures.list
    ∙ ap (λ (movie : List ℕ). references_in movie c.args.all.now) c.deref.ensures.value in
    writes_rebuilt (g.S.ByteSource.contents c.args.source) _ _ (Ok tt) c.in_ok-layout.layout
    (opened_movie c.args.movie.now) c.args.all.now c.args.ids.now _ _ f.file_type f.movie f.movie_bytes.items
    (rw (c.in_ok-source.ensures.contents, c.made_of.ensures) at c.in_ok-write_layout.ensures.written)
    (frame_of (g.S.ByteSource.contents c.args.source) _ f c.in_ok-source.ensures.frame)
    c.in_ok-layout.ensures.begins
    (c.deref-4.ensures.value
    ∙ (rw (c.deref-3.ensures.value, c.deref-2.ensures.value, all) at c.in_ok-staying.ensures.staying)
    ∙ staying_by some c.args.ids.now sorted c.in_ok-sorted.ensures.same _)
    ((rw (c.deref-3.ensures.value, c.deref-2.ensures.value, all) at c.in_ok-staying.ensures.left_out)
    ∙ left_out_by some c.args.ids.now sorted c.in_ok-sorted.ensures.same _)

pub returns-in_err-layout-clause-refused : goal.returns-in_err-layout-clause-refused
returns-in_err-layout-clause-refused g c =
    let p = err_from_is_err_and c.from_residual-in_err-layout.result c.from_residual-in_err-layout.ensures.1 in
    refused_layout _ _ c.in_err-layout.field-0.0 c.from_residual-in_err-layout.result
    (p.1 ∙ ap (λ (e : RemuxError). Err e) p.2)

pub returns-in_err-layout-clause-names : goal.returns-in_err-layout-clause-names
returns-in_err-layout-clause-names g c =
    let p = err_from_is_err_and c.from_residual-in_err-layout.result c.from_residual-in_err-layout.ensures.1 in
    rw (p.1 ∙ ap (λ (e : RemuxError). Err e) p.2)
    (why_known (g.S.ByteSource.contents c.args.source) c.args.len (opened_movie c.args.movie.now) c.args.ids.now
    c.requires.len c.requires.opened c.requires.kept _ c.in_err-layout.ensures.why)

pub returns-in_err-source-clause-why : goal.returns-in_err-source-clause-why
returns-in_err-source-clause-why g c =
    let p = err_from_is_err_and c.from_residual.result c.from_residual.ensures.1 in
    rw (p.1 ∙ ap (λ (e : RemuxError). Err e) p.2)
    (frame_why (g.S.ByteSource.contents c.args.source) (opened_movie c.args.movie.now) c.args.ids.now _
    (opened_frame (g.S.ByteSource.contents c.args.source) (opened_movie c.args.movie.now) _ c.requires.opened
    c.in_err-source.ensures.why))

pub returns-in_err-references-clause-why : goal.returns-in_err-references-clause-why
returns-in_err-references-clause-why g c =
    let p = err_from_is_err_and c.from_residual-in_err-references.result c.from_residual-in_err-references.ensures.1 in
    rw (p.1 ∙ ap (λ (e : RemuxError). Err e) p.2)
    (memory_why (g.S.ByteSource.contents c.args.source) (opened_movie c.args.movie.now) c.args.ids.now
    (Mp4 OutOfMemory) refl)

pub returns-in_err-sorted-clause-why : goal.returns-in_err-sorted-clause-why
returns-in_err-sorted-clause-why g c =
    let p = err_from_is_err_and c.from_residual-in_err-sorted.result c.from_residual-in_err-sorted.ensures.1 in
    rw (p.1 ∙ ap (λ (e : RemuxError). Err e) p.2)
    (memory_why (g.S.ByteSource.contents c.args.source) (opened_movie c.args.movie.now) c.args.ids.now
    (Mp4 OutOfMemory) refl)

pub returns-in_err-staying-clause-why : goal.returns-in_err-staying-clause-why
returns-in_err-staying-clause-why g c =
    let p = err_from_is_err_and c.from_residual-in_err-staying.result c.from_residual-in_err-staying.ensures.1 in
    rw (p.1 ∙ ap (λ (e : RemuxError). Err e) p.2)
    (memory_why (g.S.ByteSource.contents c.args.source) (opened_movie c.args.movie.now) c.args.ids.now
    (Mp4 OutOfMemory) refl)

pub returns-in_err-layout-clause-why : goal.returns-in_err-layout-clause-why
returns-in_err-layout-clause-why g c =
    let p = err_from_is_err_and c.from_residual-in_err-layout.result c.from_residual-in_err-layout.ensures.1 in
    let f = c.in_ok-source.frame in
    let some = leaves_some c.args.all.now c.args.ids.now in
    let sorted = c.in_ok-sorted.sorted.items in
    let all : c.in_ok-references.references.items ≡ references_in f.movie_bytes.items c.args.all.now =
    c.in_ok-references.ensures.list
    ∙ ap (λ (movie : List ℕ). references_in movie c.args.all.now) c.deref.ensures.value in
    let stay = subst (λ (list : List ℕ). c.deref-4.result.now ≡ staying_of f list c.args.ids.now) c.requires.all
    (c.deref-4.ensures.value
    ∙ (rw (c.deref-3.ensures.value, c.deref-2.ensures.value, all) at c.in_ok-staying.ensures.staying)
    ∙ staying_by some c.args.ids.now sorted c.in_ok-sorted.ensures.same _) in
    rw (p.1 ∙ ap (λ (e : RemuxError). Err e) p.2)
    (unplanned_why (g.S.ByteSource.contents c.args.source) c.args.len (opened_movie c.args.movie.now) c.args.ids.now f
    c.deref-4.result.now (of_layout c.in_err-layout.field-0.0) c.requires.len
    (rw c.has_fragments.ensures.tables at c.in_ok-source.ensures.frame) stay c.in_err-layout.ensures.unplanned)

pub returns-in_err-write_layout-clause-why : goal.returns-in_err-write_layout-clause-why
returns-in_err-write_layout-clause-why g c =
    let p = err_from_is_err_and c.from_residual-in_err-write_layout.result
    c.from_residual-in_err-write_layout.ensures.1 in
    rw (p.1 ∙ ap (λ (e : RemuxError). Err e) p.2)
    (written_why (g.S.ByteSource.contents c.args.source) c.args.len (opened_movie c.args.movie.now) c.args.ids.now
    c.in_ok-source.frame c.in_ok-layout.layout.made.items c.in_ok-layout.layout.pieces.items _ c.requires.len
    (rw c.has_fragments.ensures.tables at c.in_ok-source.ensures.frame) c.in_ok-layout.ensures.planned
    (rw (c.in_ok-source.ensures.contents, c.made_of.ensures) at c.in_err-write_layout.ensures.why))

pub returns-clause-planned : goal.returns-clause-planned
returns-clause-planned g c =
    written_planned (g.S.ByteSource.contents c.args.source) _ _ c.args.len (opened_movie c.args.movie.now)
    c.args.ids.now c.in_ok-source.frame c.in_ok-layout.layout.made.items c.in_ok-layout.layout.pieces.items
    c.requires.len (rw c.has_fragments.ensures.tables at c.in_ok-source.ensures.frame) c.in_ok-layout.ensures.planned
    (rw (c.in_ok-source.ensures.contents, c.made_of.ensures) at c.in_ok-write_layout.ensures.written)
