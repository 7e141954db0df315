use Rattle.std.proofs.Common.{None, Some, Err, refl, ap, ◌∙◌}
use Rattle.std.proofs.lemmas.Result.{err_from_is_err_and}
use Rattle.mp4_samples.specs.Places.{place_of}
use Rattle.mp4_remux.proofs.Sameness.{none_there, both_there, placed_there}
use Rattle.mp4_remux.specs.declared.layout_error.LayoutError.{LayoutError}
use Rattle.mp4_remux.proofs.Refusing.{moved_place, placed_otherwise, unplaced_after, unplaced_before}
use Rattle.mp4_remux.proofs.same.check_sample.Goals as goal

pub returns-in-None-clause-same : goal.returns-in-None-clause-same
returns-in-None-clause-same c =
    let l = c.args.layout.now in
    none_there l.source_len l.made.items l.pieces.items c.args.before.now c.args.after.now c.args.track_id
    c.requires.before c.requires.after c.args.k (rw c.in_default.is at c.in_ok-kept.ensures)
    (rw c.in-None.is at c.in_ok-place.ensures)

pub returns-in-None-clause-there : goal.returns-in-None-clause-there
returns-in-None-clause-there c =
    placed_there c.args.after.now c.requires.after c.args.track_id c.args.k
    ∙ (rw c.in-None.is at c.in_ok-place.ensures)

pub returns-clause-same : goal.returns-clause-same
returns-clause-same c =
    let l = c.args.layout.now in
    both_there l.source_len l.made.items l.pieces.items c.args.before.now c.args.after.now c.args.track_id
    c.requires.before c.requires.after c.args.k (place_of c.in-Some.kept) (place_of c.in-Some-3.moved)
    (rw c.in-Some.is at c.in_ok-kept.ensures) (rw c.in-Some-3.is at c.in_ok-moved.ensures)
    (moved_place l.source_len l.len l.made.items l.pieces.items l.follow _ _ (c.if-not-is_same.ensures.0 refl))

pub returns-clause-was : goal.returns-clause-was
returns-clause-was c = (
  place_of c.in-Some.kept,
  placed_there c.args.before.now c.requires.before c.args.track_id c.args.k
      ∙ (rw c.in-Some.is at c.in_ok-kept.ensures),
)

pub returns-clause-there : goal.returns-clause-there
returns-clause-there c =
    placed_there c.args.after.now c.requires.after c.args.track_id c.args.k
    ∙ (rw c.in-Some-3.is at c.in_ok-moved.ensures)

pub returns-in_err-kept-clause-other : goal.returns-in_err-kept-clause-other
returns-in_err-kept-clause-other c =
    let p = err_from_is_err_and c.from_residual.result c.from_residual.ensures.1 in
    rw (p.1 ∙ ap (λ (e : LayoutError). Err e) p.2)
    (unplaced_before c.args.before.now c.args.after.now c.requires.before c.requires.after c.args.track_id c.args.k
    c.in_err-kept.field-0.0 c.requires.number c.in_err-kept.ensures)

pub returns-in_err-place-clause-other : goal.returns-in_err-place-clause-other
returns-in_err-place-clause-other c =
    let p = err_from_is_err_and c.from_residual-in_err-place.result c.from_residual-in_err-place.ensures.1 in
    rw (p.1 ∙ ap (λ (e : LayoutError). Err e) p.2)
    (unplaced_after c.args.before.now c.args.after.now c.requires.before c.requires.after c.args.track_id c.args.k
    c.in_err-place.field-0.0 c.requires.number c.in_err-place.ensures)

pub returns-in_err-moved-clause-other : goal.returns-in_err-moved-clause-other
returns-in_err-moved-clause-other c =
    let p = err_from_is_err_and c.from_residual-in_err-moved.result c.from_residual-in_err-moved.ensures.1 in
    rw (p.1 ∙ ap (λ (e : LayoutError). Err e) p.2)
    (unplaced_after c.args.before.now c.args.after.now c.requires.before c.requires.after c.args.track_id c.args.k
    c.in_err-moved.field-0.0 c.requires.number c.in_err-moved.ensures)

pub returns-in-Some-2-clause-other : goal.returns-in-Some-2-clause-other
returns-in-Some-2-clause-other c =
    let l = c.args.layout.now in
    placed_otherwise c.args.before.now c.args.after.now c.requires.before c.requires.after c.args.track_id
    l.pieces.items l.source_len l.len c.args.k None (Some (place_of c.in-Some-2.field-0))
    (rw c.in_default.is at c.in_ok-kept.ensures) (rw c.in-Some-2.is at c.in_ok-place.ensures) (λ same. same)

pub returns-in_default-2-clause-other : goal.returns-in_default-2-clause-other
returns-in_default-2-clause-other c =
    let l = c.args.layout.now in
    placed_otherwise c.args.before.now c.args.after.now c.requires.before c.requires.after c.args.track_id
    l.pieces.items l.source_len l.len c.args.k (Some (place_of c.in-Some.kept)) None
    (rw c.in-Some.is at c.in_ok-kept.ensures) (rw c.in_default-2.is at c.in_ok-moved.ensures) (λ same. same)

pub returns-then-not-is_same-clause-other : goal.returns-then-not-is_same-clause-other
returns-then-not-is_same-clause-other c =
    let l = c.args.layout.now in
    placed_otherwise c.args.before.now c.args.after.now c.requires.before c.requires.after c.args.track_id
    l.pieces.items l.source_len l.len c.args.k (Some (place_of c.in-Some.kept)) (Some (place_of c.in-Some-3.moved))
    (rw c.in-Some.is at c.in_ok-kept.ensures) (rw c.in-Some-3.is at c.in_ok-moved.ensures)
    (λ same. let no = c.if-not-is_same.ensures.1 same in absurd cc)
