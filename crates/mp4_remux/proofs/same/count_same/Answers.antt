use Rattle.std.proofs.Common.{◌≡◌, refl, ◌+◌, arith, Ok, Err, ap, inr, subst, sym, ◌∙◌}
use Rattle.std.proofs.lemmas.Result.{err_from_is_err_and}
use Rattle.mp4_remux.specs.declared.layout_error.LayoutError.{LayoutError}
use Rattle.mp4_remux.proofs.Counting.{past_most}
use Rattle.mp4_remux.proofs.Naming.{why_anyhow}
use Rattle.mp4_samples.specs.Places.{place_of}
use Rattle.mp4_media.specs.FileBoxes.{opened_movie}
use Rattle.mp4_remux.specs.Reads.{count_of}
use Rattle.mp4_remux.proofs.Refusing.{counted_apart, other_too, uncounted_after, uncounted_before}
use Rattle.mp4_remux.proofs.Sameness.{one_more, track_as_before, empty_track, counted_there}
use Rattle.mp4_remux.proofs.Showing.{AreShown, nothing_shown, shown_more, shown_until}
use Rattle.mp4_remux.proofs.same.count_same.Goals as goal

pub returns-in_default-clause-same : goal.returns-in_default-clause-same
returns-in_default-clause-same c =
    let l = c.args.layout.now in
    track_as_before l.source_len l.made.items l.pieces.items c.args.before.now c.args.after.now c.args.track_id
    c.requires.before c.requires.after c.loop-k.k c.in_ok-count.count c.loop-k.invariant.same
    (rw c.in_default.is at c.in_ok-sample.ensures.same) c.in_ok-count.ensures
    (rw c.if-branch-count.false at c.in_ok-sample_count.ensures)

pub returns-in_default-clause-end : goal.returns-in_default-clause-end
returns-in_default-clause-end c =
    shown_until (opened_movie c.args.after.now) c.args.track_id c.loop-k.k c.loop-k.end c.loop-k.invariant.shown
    (rw c.in_default.is at c.in_ok-sample.ensures.there)

pub loop-k-preserved : goal.loop-k-preserved
loop-k-preserved c =
    let l = c.args.layout.now in
    record {
      upto = omega arith;
      most = c.loop-k.invariant.most;
      same =
          one_more l.source_len l.made.items l.pieces.items c.args.before.now c.args.after.now c.args.track_id
          c.loop-k.k
          c.loop-k.invariant.same (rw c.in-Some.is at c.in_ok-sample.ensures.same);
      have = inr (rw c.in-Some.is at c.in_ok-sample.ensures.was);
      shown =
          subst (AreShown (opened_movie c.args.after.now) c.args.track_id (c.loop-k.k + 1)) (sym c.max-end.ensures)
          (shown_more (opened_movie c.args.after.now) c.args.track_id c.loop-k.k c.loop-k.end
          c.shown_end.result (place_of c.in-Some.sample) c.loop-k.invariant.shown c.shown_end.ensures
          (rw c.in-Some.is at c.in_ok-sample.ensures.there));
    }

pub returns-then-is_nowhere-2-clause-same : goal.returns-then-is_nowhere-2-clause-same
returns-then-is_nowhere-2-clause-same c =
    let l = c.args.layout.now in
    empty_track l.source_len l.made.items l.pieces.items c.args.before.now c.args.after.now c.args.track_id
    c.requires.before c.requires.after (c.in_ok-count.ensures ∙ ap Ok c.if-count-eq0.true)
    (c.in_ok-sample_count.ensures ∙ ap Ok (c.if-branch-count.false ∙ c.if-count-eq0.true))

pub returns-then-is_nowhere-2-clause-end : goal.returns-then-is_nowhere-2-clause-end
returns-then-is_nowhere-2-clause-end c =
    nothing_shown (opened_movie c.args.after.now) c.args.track_id (
      counted_there c.args.after.now c.requires.after c.args.track_id
          ∙ c.in_ok-sample_count.ensures ∙ ap Ok (c.if-branch-count.false ∙ c.if-count-eq0.true),
      c.if-is_nowhere-2.ensures refl,
    )

pub returns-in_err-sample-clause-why : goal.returns-in_err-sample-clause-why
returns-in_err-sample-clause-why c =
    let p = err_from_is_err_and c.from_residual-in_err-sample.result c.from_residual-in_err-sample.ensures.1 in
    rw (p.1 ∙ ap (λ (e : LayoutError). Err e) p.2) (why_anyhow _ _ _ _ c.in_err-sample.ensures.why)

pub returns-clause-why : goal.returns-clause-why
returns-clause-why c =
    past_most (opened_movie c.args.before.now) c.args.track_id c.loop-k.k c.args.most c.loop-k.invariant.have
    (omega (arith, c.loop-k-test.false))

pub returns-in_err-count-clause-other : goal.returns-in_err-count-clause-other
returns-in_err-count-clause-other c =
    let p = err_from_is_err_and c.from_residual.result c.from_residual.ensures.1 in
    rw (p.1 ∙ ap (λ (e : LayoutError). Err e) p.2)
    (uncounted_before c.args.before.now c.args.after.now c.requires.before c.requires.after c.args.track_id
    c.in_err-count.field-0.0 c.in_err-count.ensures)

pub returns-in_err-sample_count-clause-other : goal.returns-in_err-sample_count-clause-other
returns-in_err-sample_count-clause-other c =
    let p = err_from_is_err_and c.from_residual-in_err-sample_count.result
    c.from_residual-in_err-sample_count.ensures.1 in
    rw (p.1 ∙ ap (λ (e : LayoutError). Err e) p.2)
    (uncounted_after c.args.before.now c.args.after.now c.requires.before c.requires.after c.args.track_id
    c.in_err-sample_count.field-0.0 c.in_err-sample_count.ensures)

pub returns-then-branch-count-clause-other : goal.returns-then-branch-count-clause-other
returns-then-branch-count-clause-other c =
    counted_apart c.args.before.now c.args.after.now c.requires.before c.requires.after c.args.track_id
    c.in_ok-count.count _ c.in_ok-count.ensures c.in_ok-sample_count.ensures c.if-branch-count.true

pub returns-in_err-sample-clause-other : goal.returns-in_err-sample-clause-other
returns-in_err-sample-clause-other c =
    let p = err_from_is_err_and c.from_residual-in_err-sample.result c.from_residual-in_err-sample.ensures.1 in
    let l = c.args.layout.now in
    let before = opened_movie c.args.before.now in
    let after = opened_movie c.args.after.now in
    rw (p.1 ∙ ap (λ (e : LayoutError). Err e) p.2)
    (other_too c.args.track_id l.pieces.items l.source_len l.len before after ⊥
    (count_of after c.args.track_id ≡ count_of before c.args.track_id → ⊥) (λ no. absurd no) _
    c.in_err-sample.ensures.other)
