use Rattle.std.proofs.Common.{arith, Ok, Err, ap, inr, refl, ◌∙◌}
use Rattle.mp4_media.specs.FileBoxes.{opened_movie}
use Rattle.mp4_remux.proofs.Counting.{past_most}
use Rattle.mp4_remux.proofs.Naming.{many_anyhow}
use Rattle.std.proofs.lemmas.Result.{err_from_is_err_and}
use Rattle.mp4_remux.specs.declared.error.RemuxError.{RemuxError}
use Rattle.mp4_remux.proofs.Checking.{counted_otherwise, empty_is_read, got_ok, next_is_other, one_more}
use Rattle.mp4_remux.proofs.Checking.{track_is_read}
use Rattle.mp4_remux.proofs.check.count_checked.Goals as goal

pub returns-then-count-eq0-clause-same : goal.returns-then-count-eq0-clause-same
returns-then-count-eq0-clause-same g c =
    let was = rw c.deref.ensures at c.in_ok-count.ensures in
    let is = rw c.deref-2.ensures at c.in-Ok.ensures in
    empty_is_read c.args.before.now.movie c.args.after.now.movie c.args.track_id
    (g.S.ByteSource.contents c.args.before.now.source) (g.T.ByteSource.contents c.args.after.now.source)
    c.requires.before c.requires.after (was ∙ ap Ok c.if-count-eq0.true)
    (is ∙ ap Ok (c.if-written_count-count.false ∙ c.if-count-eq0.true))

pub returns-then-not-branch-clause-same : goal.returns-then-not-branch-clause-same
returns-then-not-branch-clause-same g c =
    let inv = c.loop-k.invariant in
    let was = rw c.deref.ensures at c.in_ok-count.ensures in
    let is = rw c.deref-2.ensures at c.in-Ok.ensures in
    track_is_read c.args.before.now.movie c.args.after.now.movie c.args.track_id
    (g.S.ByteSource.contents c.args.before.now.source) (g.T.ByteSource.contents c.args.after.now.source)
    c.requires.before c.requires.after c.loop-k.k c.in_ok-count.count inv.same
    (rw (inv.movie, inv.movie_after, inv.contents, inv.contents_after, c.if-not-branch.true)
    at c.in_ok-check_sample.ensures.same)
    was (is ∙ ap Ok c.if-written_count-count.false)

pub loop-k-preserved : goal.loop-k-preserved
loop-k-preserved g c =
    let inv = c.loop-k.invariant in
    let sample = c.in_ok-check_sample.ensures in
    record {
      upto = omega arith;
      most = inv.most;
      same =
          one_more c.args.before.now.movie c.args.after.now.movie c.args.track_id
          (g.S.ByteSource.contents c.args.before.now.source) (g.T.ByteSource.contents c.args.after.now.source)
          c.loop-k.k inv.same
          (rw (inv.movie, inv.movie_after, inv.contents, inv.contents_after, c.if-not-branch.false) at sample.same);
      have = inr (rw inv.movie at (sample.was c.if-not-branch.false));
      id = inv.id;
      movie = sample.movie ∙ inv.movie;
      movie_after = sample.movie_after ∙ inv.movie_after;
      contents = sample.contents ∙ inv.contents;
      contents_after = sample.contents_after ∙ inv.contents_after;
      can_refuse = sample.can_refuse ∙ inv.can_refuse;
      can_refuse_after = sample.can_refuse_after ∙ inv.can_refuse_after;
    }

pub returns-in_default-clause-other : goal.returns-in_default-clause-other
returns-in_default-clause-other g c =
    let was = rw c.deref.ensures at c.in_ok-count.ensures in
    let is = rw c.deref-2.ensures at c.in_default.ensures in
    λ _. counted_otherwise c.args.before.now.movie c.args.after.now.movie c.args.track_id
    (g.S.ByteSource.contents c.args.before.now.source) (g.T.ByteSource.contents c.args.after.now.source)
    c.requires.before c.requires.after _ (λ e. let same = e ∙ was in absurd cc) is

pub returns-then-written_count-count-clause-other : goal.returns-then-written_count-count-clause-other
returns-then-written_count-count-clause-other g c =
    let was = rw c.deref.ensures at c.in_ok-count.ensures in
    let is = rw c.deref-2.ensures at c.in-Ok.ensures in
    λ _. counted_otherwise c.args.before.now.movie c.args.after.now.movie c.args.track_id
    (g.S.ByteSource.contents c.args.before.now.source) (g.T.ByteSource.contents c.args.after.now.source)
    c.requires.before c.requires.after _
    (λ e. c.if-written_count-count.true (got_ok _ c.in-Ok.written_count c.in_ok-count.count refl (e ∙ was))) is

pub returns-in_err-check_sample-clause-other : goal.returns-in_err-check_sample-clause-other
returns-in_err-check_sample-clause-other g c =
    let p = err_from_is_err_and c.from_residual-in_err-check_sample.result
    c.from_residual-in_err-check_sample.ensures.1 in
    let inv = c.loop-k.invariant in
    let was = rw c.deref.ensures at c.in_ok-count.ensures in
    rw (p.1 ∙ ap (λ (e : RemuxError). Err e) p.2)
    (λ other. next_is_other c.args.before.now.movie c.args.after.now.movie c.args.track_id
    (g.S.ByteSource.contents c.args.before.now.source) (g.T.ByteSource.contents c.args.after.now.source)
    c.requires.before c.requires.after c.loop-k.k c.in_ok-count.count inv.same was c.if-count-eq0.false
    (rw (inv.movie, inv.movie_after, inv.contents, inv.contents_after)
    at (c.in_err-check_sample.ensures.other other)))

pub returns-in_err-check_sample-clause-many : goal.returns-in_err-check_sample-clause-many
returns-in_err-check_sample-clause-many g c =
    let p = err_from_is_err_and c.from_residual-in_err-check_sample.result
    c.from_residual-in_err-check_sample.ensures.1 in
    rw (p.1 ∙ ap (λ (e : RemuxError). Err e) p.2) (many_anyhow _ _ c.in_err-check_sample.ensures.many)

pub returns-clause-many : goal.returns-clause-many
returns-clause-many g c =
    past_most (opened_movie c.args.before.now.movie) c.args.track_id c.loop-k.k c.args.most c.loop-k.invariant.have
    (omega (arith, c.loop-k-test.false))
