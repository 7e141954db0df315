use Rattle.std.proofs.Common.{◌∙◌, Err, ap}
use Rattle.std.proofs.lemmas.Result.{err_from_is_err_and}
use Rattle.mp4_remux.specs.declared.error.RemuxError.{RemuxError}
use Rattle.mp4_remux.proofs.Checking.{answered_otherwise, both_read, none_read, refused_after, same_there}
use Rattle.mp4_remux.proofs.Counting.{read_has_sample}
use Rattle.mp4_remux.proofs.check.check_sample.Goals as goal

pub returns-in-None-clause-same : goal.returns-in-None-clause-same
returns-in-None-clause-same g c =
    none_read c.args.before.now.movie c.args.after.now.movie c.args.track_id
    (g.S.ByteSource.contents c.args.before.now.source) (g.T.ByteSource.contents c.args.after.now.source)
    c.requires.before c.requires.after c.args.k (rw c.in_default.is at c.in_ok-kept.ensures.answer)
    (rw c.in-None.is at c.in_ok-moved.ensures.answer)

pub returns-clause-same : goal.returns-clause-same
returns-clause-same g c =
    both_read c.args.before.now.movie c.args.after.now.movie c.args.track_id
    (g.S.ByteSource.contents c.args.before.now.source) (g.T.ByteSource.contents c.args.after.now.source)
    c.requires.before c.requires.after c.args.k c.in-Some.kept c.in-Some-moved-2.moved _ _
    (rw c.in-Some.is at c.in_ok-kept.ensures.answer) (rw c.in-Some-moved-2.is at c.in_ok-moved.ensures.answer)
    (rw (c.as_slice.ensures.value, c.as_slice-2.ensures.value) at (c.is_same_sample.ensures.0 cc))

pub returns-clause-was : goal.returns-clause-was
returns-clause-was g c = λ _.
    read_has_sample c.args.before.now.movie c.requires.before c.args.before.now.len c.args.track_id c.args.k
    c.in-Some.kept (rw c.in-Some.is at c.in_ok-kept.ensures.place)

pub returns-in_err-moved-clause-other : goal.returns-in_err-moved-clause-other
returns-in_err-moved-clause-other g c =
    let p = err_from_is_err_and c.from_residual-in_err-moved.result c.from_residual-in_err-moved.ensures.1 in
    rw (p.1 ∙ ap (λ (e : RemuxError). Err e) p.2)
    (λ other. refused_after c.args.before.now.movie c.args.after.now.movie c.args.track_id
    (g.S.ByteSource.contents c.args.before.now.source) (g.T.ByteSource.contents c.args.after.now.source)
    c.requires.before c.requires.after c.args.k (c.in_err-moved.ensures.other other))

pub returns-in-Some-moved-clause-other : goal.returns-in-Some-moved-clause-other
returns-in-Some-moved-clause-other g c = λ _.
    answered_otherwise c.args.before.now.movie c.args.after.now.movie c.args.track_id
    (g.S.ByteSource.contents c.args.before.now.source) (g.T.ByteSource.contents c.args.after.now.source)
    c.requires.before c.requires.after c.args.k _ _ (λ is. absurd cc)
    (rw c.in_default.is at c.in_ok-kept.ensures.answer) (rw c.in-Some-moved.is at c.in_ok-moved.ensures.answer)

pub returns-in_default-moved-clause-other : goal.returns-in_default-moved-clause-other
returns-in_default-moved-clause-other g c = λ _.
    answered_otherwise c.args.before.now.movie c.args.after.now.movie c.args.track_id
    (g.S.ByteSource.contents c.args.before.now.source) (g.T.ByteSource.contents c.args.after.now.source)
    c.requires.before c.requires.after c.args.k _ _ (λ is. absurd cc)
    (rw c.in-Some.is at c.in_ok-kept.ensures.answer) (rw c.in_default-moved.is at c.in_ok-moved.ensures.answer)

pub returns-then-not-is_same_sample-clause-other : goal.returns-then-not-is_same_sample-clause-other
returns-then-not-is_same_sample-clause-other g c = λ _.
    answered_otherwise c.args.before.now.movie c.args.after.now.movie c.args.track_id
    (g.S.ByteSource.contents c.args.before.now.source) (g.T.ByteSource.contents c.args.after.now.source)
    c.requires.before c.requires.after c.args.k _ _
    (λ is. let same = (rw (c.as_slice.ensures.value, c.as_slice-2.ensures.value) at c.is_same_sample.ensures.1)
    (same_there _ _ is) in absurd cc)
    (rw c.in-Some.is at c.in_ok-kept.ensures.answer) (rw c.in-Some-moved-2.is at c.in_ok-moved.ensures.answer)
