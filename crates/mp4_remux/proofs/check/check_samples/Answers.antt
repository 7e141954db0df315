use Rattle.std.proofs.Common.{arith, ◌+◌, ◌∙◌, Err, IfSome, ap, sym, length}
use Rattle.std.specs.Prelude.{slice_index_or}
use Rattle.mp4_media.specs.declared.movie.Movie.{Movie}
use Rattle.mp4_media.specs.FileBoxes.{opened_movie}
use Rattle.mp4_remux.specs.Remuxed.{IsSameTrack}
use Rattle.mp4_remux.proofs.Sameness.{got_within}
use Rattle.mp4_remux.proofs.Counting.{more_samples}
use Rattle.mp4_remux.proofs.Naming.{many_known}
use Rattle.mp4_remux.proofs.Checking.{checked, id_more, more_or_fewer, no_file_after, no_file_before, other_is_named}
use Rattle.mp4_remux.proofs.Checking.{track_is_other}
use Rattle.mp4_remux.proofs.Numbered.{at_index}
use Rattle.std.proofs.lemmas.Result.{err_from_is_err_and}
use Rattle.mp4_remux.specs.declared.error.RemuxError.{RemuxError}
use Rattle.mp4_remux.proofs.Faults.{no_fault, passed_on}
use Rattle.mp4_remux.proofs.check.check_samples.Goals as goal

pub loop-i-preserved : goal.loop-i-preserved
loop-i-preserved g c =
    let inv = c.loop-i.invariant in
    let track = c.in_ok-left.ensures in
    let before = c.in_ok-before.before in
    let after = c.in_ok-after.after in
    record {
      upto = omega (arith, c.loop-i-test.true);
      few = omega (arith, inv.few);
      ids = inv.ids;
      have = (
        inv.have.0 + c.in_ok-left.field-0,
        (
          more_samples (opened_movie before.movie) c.args.ids.now c.loop-i.i inv.have.0 c.in_ok-left.field-0
              (slice_index_or c.args.ids.now c.loop-i.i 0) inv.have.1.0
              (at_index c.args.ids.now c.loop-i.i 0 (omega (arith, c.loop-i-test.true)))
              (rw inv.movie at track.counted),
          omega (arith, inv.have.1.1, track.few),
        ),
      );
      movie = track.movie ∙ inv.movie;
      movie_after = track.movie_after ∙ inv.movie_after;
      contents = track.contents ∙ inv.contents;
      contents_after = track.contents_after ∙ inv.contents_after;
      can_refuse = track.can_refuse ∙ inv.can_refuse;
      can_refuse_after = track.can_refuse_after ∙ inv.can_refuse_after;
      same =
          id_more c.args.ids.now (λ id. IfSome (g.S.ByteSource.contents before.source) (λ xs.
          IfSome (g.T.ByteSource.contents after.source) (λ ys.
          IsSameTrack xs ys (opened_movie before.movie) (opened_movie after.movie) id))) c.loop-i.i inv.same
          (rw (inv.movie, inv.movie_after, inv.contents, inv.contents_after) at track.same);
    }

pub returns-clause-same : goal.returns-clause-same
returns-clause-same g c =
    let inv = c.loop-i.invariant in
    let before = c.in_ok-before in
    let after = c.in_ok-after in
    checked before.before.movie after.after.movie (g.S.ByteSource.contents c.args.before)
    (g.T.ByteSource.contents c.args.after) c.args.ids.now before.ensures.file after.ensures.file
    (ap (λ (m : Movie). length m.moov.traks) (sym c.deref.ensures) ∙ sym c.len.ensures.value ∙ c.if-len-ids.false)
    (λ id i there. rw (before.ensures.contents, after.ensures.contents)
    at (inv.same id i (omega (arith, got_within c.args.ids.now i id there, c.loop-i-test.false)) there))

pub returns-in_err-before-clause-fault : goal.returns-in_err-before-clause-fault
returns-in_err-before-clause-fault g c =
    let p = err_from_is_err_and c.from_residual.result c.from_residual.ensures.1 in
    passed_on (g.S.ByteSource.contents c.args.before) (g.S.ByteSource.can_refuse c.args.before)
    c.in_err-before.field-0.0 c.from_residual.result (p.1 ∙ ap (λ (e : RemuxError). Err e) p.2)
    c.in_err-before.ensures.fault

pub returns-in_err-after-clause-fault : goal.returns-in_err-after-clause-fault
returns-in_err-after-clause-fault g c =
    no_fault (g.S.ByteSource.contents c.args.before) (g.S.ByteSource.can_refuse c.args.before)
    c.from_residual-in_err-after.result c.in_ok-before.ensures.fault

pub returns-in_err-left-clause-fault : goal.returns-in_err-left-clause-fault
returns-in_err-left-clause-fault g c =
    no_fault (g.S.ByteSource.contents c.args.before) (g.S.ByteSource.can_refuse c.args.before)
    c.from_residual-in_err-left.result c.in_ok-before.ensures.fault

pub returns-in_err-before-clause-other : goal.returns-in_err-before-clause-other
returns-in_err-before-clause-other g c =
    let p = err_from_is_err_and c.from_residual.result c.from_residual.ensures.1 in
    rw (p.1 ∙ ap (λ (e : RemuxError). Err e) p.2)
    (λ other. no_file_before (g.S.ByteSource.contents c.args.before) (g.T.ByteSource.contents c.args.after)
    c.args.ids.now (c.in_err-before.ensures.opens (other_is_named _ other)))

pub returns-in_err-after-clause-other : goal.returns-in_err-after-clause-other
returns-in_err-after-clause-other g c =
    let p = err_from_is_err_and c.from_residual-in_err-after.result c.from_residual-in_err-after.ensures.1 in
    rw (p.1 ∙ ap (λ (e : RemuxError). Err e) p.2)
    (λ other. no_file_after (g.S.ByteSource.contents c.args.before) (g.T.ByteSource.contents c.args.after)
    c.args.ids.now (c.in_err-after.ensures.opens other))

pub returns-in_err-left-clause-other : goal.returns-in_err-left-clause-other
returns-in_err-left-clause-other g c =
    let p = err_from_is_err_and c.from_residual-in_err-left.result c.from_residual-in_err-left.ensures.1 in
    let inv = c.loop-i.invariant in
    let before = c.in_ok-before in
    let after = c.in_ok-after in
    rw (p.1 ∙ ap (λ (e : RemuxError). Err e) p.2)
    (λ other. track_is_other before.before.movie after.after.movie (g.S.ByteSource.contents c.args.before)
    (g.T.ByteSource.contents c.args.after) c.args.ids.now (slice_index_or c.args.ids.now c.loop-i.i 0) c.loop-i.i
    before.ensures.only after.ensures.only (at_index c.args.ids.now c.loop-i.i 0 (omega (arith, c.loop-i-test.true)))
    (rw (
      inv.movie,
      inv.movie_after,
      inv.contents,
      inv.contents_after,
      before.ensures.contents,
      after.ensures.contents,
    ) at (c.in_err-left.ensures.other other)))

pub returns-then-len-ids-clause-other : goal.returns-then-len-ids-clause-other
returns-then-len-ids-clause-other g c =
    let after = c.in_ok-after in
    λ _. more_or_fewer after.after.movie (g.S.ByteSource.contents c.args.before)
    (g.T.ByteSource.contents c.args.after) c.args.ids.now after.ensures.only
    (λ is. c.if-len-ids.true (c.len.ensures.value ∙ ap (λ (m : Movie). length m.moov.traks) c.deref.ensures ∙ is))

pub returns-in_err-left-clause-many : goal.returns-in_err-left-clause-many
returns-in_err-left-clause-many g c =
    let p = err_from_is_err_and c.from_residual-in_err-left.result c.from_residual-in_err-left.ensures.1 in
    let inv = c.loop-i.invariant in
    let before = c.in_ok-before in
    rw (p.1 ∙ ap (λ (e : RemuxError). Err e) p.2)
    (many_known (g.S.ByteSource.contents c.args.before) before.before.len (opened_movie before.before.movie)
    c.args.ids.now (slice_index_or c.args.ids.now c.loop-i.i 0) c.loop-i.left c.loop-i.i inv.have.0
    (rw (before.ensures.contents, c.source_len.ensures.len) at c.source_len.ensures.value) before.ensures.file
    (at_index c.args.ids.now c.loop-i.i 0 (omega (arith, c.loop-i-test.true))) inv.have.1.0 inv.have.1.1 _
    (rw inv.movie at c.in_err-left.ensures.many))
