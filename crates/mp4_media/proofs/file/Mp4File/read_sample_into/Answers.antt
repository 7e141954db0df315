use Rattle.std.proofs.Common.{refl, ap, inr, arith}
use Rattle.std.proofs.lemmas.Result.{err_from_is_err_and}
use Rattle.mp4_codec.specs.Cause.{cause_of}
use Rattle.mp4_codec.specs.declared.error.Error.TheVariants.{OutOfMemory}
use Rattle.mp4_samples.specs.Places.{place_of}
use Rattle.mp4_media.proofs.FoundBoxes.{memory_is_out, of_known, of_known_by, same_mp4}
use Rattle.mp4_media.proofs.Placed.{sample_in-located}
use Rattle.mp4_media.proofs.Reading.{place_wants_none, sample_in-plain}
use Rattle.mp4_media.proofs.file.Mp4File.read_sample_into.Goals as goal

pub returns-in_err-place-clause-answer : goal.returns-in_err-place-clause-answer
returns-in_err-place-clause-answer g c =
    let file = c.args.self.now in
    let p = err_from_is_err_and c.from_residual.result c.from_residual.ensures.1 in
    of_known (g.S.ByteSource.contents file.source) _ _ file.measured
    (λ bytes len_is. rw (p.1, p.2) (inr (rw (
      sample_in-located bytes file.movie.tracks c.args.track_id c.args.k,
      ← len_is,
      c.in_err-place.ensures,
    ) refl)))

pub returns-in_default-clause-answer : goal.returns-in_default-clause-answer
returns-in_default-clause-answer g c =
    let file = c.args.self.now in
    let none = rw c.in_default.is at c.in_ok-place.ensures in
    of_known (g.S.ByteSource.contents file.source) _ _ file.measured
    (λ bytes len_is. rw (sample_in-located bytes file.movie.tracks c.args.track_id c.args.k, ← len_is, none) refl)

pub returns-clause-answer : goal.returns-clause-answer
returns-clause-answer g c =
    let file = c.args.self.now in
    let placed = rw c.in-Some.is at c.in_ok-place.ensures in
    of_known_by (g.S.ByteSource.contents file.source) _ _ _ file.measured c.in_ok-read_into.ensures.value
    (λ bytes len_is read. rw (
      sample_in-located bytes file.movie.tracks c.args.track_id c.args.k,
      ← len_is,
      placed,
      read.1,
    ) refl)

pub returns-in_err-place-clause-plain : goal.returns-in_err-place-clause-plain
returns-in_err-place-clause-plain g c =
    let file = c.args.self.now in
    λ t is whole fits. of_known (g.S.ByteSource.contents file.source) _ _ (returns-in_err-place-clause-answer g c)
    (λ bytes a. rw (← sample_in-plain bytes file.movie.tracks c.args.track_id c.args.k t is whole fits (omega arith)) a)

pub returns-in_default-clause-plain : goal.returns-in_default-clause-plain
returns-in_default-clause-plain g c =
    let file = c.args.self.now in
    λ t is whole fits. of_known (g.S.ByteSource.contents file.source) _ _ (returns-in_default-clause-answer g c)
    (λ bytes a. rw (← sample_in-plain bytes file.movie.tracks c.args.track_id c.args.k t is whole fits (omega arith)) a)

pub returns-clause-plain : goal.returns-clause-plain
returns-clause-plain g c =
    let file = c.args.self.now in
    λ t is whole fits. of_known (g.S.ByteSource.contents file.source) _ _ (returns-clause-answer g c)
    (λ bytes a. rw (← sample_in-plain bytes file.movie.tracks c.args.track_id c.args.k t is whole fits (omega arith)) a)

pub returns-in_err-place-clause-memory : goal.returns-in_err-place-clause-memory
returns-in_err-place-clause-memory g c =
    let file = c.args.self.now in
    let error = c.in_err-place.field-0.0 in
    let p = err_from_is_err_and c.from_residual.result c.from_residual.ensures.1 in
    rw (p.1, p.2) (λ memory. absurd (place_wants_none file.movie.tracks c.args.track_id c.args.k file.len
    (cause_of error) c.in_err-place.ensures (ap cause_of (same_mp4 error OutOfMemory memory))))

pub returns-in_err-read_into-clause-memory : goal.returns-in_err-read_into-clause-memory
returns-in_err-read_into-clause-memory g c =
    let p = err_from_is_err_and c.from_residual-in_err-read_into.result c.from_residual-in_err-read_into.ensures.1 in
    let placed = rw c.in-Some.is at c.in_ok-place.ensures in
    rw (p.1, p.2) (λ memory. (
      place_of c.in-Some.place,
      placed,
      memory_is_out c.in_err-read_into.field-0.0 _ c.in_err-read_into.ensures.memory memory,
    ))
