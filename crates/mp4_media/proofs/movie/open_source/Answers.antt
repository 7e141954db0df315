use Rattle.std.proofs.Common.{◌∙◌, inl, inr}
use Rattle.std.proofs.lemmas.Result.{err_from_is_err_and}
use Rattle.mp4_codec.specs.Cursor.{here}
use Rattle.mp4_codec.specs.declared.error.Error.TheVariants.{OutOfMemory}
use Rattle.mp4_media.proofs.TakingMemory.{moov_was_read}
use Rattle.mp4_media.proofs.FoundBoxes.{of_known, refused_too, opened_by, none_found, same_mp4}
use Rattle.mp4_media.proofs.movie.open_source.Goals as goal

pub returns-in_err-found-clause-answer : goal.returns-in_err-found-clause-answer
returns-in_err-found-clause-answer g c =
    let reader = c.args.reader in
    let p = err_from_is_err_and c.from_residual.result c.from_residual.ensures.1 in
    of_known (g.S.ByteSource.contents reader.source) _ _ c.in_err-found.ensures.answer
    (λ bytes a. rw (p.1, p.2) (refused_too (g.S.ByteSource.can_refuse reader.source) c.in_err-found.field-0.0 _ _
    (none_found c.args.size (here bytes reader.position)) a))

pub returns-in_err-movie-clause-answer : goal.returns-in_err-movie-clause-answer
returns-in_err-movie-clause-answer g c =
    let reader = c.args.reader in
    let p = err_from_is_err_and c.from_residual-in_err-movie.result c.from_residual-in_err-movie.ensures.1 in
    let opened = rw (c.position.ensures, c.position-start.ensures) at c.in_err-movie.ensures.answer in
    of_known (g.S.ByteSource.contents reader.source) _ _ c.in_ok-found.ensures.answer
    (λ bytes e. rw (p.1, p.2) (elim opened [
      | inl memory ↦ inl memory
      | inr fault ↦ inr (opened_by c.args.size (here bytes reader.position) c.in_ok-found.found
          c.find_boxes.new.reader.position e ∙ fault)
    ]))

pub returns-clause-answer : goal.returns-clause-answer
returns-clause-answer g c =
    let reader = c.args.reader in
    let opened = rw (c.position.ensures, c.position-start.ensures) at c.in_ok-movie.ensures.answer in
    of_known (g.S.ByteSource.contents reader.source) _ _ c.in_ok-found.ensures.answer
    (λ bytes e. opened_by c.args.size (here bytes reader.position) c.in_ok-found.found
    c.find_boxes.new.reader.position e ∙ opened)

pub returns-in_err-movie-clause-memory : goal.returns-in_err-movie-clause-memory
returns-in_err-movie-clause-memory g c =
    let reader = c.args.reader in
    let p = err_from_is_err_and c.from_residual-in_err-movie.result c.from_residual-in_err-movie.ensures.1 in
    rw (p.1, p.2) (λ memory.
    let same = same_mp4 c.in_err-movie.field-0.0 OutOfMemory memory in
    of_known (g.S.ByteSource.contents reader.source) _ _ c.in_ok-found.ensures.answer
    (λ bytes e. moov_was_read c.args.size bytes reader.position c.in_ok-found.found
    c.find_boxes.new.reader.position e (c.in_err-movie.ensures.memory same)))
