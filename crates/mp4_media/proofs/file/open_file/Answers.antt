use Rattle.std.proofs.Common.{inr}
use Rattle.std.proofs.lemmas.Result.{err_from_is_err_and}
use Rattle.mp4_codec.specs.Cause.{cause_of}
use Rattle.mp4_codec.specs.Cursor.{here}
use Rattle.mp4_media.proofs.FoundBoxes.{all_known, of_known, refused_by_source}
use Rattle.mp4_media.proofs.Grammar.{faulty-refused}
use Rattle.mp4_media.proofs.TakingMemory.{not_empty}
use Rattle.mp4_media.proofs.file.open_file.Goals as goal

pub returns-in_err-check_first_box-clause-answer : goal.returns-in_err-check_first_box-clause-answer
returns-in_err-check_first_box-clause-answer g c =
    let p = err_from_is_err_and c.from_residual.result c.from_residual.ensures.1 in
    let error = c.in_err-check_first_box.field-0.0 in
    all_known (g.S.ByteSource.contents c.args.source) _ (λ bytes. rw (p.1, p.2) (inr (
    faulty-refused c.args.size (here bytes c.args.start) (cause_of error)
    (c.in_err-check_first_box.ensures.fault bytes))))

pub returns-in_err-reader-clause-answer : goal.returns-in_err-reader-clause-answer
returns-in_err-reader-clause-answer g c =
    let p = err_from_is_err_and c.from_residual-in_err-reader.result c.from_residual-in_err-reader.ensures.1 in
    let can_refuse = rw c.in_ok-window.ensures.can_refuse at c.in_err-reader.ensures.refused in
    all_known (g.S.ByteSource.contents c.args.source) _
    (λ bytes. rw (p.1, p.2) (refused_by_source _ c.in_err-reader.field-0.0 _ c.in_err-reader.ensures.io can_refuse))

pub returns-in_err-movie-clause-memory : goal.returns-in_err-movie-clause-memory
returns-in_err-movie-clause-memory g c =
    let p = err_from_is_err_and c.from_residual-in_err-movie.result c.from_residual-in_err-movie.ensures.1 in
    rw (p.1, p.2) (λ memory. (
      of_known (g.S.ByteSource.contents c.args.source) _ _
          (rw (c.in_ok-reader.ensures.contents, c.in_ok-window.ensures.contents)
          at (c.in_err-movie.ensures.memory memory))
          (λ bytes m. not_empty c.args.size (here bytes c.in_ok-reader.reader.position) m),
      c.in_ok-check_first_box.ensures.room,
    ))
