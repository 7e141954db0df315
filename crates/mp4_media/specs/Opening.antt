-- What a call answers that opens a file: one of bytes in memory, or one of a source.
use Rattle.std.specs.Prelude.{◌≡◌, ◌⊎◌, ℕ, Bool, List, length, Result, Ok, Err, IfOk, IfErr}
use Rattle.mp4_codec.specs.declared.error.Error.{Error}
use Rattle.mp4_codec.specs.declared.error.Error.TheVariants.{OutOfMemory}
use Rattle.mp4_codec.specs.Cause.{Cause, cause_of, Answers}
use Rattle.mp4_codec.specs.Cursor.{Cursor, here}
use Rattle.mp4_source.specs.Answers.{AnswersRead, OnMp4}
use Rattle.mp4_source.specs.declared.file_error.FileError.{FileError}
use Rattle.mp4_media.specs.declared.reader.Mp4Reader.{Mp4Reader}
use Rattle.mp4_media.specs.FileBoxes.{OpenedFile, opened_file}
use Rattle.mp4_media.specs.FileGrammar.{IsFile, IsFaultyFile}
use Rattle.mp4_media.specs.MovieTracks.{AreTracks}

-- What a call answers that opens the file of so many bytes which begins here, as `read_header` does: where these
-- bytes are a file it is what they hold, with its tracks; where they have a fault it is the first; or memory ran out.
-- The movie of what it answers is seen by `movie_in`.
pub record IsOpeningBy {X : Type 0} (movie_in : X → Mp4Reader) (size : ℕ) (start : Cursor) (result : Result X Error)
    : Type 0 where
  pub file : IfOk result (λ x. IsFile size start (opened_file (movie_in x)))
  pub opens : (opened : OpenedFile) → IsFile size start opened
      → Answers (λ x. opened_file (movie_in x)) result (Ok opened)
  pub fault : IfErr result (λ e. (e ≡ OutOfMemory) ⊎ IsFaultyFile size start (cause_of e))
  pub refused : (c : Cause) → IsFaultyFile size start c → Answers (λ x. opened_file (movie_in x)) result (Err c)
  pub bytes : IfOk result (λ x. (movie_in x).bytes.now ≡ start.bytes)
  pub tracks : IfOk result (λ x. AreTracks (movie_in x).movie.moov (movie_in x).movie.moofs
      (movie_in x).movie.moof_places (movie_in x).movie.tracks)

-- what `read_mp4` answers of these bytes
abbrev pub IsOpening : List ℕ → Result Mp4Reader Error → Type 0
IsOpening bytes result = IsOpeningBy (λ movie. movie) (length bytes) (here bytes 0) result

-- The same of a call that opens the file out of a source, which may refuse a read where it can. What was opened is seen
-- by `opened_in`.
pub record IsOpeningOf {X : Type 0} (can_refuse : Bool) (opened_in : X → OpenedFile) (size : ℕ) (start : Cursor)
    (result : Result X FileError) : Type 0 where
  pub file : IfOk result (λ x. IsFile size start (opened_in x))
  pub opens : (opened : OpenedFile) → IsFile size start opened → AnswersRead can_refuse opened_in result (Ok opened)
  pub fault : IfErr result (λ e. OnMp4 e (λ e. (e ≡ OutOfMemory) ⊎ IsFaultyFile size start (cause_of e)))
  pub refused : (c : Cause) → IsFaultyFile size start c → AnswersRead can_refuse opened_in result (Err c)
