-- What is found among the rows of samples. A row's number counts from 1, so it is how many rows there are up to it.
use Rattle.std.specs.Prelude.{◌≡◌, ℕ, ◌-◌, ◌<◌, ◌≤◌, List, length, min, leb, true, false, ◌==◌, if◌then◌else◌}
use Rattle.std.specs.List.{AllWithin}
use Rattle.std.specs.List.Sorted.{IsNonDecreasingBy, IsPartitionPoint}
use Rattle.mp4_c.specs.declared.answer.Answer.{Answer}
use Rattle.mp4_c.specs.declared.samples.SampleRow.{SampleRow}
use Rattle.mp4_c.specs.Answers.{done}
use Rattle.mp4_c.specs.Replies.{Gave, Reply}

-- what is replied of a row that was found; 0 says that none was
abbrev pub row_reply : ℕ → Reply ℕ
row_reply c = let answers = if c == 0 then 0 else 1 in record { answer = done answers answers; room = c }

-- Of rows whose start times rise, so many begin at or before a time: they are the first. Of others it is no more than
-- there are.
pub record IsCountBy (rows : List SampleRow) (time c : ℕ) : Type 0 where
  pub within : c ≤ length rows
  pub first : IsNonDecreasingBy (λ (row : SampleRow). row.start_time) rows
      → IsPartitionPoint (λ (row : SampleRow). leb row.start_time time ≡ true)
      (λ (row : SampleRow). leb row.start_time time ≡ false) rows c

-- a call has given the number of the last row that begins at or before a time
abbrev pub GaveRowAt : ℕ → List SampleRow → ℕ → Answer → Type 0
GaveRowAt time rows new answer = (c : ℕ) × (IsCountBy rows time c) × (Gave (row_reply c) new answer)

-- of the first n rows, number c is the last from which decoding can begin; 0 where none is one
pub record IsLastSync (rows : List SampleRow) (n c : ℕ) : Type 0 where
  pub within : c ≤ n
  pub own : 0 < c → AllWithin (λ (row : SampleRow). (row.is_sync == 0) ≡ false) rows (c - 1) c
  pub later : AllWithin (λ (row : SampleRow). (row.is_sync == 0) ≡ true) rows c n

-- a call has given the number of the last row up to number k from which decoding can begin
abbrev pub GaveSyncRow : ℕ → List SampleRow → ℕ → Answer → Type 0
GaveSyncRow k rows new answer = (c : ℕ) × (IsLastSync rows (min k (length rows)) c) × (Gave (row_reply c) new answer)
