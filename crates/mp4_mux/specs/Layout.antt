-- Chunks that are no longer than they have to be.
use Rattle.std.specs.Prelude.{◌≡◌, ℕ, ◌<◌, List, length, take, true, false, ◌==◌}
use Rattle.std.specs.List.{AllByRecursion, filter}
use Rattle.mp4_samples.specs.Samples.{Sample}
use Rattle.mp4_mux.specs.Chunks.{TrackState, Chunk, is_full}
use Rattle.mp4_mux.specs.Writing.{WriterState, track_at, with_end}
use Rattle.mp4_mux.specs.Sound.{IsIdOf}

-- samples are full, and no proper beginning of them is
pub record IsJustFull (timescale : ℕ) (ss : List Sample) : Type 0 where
  pub whole : is_full timescale ss ≡ true
  pub least : (n : ℕ) → n < length ss → is_full timescale (take n ss) ≡ false

-- a chunk is just full at the timescale of its track
abbrev pub IsJustFullChunk : WriterState → Chunk → Type 0
IsJustFullChunk st c = IsJustFull (track_at st c.track_id).config.timescale c.samples

-- what is pending of a track is not full
abbrev pub IsWaiting : TrackState → Type 0
IsWaiting t = is_full t.config.timescale t.pending ≡ false

-- Before the end each chunk is just full, and what is pending of a track is not full.
pub record IsLaidOut (st : WriterState) : Type 0 where
  pub full : AllByRecursion (IsJustFullChunk st) st.chunks
  pub waiting : (id : ℕ) → IsIdOf st id → IsWaiting (track_at st id)

-- At the end that held until then, and what was pending is in chunks after the others.
pub record IsLaidOutAtEnd (st : WriterState) : Type 0 where
  pub before : WriterState
  pub goes_on : before.ended ≡ false
  pub laid_out : IsLaidOut before
  pub is : st ≡ with_end before

-- how the chunks of a writer are laid out, whether or not it has ended
pub record HasLayout (st : WriterState) : Type 0 where
  pub before_end : st.ended ≡ false → IsLaidOut st
  pub at_end : st.ended ≡ true → IsLaidOutAtEnd st

-- the chunks of a track
unfoldable pub chunks_of : ℕ → List Chunk → List Chunk
chunks_of id cs = filter (λ (c : Chunk). c.track_id == id) cs
