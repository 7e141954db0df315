-- Subtitles that are read one after the other.
use Rattle.std.proofs.Common.{◌≡◌, ◌⊎◌, inl, inr, ℕ, ◌+◌, List, Option, Some, Ok, refl, sym, add-one}
use Rattle.mp4_codec.specs.declared.error.Error.{Error}
use Rattle.mp4_codec.specs.declared.error.Error.TheVariants.{OutOfMemory as no_memory}
use Rattle.mp4_samples.specs.Samples.{TimedSample}
use Rattle.mp4_extract.specs.declared.text_track.Subtitle.{Subtitle}
use Rattle.mp4_extract.specs.declared.edits.TextShift.{TextShift}
use Rattle.mp4_extract.specs.declared.error.ExtractError.TheVariants.{OutOfMemory}
use Rattle.mp4_extract.specs.Errors.{of_sample}
use Rattle.mp4_extract.specs.Extracting.{Reading}
use Rattle.mp4_extract.specs.Subtitles.{AreSubtitles, IsSubtitleAt, RefusesSubtitle, RefusesTimed, TextReading}
use Rattle.mp4_extract.specs.Subtitles.{WantsSubtitle, WantsTextRoom, and_shown}

module _ (shift : TextShift) (timescale k : ℕ) (reading : Reading) (s : TimedSample)
    (there : reading (Ok (Some s))) where
  -- a sample of text that was read is refused
  pub text_refused : (offset : Option ℕ) (place : ℕ) (may_refuse : Type 0) (e : Error) → offset ≡ Some place
      → (e ≡ no_memory) ⊎ (RefusesTimed shift timescale s e)
      → RefusesSubtitle shift timescale k reading offset may_refuse (of_sample k (Some place) e)
  text_refused offset place may_refuse no_memory lies refused = (s, there)
  text_refused offset place may_refuse e lies (inl is) = absurd cc
  text_refused offset place may_refuse e lies (inr refused) = (refl, sym lies, inr (s, there, refused))

  -- memory is wanted for it
  pub text_wants : (room : ℕ) (place : Option ℕ) (e : Error) → (e ≡ no_memory → WantsSubtitle shift timescale s)
      → of_sample k place e ≡ OutOfMemory → WantsTextRoom shift timescale room reading
  text_wants room place no_memory memory is = (s, there, inr (memory refl))
  text_wants room place e memory is = absurd cc

-- a subtitle more was read
pub subtitle_added : (text : TextReading) (readings : ℕ → Reading) (n : ℕ) (before after : List Subtitle)
    (last : Subtitle) → after ≡ and_shown before last → AreSubtitles text readings n before
    → IsSubtitleAt text.shift text.timescale (n + 1) (readings (n + 1)) (Some last)
    → AreSubtitles text readings (n + 1) after
subtitle_added text readings n before after last is read found = rw (add-one n) (before, last, read, found, is)
