-- What is written of subtitles.
use Rattle.std.proofs.Common.{◌≡◌, false, ℕ, List, ◌++◌, ◌==◌, length, refl}
use Rattle.std.specs.Str.{trim}
use Rattle.mp4_extract.specs.SubtitleTexts.{part_text, visible_text}

-- a part that isn't white space alone is written
pub written_part : (before after part : List ℕ) → (length (trim part) == 0) ≡ false
    → part_text before after part ≡ before ++ visible_text part ++ after
unfolding part_text
written_part before after part some = rw some refl
