-- Times as texts.
use Rattle.std.proofs.Common.{◌≡◌, ℕ, ◌<◌, [], ◌∷◌, ◌++◌, refl}
use Rattle.std.proofs.lemmas.Bool.{lt-ltb}
use Rattle.std.specs.Prelude.{decimal}
use Rattle.mp4_extract.specs.SubtitleTexts.{hours_of}

pub hours_after_zero : (n : ℕ) → n < 10 → hours_of n ≡ (48 ∷ []) ++ decimal n
unfolding hours_of
hours_after_zero n few = rw (lt-ltb n 10 few) refl
