use Rattle.std.proofs.Common.{◌≡◌, ℕ, eqb, false, List, [], ◌∷◌, length, refl, sym, ◌∙◌}
use Rattle.mp4_codec.specs.Bytes.{zeros, ◌⧺◌}
use Rattle.mp4_codec.specs.PutLaws.{◌then◌}
use Rattle.mp4_leaf.specs.Dinf.{ended}
use Rattle.mp4_leaf.proofs.dinf.put_location.Goals as goal

ended_text : (text : List ℕ) → eqb (length text) 0 ≡ false → ended text ≡ text ⧺ zeros 1
ended_text [] h = absurd cc
ended_text (b ∷ bs) h = refl

pub returns : goal.returns
returns c =
    rw (ended_text c.args.location.now (sym c.is_empty.ensures ∙ c.if-is_empty.false))
    ((rw (← c.as_slice.ensures) c.in_ok-put_bytes.ensures) then c.in_ok-put_zeros.ensures)
