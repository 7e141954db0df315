-- What the payload of a box of a file means.
use Rattle.std.proofs.Common.{◌≡◌, ℕ, List, Some, Result, Ok, Err, refl}
use Rattle.mp4_codec.specs.declared.box_type.BoxType.{BoxType}
use Rattle.mp4_codec.specs.Cause.{Cause}
use Rattle.mp4_media.specs.FileBoxes.{BoxContent, meaning_of, read_as}
use Rattle.mp4_faults.specs.TopLevel.{Means}

module _ {A : Type 0} (kind : A → BoxContent) (value : List ℕ → Result A Cause) (name : BoxType) (payload : List ℕ)
    (is : meaning_of name ≡ Some (read_as kind value)) where
  pub means : (x : A) → value payload ≡ Ok x → Means name payload (Ok (kind x))
  means x e = (read_as kind value, is, rw e refl)

  pub meaningless_for : (c : Cause) → value payload ≡ Err c → Means name payload (Err c)
  meaningless_for c e = (read_as kind value, is, rw e refl)
