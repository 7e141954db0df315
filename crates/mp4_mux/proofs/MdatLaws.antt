-- The header of the media data has 16 bytes.
use Rattle.std.proofs.Common.{◌≡◌, ℕ, ◌-◌, ◌^◌, Bool, true, false, cond, ltb, length, refl}
use Rattle.mp4_codec.specs.declared.box_type.BoxType.TheVariants.{MdatBox as mdat, WideBox as wide}
use Rattle.mp4_codec.specs.BoxType.{code_of}
use Rattle.mp4_codec.specs.Bytes.{number, ◌⧺◌}
use Rattle.mp4_codec.specs.FieldLaws.{length-number, length-then}
use Rattle.mp4_mux.specs.Mdat.{mdat_header_of}

pub length-mdat_header_of : (n : ℕ) → length (mdat_header_of n) ≡ 16
unfolding mdat_header_of
length-mdat_header_of n = chosen (ltb (2 ^ 32 - 1) n)
  where
    chosen : (b : Bool)
        → length (cond b (number 4 1 ⧺ number 4 (code_of mdat) ⧺ number 8 n)
        (number 4 n ⧺ number 4 (code_of mdat) ⧺ number 4 8 ⧺ number 4 (code_of wide))) ≡ 16
    chosen true = simp (length-then, length-number) refl
    chosen false = simp (length-then, length-number) refl
