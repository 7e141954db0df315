-- A handler is read as it was written.
use Rattle.std.proofs.Common.{◌≡◌, ◌+◌, length, Ok, refl, arith}
use Rattle.mp4_codec.specs.FieldLaws.{number_again, zeros_again, four_cc_again, until_zero-zero, length-number}
use Rattle.mp4_codec.specs.FieldLaws.{length-zeros, length-four_cc, length-then}
use Rattle.mp4_leaf.specs.declared.hdlr.HdlrBox.{HdlrBox}
use Rattle.mp4_leaf.specs.Hdlr.{hdlr_of, hdlr_payload, IsCanonicalHdlr}

pub length-hdlr_payload : (b : HdlrBox) → length (hdlr_payload b) ≡ 25 + length b.name
unfolding hdlr_payload
length-hdlr_payload b = simp (length-then, length-number, length-zeros, length-four_cc) (omega arith)

pub hdlr_again : (b : HdlrBox) → IsCanonicalHdlr b → hdlr_of (hdlr_payload b) ≡ Ok b
unfolding hdlr_of hdlr_payload
hdlr_again b f =
    rw (
      number_again 1 b.version _ f.in_range.version,
      number_again 3 b.flags _ f.well_formed.flags,
      zeros_again 4 _,
      four_cc_again b.handler_type _ f.in_range.handler_type,
      zeros_again 12 _,
      until_zero-zero b.name f.well_formed.name,
    ) refl
