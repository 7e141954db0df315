-- A configuration of HEVC video is read as it was written.
use Rattle.std.proofs.Common.{◌≡◌, length, Ok, refl}
use Rattle.mp4_entry.specs.declared.hvcc.HvcCBox.{HvcCBox}
use Rattle.mp4_entry.specs.Hvcc.{hvcc_of, hvcc_payload, IsCanonicalHvcC}

pub length-hvcc_payload : (b : HvcCBox) → length (hvcc_payload b) ≡ length b.raw
unfolding hvcc_payload
length-hvcc_payload b = refl

pub hvcc_again : (b : HvcCBox) → IsCanonicalHvcC b → hvcc_of (hvcc_payload b) ≡ Ok b
unfolding hvcc_of hvcc_payload
hvcc_again b f = refl
