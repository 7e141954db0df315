-- A configuration of VP9 video is read as it was written.
use Rattle.std.proofs.Common.{◌≡◌, length, Ok, refl}
use Rattle.mp4_entry.specs.declared.vpcc.VpccBox.{VpccBox}
use Rattle.mp4_entry.specs.Vpcc.{vpcc_of, vpcc_payload, IsCanonicalVpcc}

pub length-vpcc_payload : (b : VpccBox) → length (vpcc_payload b) ≡ length b.raw
unfolding vpcc_payload
length-vpcc_payload b = refl

pub vpcc_again : (b : VpccBox) → IsCanonicalVpcc b → vpcc_of (vpcc_payload b) ≡ Ok b
unfolding vpcc_of vpcc_payload
vpcc_again b f = refl
