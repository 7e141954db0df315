-- A video media header is read as it was written.
use Rattle.std.proofs.Common.{◌≡◌, length, Ok, refl}
use Rattle.mp4_codec.specs.FieldLaws.{number_again, number_last, length-number, length-then}
use Rattle.mp4_leaf.specs.declared.vmhd.VmhdBox.{VmhdBox}
use Rattle.mp4_leaf.specs.Vmhd.{vmhd_of, vmhd_payload, IsCanonicalVmhd}

pub length-vmhd_payload : (b : VmhdBox) → length (vmhd_payload b) ≡ 12
unfolding vmhd_payload
length-vmhd_payload b = simp (length-then, length-number)

pub vmhd_again : (b : VmhdBox) → IsCanonicalVmhd b → vmhd_of (vmhd_payload b) ≡ Ok b
unfolding vmhd_of vmhd_payload
vmhd_again b f =
    rw (
      number_again 1 b.version _ f.in_range.version,
      number_again 3 b.flags _ f.well_formed,
      number_again 2 b.graphics_mode _ f.in_range.graphics_mode,
      number_again 2 b.op_color.red _ f.in_range.red,
      number_again 2 b.op_color.green _ f.in_range.green,
      number_last 2 b.op_color.blue f.in_range.blue,
    ) refl
