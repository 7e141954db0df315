-- The profiles of AVC video (ISO/IEC 14496-10, Annex A).
use Rattle.std.specs.Prelude.{ℕ, ◌/◌, ◌%◌, Bool, Result, Ok, Err, ◌==◌, if◌then◌else◌}
use Rattle.mp4_codec.specs.Cause.{Cause, invalid_data}
use Rattle.mp4_entry.specs.declared.avc_profile.AvcProfile.{AvcProfile}
use Rattle.mp4_entry.specs.declared.avc_profile.AvcProfile.TheVariants.{AvcConstrainedBaseline, AvcBaseline, AvcMain}
use Rattle.mp4_entry.specs.declared.avc_profile.AvcProfile.TheVariants.{AvcExtended, AvcHigh}

-- the bit of compatibility that says that the stream keeps to the constraints of the main profile
abbrev pub is_constrained : ℕ → Bool
is_constrained compatibility = compatibility / 0x40 % 2 == 1

-- the profile by its number and its compatibility
abbrev pub avc_profile_of : ℕ → ℕ → Result AvcProfile Cause
avc_profile_of profile compatibility =
    if profile == 66 then Ok (if is_constrained compatibility then AvcConstrainedBaseline else AvcBaseline) else
    if profile == 77 then Ok AvcMain else
    if profile == 88 then Ok AvcExtended else
    if profile == 100 then Ok AvcHigh else
    Err invalid_data
