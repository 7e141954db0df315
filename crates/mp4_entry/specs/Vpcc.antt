-- What a decoder of VP9 video is started with (the VP codec binding to ISO media files), as the bytes that are there.
use Rattle.std.specs.Prelude.{ℕ, List, Result, Ok}
use Rattle.mp4_codec.specs.Cause.{Cause}
use Rattle.mp4_codec.specs.Bytes.{number, ◌⧺◌}
use Rattle.mp4_codec.specs.Boxes.{IsCanonical, no_refusal}
use Rattle.mp4_entry.specs.declared.vpcc.VpccBox.{VpccBox}

-- the configuration that a payload is
unfoldable pub vpcc_of : List ℕ → Result VpccBox Cause
vpcc_of payload = Ok (record { raw = payload })

-- the payload that a configuration is
unfoldable pub vpcc_payload : VpccBox → List ℕ
vpcc_payload b = b.raw

-- its bytes are not looked at
abbrev pub IsInRangeVpcc : VpccBox → Type 0
IsInRangeVpcc b = Unit {0}

-- nothing beside what is written
abbrev pub IsWellFormedVpcc : VpccBox → Type 0
IsWellFormedVpcc b = Unit {0}

-- a configuration that is written and reads back equal
abbrev pub IsCanonicalVpcc : VpccBox → Type 0
IsCanonicalVpcc = IsCanonical IsInRangeVpcc IsWellFormedVpcc vpcc_payload no_refusal

-- version 1 and no flags; profile 0, level 3.1, 8 bits a colour; no data for the codec
abbrev pub default_vpcc : VpccBox
default_vpcc = record { raw = number 4 0x01000000 ⧺ number 4 0x001f8000 ⧺ number 4 0 }
