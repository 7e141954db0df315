-- What the lines of scripts ask for.
use Rattle.std.specs.Prelude.{ℕ, ℤ, ◌+◌, ◌^◌, pos, neg_ℤ, Bool, true, false, List, [], ◌∷◌, length, take, drop, codes}
use Rattle.std.specs.Prelude.{Option, Some, None, nat_eq, nat_lt, ◌==◌, if◌then◌else◌}
use Rattle.std.specs.List.{position_or_len}
use Rattle.std.specs.Cmp.Lexicographic.{pointwise}
use Rattle.mp4_media.specs.MediaConfig.TheVariants.{TtxtConfig as Ttxt}
unfoldable pub use Rattle.mp4_media.specs.Metadata.{numeral}
use Rattle.mp4_media.specs.TrackConfig.{TrackConfig}
use Rattle.mp4_media.specs.Config.{track_config_of}
use Rattle.mp4_media.specs.Calls.{Call, add_track, write_sample}
use Rattle.mp4_script.specs.declared.commands.Command.{Command}
use Rattle.mp4_script.specs.declared.commands.Command.TheVariants.{TextTrack, Sample as SampleCommand}
use Rattle.mp4_script.specs.declared.commands.SampleLine.{SampleLine}

-- a step, and where it has an answer, the next
infixl 10 ◌>>?◌
abbrev pub ◌>>?◌ : {A B : Type 0} → Option A → (A → Option B) → Option B
None >>? f = None
(Some x) >>? f = f x

-- what is before the first space, and what after it
abbrev pub cut_at_space : List ℕ → Option (List ℕ × List ℕ)
cut_at_space line =
    let end = position_or_len (λ byte. byte == 32) line in
    if nat_lt end (length line) then Some (take end line, drop (end + 1) line) else None

-- what is after a beginning
abbrev pub after : List ℕ → List ℕ → Option (List ℕ)
after beginning line =
    if pointwise nat_eq (take (length beginning) line) beginning then Some (drop (length beginning) line) else None

-- one to ten decimal digits are a number, where it has 32 bits
unfoldable pub decimal_in : List ℕ → Option ℕ
decimal_in digits = if nat_lt 10 (length digits) then None else numeral digits

-- the same after a minus, or without one: from -2^31 to 2^31 - 1
abbrev pub offset_in : List ℕ → Option ℤ
offset_in field = elim (after (codes "-") field) [
  | Some digits ↦ decimal_in digits >>? λ n. if nat_lt (2 ^ 31) n then None else Some (neg_ℤ (pos n))
  | None ↦ decimal_in field >>? λ n. if nat_lt n (2 ^ 31) then Some (pos n) else None
]

-- 0 is no sync sample, and 1 is one
abbrev pub sync_in : List ℕ → Option Bool
sync_in [] = None
sync_in (digit ∷ []) = if digit == 48 then Some false else if digit == 49 then Some true else None
sync_in (digit ∷ other ∷ rest) = None

-- what a track of text is added with that has so many ticks in a second
abbrev pub text_config : ℕ → TrackConfig
text_config timescale = record (track_config_of (Ttxt (record {}))) { timescale = timescale }

-- TRACK DURATION OFFSET SYNC TEXT, each after one space; the text is all the rest
unfoldable pub sample_in : List ℕ → Option Call
sample_in fields =
    cut_at_space fields >>? λ track. cut_at_space track.1 >>? λ duration. cut_at_space duration.1 >>? λ offset.
    cut_at_space offset.1 >>? λ sync. decimal_in track.0 >>? λ id. decimal_in duration.0 >>? λ ticks.
    offset_in offset.0 >>? λ later. sync_in sync.0 >>? λ is_sync.
    Some (write_sample id (record { bytes = sync.1; duration = ticks; rendering_offset = later; is_sync = is_sync }))

-- `track text TIMESCALE` adds a track of text, and `sample TRACK DURATION OFFSET SYNC TEXT` writes a sample; no other
-- line is a command
unfoldable pub command_in : List ℕ → Option Call
command_in line = elim (after (codes "track text ") line) [
  | Some timescale ↦ decimal_in timescale >>? λ ticks. Some (add_track (text_config ticks))
  | None ↦ after (codes "sample ") line >>? sample_in
]

-- the call that a command asks for
abbrev pub sample_call : SampleLine → Call
sample_call s =
    write_sample s.track_id
    (record { bytes = s.text.now; duration = s.duration; rendering_offset = s.rendering_offset; is_sync = s.is_sync })

abbrev pub command_call : Command → Call
command_call (TextTrack timescale) = add_track (text_config timescale)
command_call (SampleCommand s) = sample_call s
