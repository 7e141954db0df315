-- Where the data of fragments lies: the base data offset of each track fragment (ISO/IEC 14496-12, 8.8.4, 8.8.7 and
-- 8.8.8).
use Rattle.std.specs.Prelude.{ℕ, ℤ, Bool, false, not, List, [], ◌∷◌, fold, Option, Some, None, if◌then◌else◌}
use Rattle.mp4_moof.specs.Optional.{is_set}
use Rattle.mp4_moof.specs.declared.trun.TrunBox.{TrunBox}
use Rattle.mp4_moof.specs.declared.traf.TrafBox.{TrafBox}
use Rattle.mp4_fragments.specs.Numbers.{plus, moved, sum_of_first}
use Rattle.mp4_fragments.specs.Defaults.{defaults_in}
use Rattle.mp4_fragments.specs.declared.defaults.SampleDefaults.{SampleDefaults}

-- A track fragment's base data offset: its own, where it says one; else the first byte of its movie fragment, where it
-- says so; else where the data before it ended.
abbrev pub base_data_offset_or : Option ℕ → ℕ → ℕ → Option ℕ → Option ℕ
base_data_offset_or (Some base_data_offset) flags moof before = Some base_data_offset
base_data_offset_or None flags moof before = if is_set flags 0x20000 then Some moof else before

abbrev pub base_data_offset_of : TrafBox → ℕ → Option ℕ → Option ℕ
base_data_offset_of traf moof before = base_data_offset_or traf.tfhd.base_data_offset traf.tfhd.flags moof before

-- whether it counts from where the data before it ended
abbrev pub counts_from : Option ℕ → ℕ → Bool
counts_from (Some base_data_offset) flags = false
counts_from None flags = not (is_set flags 0x20000)

abbrev pub counts_from_data_before : TrafBox → Bool
counts_from_data_before traf = counts_from traf.tfhd.base_data_offset traf.tfhd.flags

-- a run's data begins so far from the base data offset as it says, else where the run before it ended
abbrev pub data_begins : Option ℕ → Option ℤ → Option ℕ → Option ℕ
data_begins base_data_offset None before = before
data_begins base_data_offset (Some offset) before = moved base_data_offset offset

-- and ends after its last sample
abbrev pub data_ends : Option ℕ → SampleDefaults → Option ℕ → TrunBox → Option ℕ
data_ends base_data_offset defaults before run =
    plus (data_begins base_data_offset run.data_offset before)
    (sum_of_first run.sample_count run.sample_sizes defaults.size)

-- Where the data of a track fragment ends: where its last run does, or at its base data offset where it has none. The
-- first run that says no place begins at the base data offset.
unfoldable pub traf_ends : SampleDefaults → Option ℕ → TrafBox → Option ℕ
traf_ends track base_data_offset traf =
    fold (data_ends base_data_offset (defaults_in traf track)) base_data_offset traf.truns

-- The base data offsets of these track fragments of a movie fragment that begins at a place: each depends on the data
-- before it, of whatever track. A track's defaults are found by its id.
unfoldable pub base_data_offsets_from : (ℕ → SampleDefaults) → ℕ → Option ℕ → List TrafBox → List (Option ℕ)
base_data_offsets_from defaults moof before [] = []
base_data_offsets_from defaults moof before (traf ∷ trafs) =
    let base_data_offset : Option ℕ = base_data_offset_of traf moof before in
    base_data_offset
    ∷ base_data_offsets_from defaults moof (traf_ends (defaults traf.tfhd.track_id) base_data_offset traf) trafs

-- the base data offsets of all track fragments of a movie fragment: the first depends on the movie fragment's first
-- byte
abbrev pub base_data_offsets_of : (ℕ → SampleDefaults) → ℕ → List TrafBox → List (Option ℕ)
base_data_offsets_of defaults moof trafs = base_data_offsets_from defaults moof (Some moof) trafs
