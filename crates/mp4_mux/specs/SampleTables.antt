-- The tables that are written of a track, from what they say of its samples, and from its chunks (ISO/IEC 14496-12,
-- 8.6.1.2, 8.6.1.3, 8.6.2 and 8.7.3 to 8.7.5).
use Rattle.std.specs.Prelude.{ℕ, ◌+◌, ◌-◌, ◌^◌, pos, Bool, List, [], ◌∷◌, length, map, Option, Some, None, nat_lt, ◌==◌}
use Rattle.std.specs.Prelude.{if◌then◌else◌}
use Rattle.std.specs.Ordering.{int_eq}
use Rattle.std.specs.List.{list_all, list_any}
use Rattle.mp4_table.specs.declared.stts.SttsEntry.{SttsEntry}
use Rattle.mp4_table.specs.declared.stts.SttsBox.{SttsBox}
use Rattle.mp4_table.specs.declared.ctts.CttsEntry.{CttsEntry}
use Rattle.mp4_table.specs.declared.ctts.CttsBox.{CttsBox}
use Rattle.mp4_table.specs.declared.stss.StssBox.{StssBox}
use Rattle.mp4_table.specs.declared.stsc.StscEntry.{StscEntry}
use Rattle.mp4_table.specs.declared.stsc.StscBox.{StscBox}
use Rattle.mp4_table.specs.declared.stsz.StszBox.{StszBox}
use Rattle.mp4_table.specs.declared.stco.StcoBox.{StcoBox}
use Rattle.mp4_table.specs.declared.co64.Co64Box.{Co64Box}
use Rattle.mp4_mux.specs.declared.sample_info.SampleInfo.{SampleInfo}

-- the members as runs, where x is the last of n that are the same
unfoldable pub runs_from : {X R : Type 0} → (X → X → Bool) → (ℕ → X → R) → ℕ → X → List X → List R
runs_from same run n x [] = run n x ∷ []
runs_from same run n x (y ∷ ys) =
    if same x y then runs_from same run (n + 1) y ys else run n x ∷ runs_from same run 1 y ys

-- neighbours that are the same as one run
unfoldable pub runs_of : {X R : Type 0} → (X → X → Bool) → (ℕ → X → R) → List X → List R
runs_of same run [] = []
runs_of same run (x ∷ xs) = runs_from same run 1 x xs

abbrev pub same_duration : SampleInfo → SampleInfo → Bool
same_duration a b = a.duration == b.duration

abbrev pub stts_run : ℕ → SampleInfo → SttsEntry
stts_run n s = record { sample_count = n; sample_delta = s.duration }

abbrev pub same_offset : SampleInfo → SampleInfo → Bool
same_offset a b = int_eq a.rendering_offset b.rendering_offset

abbrev pub ctts_run : ℕ → SampleInfo → CttsEntry
ctts_run n s = record { sample_count = n; sample_offset = s.rendering_offset }

-- how long the samples last
unfoldable pub stts_for : List SampleInfo → SttsBox
stts_for ss = record { version = 0; flags = 0; entries = runs_of same_duration stts_run ss }

-- each is shown when it is decoded
abbrev pub are_in_order : List SampleInfo → Bool
are_in_order ss = list_all (λ s. int_eq s.rendering_offset (pos 0)) ss

-- how much later than they are decoded they are shown; there where one is
unfoldable pub ctts_for : List SampleInfo → Option CttsBox
ctts_for ss =
    if are_in_order ss then None
    else Some (record { version = 0; flags = 0; entries = runs_of same_offset ctts_run ss })

-- the numbers of the sync samples, where the first sample has number k
unfoldable pub sync_numbers_from : ℕ → List SampleInfo → List ℕ
sync_numbers_from k [] = []
sync_numbers_from k (s ∷ ss) =
    if s.is_sync then k ∷ sync_numbers_from (k + 1) ss else sync_numbers_from (k + 1) ss

-- which are sync samples; there where a sample is
unfoldable pub stss_for : List SampleInfo → Option StssBox
stss_for [] = None
stss_for (s ∷ ss) = Some (record { version = 0; flags = 0; entries = sync_numbers_from 1 (s ∷ ss) })

-- the size that all have, and 0 where they differ
unfoldable pub one_size : List SampleInfo → ℕ
one_size [] = 0
one_size (s ∷ ss) = if list_all (λ o. o.size == s.size) ss then s.size else 0

-- the sizes that are listed: none where all have one that isn't 0
unfoldable pub listed_sizes : List SampleInfo → List ℕ
listed_sizes ss = if one_size ss == 0 then map (λ s. s.size) ss else []

-- how long the samples are
unfoldable pub stsz_for : List SampleInfo → StszBox
stsz_for ss =
    record {
      version = 0;
      flags = 0;
      sample_size = one_size ss;
      sample_count = length ss;
      sample_sizes = listed_sizes ss;
    }

-- an entry for each chunk that has another number of samples than the one before it, which has n; the first of these
-- chunks has this number, and its first sample that
unfoldable pub chunk_entries_from : ℕ → ℕ → ℕ → List ℕ → List StscEntry
chunk_entries_from n chunk sample [] = []
chunk_entries_from n chunk sample (m ∷ ms) =
    if m == n then chunk_entries_from m (chunk + 1) (sample + m) ms
    else record {
      first_chunk = chunk;
      samples_per_chunk = m;
      sample_description_index = 1;
      first_sample = sample;
    } ∷ chunk_entries_from m (chunk + 1) (sample + m) ms

-- how many samples the chunks have; before the first there is none
unfoldable pub stsc_for : List ℕ → StscBox
stsc_for counts = record { version = 0; flags = 0; entries = chunk_entries_from 0 1 1 counts }

-- an offset passes 32 bits
abbrev pub are_far : List ℕ → Bool
are_far offsets = list_any (λ o. nat_lt (2 ^ 32 - 1) o) offsets

-- where the chunks lie, where all offsets have room in 32 bits
unfoldable pub stco_for : List ℕ → Option StcoBox
stco_for offsets = if are_far offsets then None else Some (record { version = 0; flags = 0; entries = offsets })

-- where the chunks lie, where one has not
unfoldable pub co64_for : List ℕ → Option Co64Box
co64_for offsets = if are_far offsets then Some (record { version = 0; flags = 0; entries = offsets }) else None
