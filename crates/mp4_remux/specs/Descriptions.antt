-- The sample description of each sample of a track (ISO/IEC 14496-12, 8.5.2).
use Rattle.std.specs.Prelude.{◌≡◌, ◌+◌, ◌-◌, ◌^◌, ◌<◌, ◌≤◌, ◌++◌, ◌==◌, ℕ, min, nat_lt, if◌then◌else◌, List, [], ◌∷◌}
use Rattle.std.specs.Prelude.{Option, Some, None, drop, option_map, unwrap_or}
use Rattle.std.specs.List.{filter, sum_by}
use Rattle.mp4_codec.specs.Children.{last}
use Rattle.mp4_table.specs.declared.stsc.StscEntry.{StscEntry}
use Rattle.mp4_moof.specs.declared.mvex.MvexBox.{MvexBox}
use Rattle.mp4_moof.specs.declared.traf.TrafBox.{TrafBox}
use Rattle.mp4_moof.specs.declared.trex.TrexBox.{TrexBox}
use Rattle.mp4_moof.specs.declared.trun.TrunBox.{TrunBox}
use Rattle.mp4_boxes.specs.Stbl.{sample_count}
use Rattle.mp4_boxes.specs.declared.trak.TrakBox.{TrakBox}
use Rattle.mp4_media.specs.FileBoxes.{OpenedFile}
use Rattle.mp4_media.specs.MovieTracks.{OpenedTrack, track_at, trexs_in}
use Rattle.mp4_remux.specs.declared.descriptions.DescribedRun.{DescribedRun}
use Rattle.mp4_remux.specs.declared.descriptions.Descriptions.{Descriptions}

-- of runs of samples in their order, each with the number of its last sample and that of its description, the
-- description of sample k: that of the first run which doesn't end before it, and 1 where none is said
unfoldable pub description_in : List DescribedRun → ℕ → ℕ
description_in [] k = 1
description_in (r ∷ rs) k = if nat_lt r.last k then description_in rs k else r.description

-- the last sample of an entry, where these come after it: the one before that with which the next begins, or the last
-- of all
abbrev pub last_before : ℕ → List StscEntry → ℕ
last_before count [] = count
last_before count (next ∷ es) = min (next.first_sample - 1) count

-- the runs of the samples that the tables of a movie box have, of which there are so many (8.7.4)
unfoldable pub table_runs : ℕ → List StscEntry → List DescribedRun
table_runs count [] = []
table_runs count (e ∷ es) =
    record { last = last_before count es; description = e.sample_description_index } ∷ table_runs count es

-- how many samples track runs have (8.8.8)
abbrev pub samples_in : List TrunBox → ℕ
samples_in truns = sum_by (λ (r : TrunBox). r.sample_count) truns

-- the runs of track fragments, after so many samples: each says the description of its samples, or leaves it to the
-- track's defaults (8.8.7)
unfoldable pub fragment_runs : ℕ → ℕ → List TrafBox → List DescribedRun
fragment_runs default before [] = []
fragment_runs default before (f ∷ fs) =
    record { last = before + samples_in f.truns; description = unwrap_or f.tfhd.sample_description_index default }
    ∷ fragment_runs default (before + samples_in f.truns) fs

-- what a movie says of the fragments of a track: its last defaults count, and 1 where it says nothing (8.8.3)
abbrev pub default_description : Option MvexBox → ℕ → ℕ
default_description mvex id =
    unwrap_or (option_map (λ (x : TrexBox). x.default_sample_description_index)
    (last (filter (λ (x : TrexBox). x.track_id == id) (trexs_in mvex)))) 1

-- the runs of a track: those of its tables, and then those of its fragments
unfoldable pub runs_of : TrakBox → List TrafBox → Option MvexBox → List DescribedRun
runs_of trak trafs mvex =
    let stbl = trak.mdia.minf.stbl in
    table_runs (sample_count stbl) stbl.stsc.entries
    ++ fragment_runs (default_description mvex trak.tkhd.track_id) (sample_count stbl) trafs

abbrev pub description_by : Option MvexBox → Option OpenedTrack → ℕ → ℕ
description_by mvex None k = 1
description_by mvex (Some t) k = description_in (runs_of t.trak t.trafs mvex) k

-- a run as it is kept: the number of its last sample is the greatest of 32 bits where it passes them
abbrev pub within_32_bits : DescribedRun → DescribedRun
within_32_bits r = record { last = min (2 ^ 32 - 1) r.last; description = r.description }

-- the description of sample k of a track
unfoldable pub description_of : OpenedFile → ℕ → ℕ → ℕ
description_of opened id k =
    description_by opened.moov.mvex (track_at opened.moov opened.moofs opened.moof_places id) k

-- the runs that aren't over say the descriptions of samples from number k on
abbrev pub AreFrom : Descriptions → (ℕ → ℕ) → ℕ → Type 0
AreFrom d of_sample k =
    (later : ℕ) → k ≤ later → later < 2 ^ 32 → description_in (drop d.passed d.runs.items) later ≡ of_sample later
