-- The tracks of an opened movie by their ids, each with its fragments (ISO/IEC 14496-12, 8.3.2, 8.8.3 and 8.8.7).
use Rattle.std.specs.Prelude.{◌≡◌, ◌⊎◌, ℕ, nat_eq, Bool, List, [], Option, Some, None, is_some, unwrap_or, length}
use Rattle.std.specs.Prelude.{IfSome, option_map, Result, Ok, Err, ◌==◌, map, zip, if◌then◌else◌}
use Rattle.std.specs.List.{AllByRecursion, filter, flat_map}
use Rattle.std.specs.HashMap.{HashMap, get}
use Rattle.mp4_codec.specs.declared.error.Error.{Error}
use Rattle.mp4_codec.specs.declared.error.Error.TheVariants.{OutOfMemory}
use Rattle.mp4_codec.specs.Cause.{Cause, invalid_data, trak_not_found, cause_of, ◌or◌}
use Rattle.mp4_codec.specs.Boxes.{all_refusal}
use Rattle.mp4_codec.specs.Children.{last}
use Rattle.mp4_table.specs.Stsc.{HasFirstSamples}
use Rattle.mp4_moof.specs.declared.trex.TrexBox.{TrexBox}
use Rattle.mp4_boxes.specs.declared.moov.MoovBox.{MoovBox}
use Rattle.mp4_boxes.specs.declared.trak.TrakBox.{TrakBox}
use Rattle.mp4_moof.specs.declared.mvex.MvexBox.{MvexBox}
use Rattle.mp4_moof.specs.declared.moof.MoofBox.{MoofBox}
use Rattle.mp4_moof.specs.declared.traf.TrafBox.{TrafBox}
use Rattle.mp4_fragments.specs.declared.defaults.SampleDefaults.{SampleDefaults}
use Rattle.mp4_fragments.specs.BaseDataOffsets.{base_data_offsets_of}
use Rattle.mp4_fragments.specs.Defaults.{defaults_of_trex, no_defaults}
use Rattle.mp4_fragments.specs.Fragments.{placed_runs, fragment_samples}
use Rattle.mp4_fragments.specs.RunSamples.{PlacedRun, all_run_samples}
use Rattle.mp4_fragments.specs.declared.run_samples.RunSample.{RunSample}
use Rattle.mp4_lookup.specs.declared.track.Mp4Track.{Mp4Track}
use Rattle.mp4_lookup.specs.TrackRuns.{track_runs}
use Rattle.mp4_samples.specs.Tables.{tables_of}
use Rattle.mp4_lookup.specs.Tracks.{movie_end}

-- the box of the track with this id: of equal ids the last
abbrev pub trak_with_id : List TrakBox → ℕ → Option TrakBox
trak_with_id traks id = last (filter (λ (t : TrakBox). t.tkhd.track_id == id) traks)

-- all track fragments, in file order: each adds samples to one track
abbrev pub trafs_in : List MoofBox → List TrafBox
trafs_in moofs = flat_map (λ (m : MoofBox). m.trafs) moofs

-- those that add samples to this track
abbrev pub trafs_of : List TrafBox → ℕ → List TrafBox
trafs_of trafs id = filter (λ (f : TrafBox). f.tfhd.track_id == id) trafs

-- the defaults of each track's fragments
abbrev pub trexs_in : Option MvexBox → List TrexBox
trexs_in None = []
trexs_in (Some mvex) = mvex.trexs

-- what the movie says of the samples of this track's fragments: its last defaults count, if there are any
abbrev pub defaults_with_id : List TrexBox → ℕ → Option SampleDefaults
defaults_with_id trexs id =
    option_map defaults_of_trex (last (filter (λ (x : TrexBox). x.track_id == id) trexs))

-- and 0 for all where it says nothing
abbrev pub movie_defaults : MoovBox → ℕ → SampleDefaults
movie_defaults moov id = unwrap_or (defaults_with_id (trexs_in moov.mvex) id) no_defaults

-- How long a sample of these fragments lasts where neither its run nor its fragment says so; 0 without fragments.
abbrev pub default_duration : List TrafBox → SampleDefaults → ℕ
default_duration trafs defaults = if length trafs == 0 then 0 else defaults.duration

-- of the base data offsets of these track fragments, those of this track's
unfoldable pub own_base_data_offsets : ℕ → List TrafBox → List (Option ℕ) → List (Option ℕ)
own_base_data_offsets id trafs base_data_offsets =
    map (λ (x : TrafBox × Option ℕ). x.1)
    (filter (λ (x : TrafBox × Option ℕ). x.0.tfhd.track_id == id) (zip trafs base_data_offsets))

-- The base data offsets of this track's fragments; the movie fragments begin at these places, and one may depend on the
-- data of another track's.
unfoldable pub track_base_data_offsets : (ℕ → SampleDefaults) → List MoofBox → List ℕ → ℕ → List (Option ℕ)
track_base_data_offsets defaults moofs places id =
    flat_map (λ (x : MoofBox × ℕ). own_base_data_offsets id x.0.trafs (base_data_offsets_of defaults x.1 x.0.trafs))
    (zip moofs places)

-- a track of an opened movie: what the movie says of it, its fragments, the runs that they add, and the samples of
-- these
pub record OpenedTrack : Type 0 where
  pub trak : TrakBox
  pub trafs : List TrafBox
  pub default_sample_duration : ℕ
  pub runs : List PlacedRun
  pub run_samples : List RunSample

-- The track with this box, to which these fragments add samples: they begin at these places, and its first run at the
-- end of the samples of its box.
abbrev pub with_fragments : MoovBox → List MoofBox → List ℕ → TrakBox → OpenedTrack
with_fragments moov moofs places trak =
    let id = trak.tkhd.track_id in
    let trafs = trafs_of (trafs_in moofs) id in
    let base_data_offsets = track_base_data_offsets (movie_defaults moov) moofs places id in
    record {
      trak = trak;
      trafs = trafs;
      default_sample_duration = default_duration trafs (movie_defaults moov id);
      runs = placed_runs (movie_defaults moov id) (movie_end trak) trafs base_data_offsets;
      run_samples = fragment_samples (movie_defaults moov id) (movie_end trak) trafs base_data_offsets;
    }

-- the track with this id in an opened movie with these fragments, which begin at these places
unfoldable pub track_at : MoovBox → List MoofBox → List ℕ → ℕ → Option OpenedTrack
track_at moov moofs places id = option_map (with_fragments moov moofs places) (trak_with_id moov.traks id)

-- ids of tracks count from 1
abbrev pub zero_id : TrakBox → Option Cause
zero_id t = if t.tkhd.track_id == 0 then Some invalid_data else None

-- a fragment of a track that isn't known
abbrev pub unknown_id : (ℕ → Bool) → TrafBox → Option Cause
unknown_id known f = if known f.tfhd.track_id then None else Some (trak_not_found f.tfhd.track_id)

-- the first such track fragment
abbrev pub unknown_ids : (ℕ → Bool) → List MoofBox → Option Cause
unknown_ids known moofs = all_refusal (λ (m : MoofBox). all_refusal (unknown_id known) m.trafs) moofs

-- each track has the first samples of the entries of its sample-to-chunk table (8.7.4)
abbrev pub HaveFirstSamples : List TrakBox → Type 0
HaveFirstSamples traks = AllByRecursion (λ (t : TrakBox). HasFirstSamples (tables_of t).stsc.entries) traks

-- this holds of the movie that was found, if there is one
abbrev pub IsNumbered : Option MoovBox → Type 0
IsNumbered moov = IfSome moov (λ m. HaveFirstSamples m.traks)

-- why the ids of a movie are refused: those of its tracks first, and then, in file order, those of its fragments
unfoldable pub id_fault : MoovBox → List MoofBox → Option Cause
id_fault moov moofs =
    all_refusal zero_id moov.traks or unknown_ids (λ id. is_some (trak_with_id moov.traks id)) moofs

-- A call is refused for this cause and no other, or memory ran out; where there is no cause it is Ok, or memory ran
-- out.
abbrev pub RefusedBy : {X : Type 0} → Option Cause → Result X Error → Type 0
RefusedBy cause (Ok x) = cause ≡ None
RefusedBy cause (Err e) = (e ≡ OutOfMemory) ⊎ (cause ≡ Some (cause_of e))

-- a track that was made, as the opened movie has it
abbrev pub opened_track : Mp4Track → OpenedTrack
opened_track t = record {
  trak = t.trak;
  trafs = t.trafs;
  default_sample_duration = t.default_sample_duration;
  runs = track_runs t;
  run_samples = all_run_samples (track_runs t);
}

module _ {X S : Type 0} where
  -- what is kept for an id
  abbrev pub at_id : HashMap ℕ X S → ℕ → Option X
  at_id m id = get nat_eq m id

  -- whether anything is
  abbrev pub has_id : HashMap ℕ X S → ℕ → Bool
  has_id m id = is_some (at_id m id)

module _ {S : Type 0} where
  -- the fragments that are kept for an id
  abbrev pub fragments_at : HashMap ℕ (List TrafBox) S → ℕ → List TrafBox
  fragments_at m id = unwrap_or (at_id m id) []

module _ {S : Type 0} where
  -- the base data offsets that are kept for an id
  abbrev pub base_data_offsets_at : HashMap ℕ (List (Option ℕ)) S → ℕ → List (Option ℕ)
  base_data_offsets_at m id = unwrap_or (at_id m id) []

module _ {S : Type 0} where
  -- the defaults that are kept for an id: 0 for all where there are none
  abbrev pub defaults_at : HashMap ℕ SampleDefaults S → ℕ → SampleDefaults
  defaults_at m id = unwrap_or (at_id m id) no_defaults

module _ {S : Type 0} where
  -- at each id there is the opened movie's track, with the samples of fragments that begin at these places
  abbrev pub AreTracks : MoovBox → List MoofBox → List ℕ → HashMap ℕ Mp4Track S → Type 0
  AreTracks moov moofs places tracks =
      (id : ℕ) → option_map opened_track (at_id tracks id) ≡ track_at moov moofs places id
