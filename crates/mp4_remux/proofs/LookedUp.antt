-- What is found of a track, and why it isn't.
use Rattle.std.proofs.Common.{◌≡◌, ◌∙◌, ◌⊎◌, inl, inr, ◌≤◌, ℕ, [], ◌∷◌, Option, None, Some, Result, Ok, Err, option_map}
use Rattle.std.proofs.Common.{IfSome, refl, sym, ap}
use Rattle.std.specs.Prelude.{IfNone}
use Rattle.mp4_codec.specs.Cause.{Cause, ◌>>=◌}
use Rattle.mp4_lookup.specs.declared.track.Mp4Track.{Mp4Track}
use Rattle.mp4_lookup.specs.Rates.{sample_count_of}
use Rattle.mp4_lookup.specs.TrackRuns.{track_runs}
use Rattle.mp4_samples.specs.declared.sample.SamplePlace.{SamplePlace}
use Rattle.mp4_samples.specs.Places.{place_of}
use Rattle.mp4_media.specs.declared.movie.Movie.{Movie}
use Rattle.mp4_media.specs.FileBoxes.{opened_movie}
use Rattle.mp4_media.specs.MovieTracks.{AreTracks, OpenedTrack, at_id, opened_track}
use Rattle.mp4_media.specs.Reading.{located_in, needed_track, sample_count_in, track_or}
use Rattle.mp4_remux.specs.Descriptions.{description_by, description_in, description_of, runs_of}
use Rattle.mp4_remux.specs.Headers.{HasNoSamples}
use Rattle.mp4_remux.specs.Reads.{place_in}
use Rattle.mp4_remux.specs.Refused.{IsUnreadable}
use Rattle.mp4_remux.proofs.Sameness.{counted_there, placed_there}

same_ok : {A : Type 0} (x y : A) → ◌≡◌ {A = Result A Cause} (Ok x) (Ok y) → x ≡ y
same_ok x y is = cc

module _ (m : Movie) (are : AreTracks m.moov m.moofs m.moof_places m.tracks) (id : ℕ) where
  -- a sample is there or none is
  pub some_found : (k : ℕ) (o : Option SamplePlace) → located_in m.tracks id k ≡ Ok (option_map place_of o)
      → IfSome o (λ s. place_in (opened_movie m) id k ≡ Ok (Some (place_of s)))
  some_found k None is = tt
  some_found k (Some s) is = placed_there m are id k ∙ is

  pub none_found : (k : ℕ) (o : Option SamplePlace) → located_in m.tracks id k ≡ Ok (option_map place_of o)
      → IfNone o (((k ≡ 1) × HasNoSamples (opened_movie m) id) ⊎ (place_in (opened_movie m) id k ≡ Ok None))
  none_found k None is = inr (placed_there m are id k ∙ is)
  none_found k (Some s) is = tt

  -- it isn't said where a sample is
  pub not_found : (k : ℕ) (c : Cause) → 1 ≤ k → located_in m.tracks id k ≡ Err c
      → IsUnreadable (opened_movie m) (id ∷ []) c
  not_found k c some is = record {
    id = id;
    number = 0;
    is = refl;
    refused = inr (k, (some, placed_there m are id k ∙ is));
  }

  -- nor how many there are
  pub not_counted : (c : Cause) → sample_count_in m.tracks id ≡ Err c → IsUnreadable (opened_movie m) (id ∷ []) c
  not_counted c is = record { id = id; number = 0; is = refl; refused = inl (counted_there m are id ∙ is) }

  -- a track that isn't there
  pub not_there : (c : Cause) → needed_track m.tracks id ≡ Err c → IsUnreadable (opened_movie m) (id ∷ []) c
  unfolding sample_count_in
  not_there c is =
      not_counted c (ap (λ (r : Result Mp4Track Cause). r >>= λ t. sample_count_of t.trak (track_runs t)) is)

  -- a track that says that it has no samples, and of which it isn't said where the first is
  pub none_said : (c : Cause) → sample_count_in m.tracks id ≡ Ok 0 → located_in m.tracks id 1 ≡ Err c
      → HasNoSamples (opened_movie m) id
  none_said c none unfound = (
    counted_there m are id ∙ none,
    λ first there. let both = sym there ∙ placed_there m are id 1 ∙ unfound in absurd cc,
  )

  opened_there : (o : Option Mp4Track) (t : Mp4Track) → track_or id o ≡ Ok t
      → option_map opened_track o ≡ Some (opened_track t)
  opened_there None t is = absurd cc
  opened_there (Some u) t is = ap (λ (u : Mp4Track). Some (opened_track u)) (same_ok u t is)

  -- the descriptions of a track's samples are by its runs
  pub described : (t : Mp4Track) → needed_track m.tracks id ≡ Ok t → (k : ℕ)
      → description_in (runs_of t.trak t.trafs m.moov.mvex) k ≡ description_of (opened_movie m) id k
  unfolding description_of
  described t is k =
      ap (λ (o : Option OpenedTrack). description_by m.moov.mvex o k)
      (sym (opened_there (at_id m.tracks id) t is) ∙ are id)
