-- The movie of fine tracks has the length of its header and of its tracks, is written and reads back equal.
use Rattle.std.proofs.Common.{◌≡◌, ℕ, ◌+◌, ◌^◌, ◌<◌, max, List, [], ◌∷◌, length, map, None, refl, ◌∙◌, arith, lit<}
use Rattle.std.specs.List.{All, AllByRecursion, sum_by, fold}
use Rattle.std.proofs.lemmas.List.{length-append}
use Rattle.std.proofs.lemmas.List.Elements.{recursion_from_All}
use Rattle.std.proofs.lemmas.List.Sums.{sum_by-cons}
use Rattle.mp4_codec.specs.declared.box_type.BoxType.TheVariants.{TrakBox as trak}
use Rattle.mp4_codec.specs.Boxes.{box_bytes, all_box_bytes, all_refusal, size_cause, write_cause}
use Rattle.mp4_codec.specs.FieldLaws.{length-then}
use Rattle.mp4_codec.specs.FramingLaws.{length-box_bytes}
use Rattle.mp4_boxes.specs.Trak.{trak_payload, trak_refusal, IsInRangeTrak, IsWellFormedTrak}
use Rattle.mp4_boxes.specs.Moov.{moov_payload, moov_refusal, IsInRangeMoov, IsWellFormedMoov, IsCanonicalMoov}
use Rattle.mp4_mux.specs.TrackHeaders.{FinishedTrack, track_duration, header_length}
use Rattle.mp4_mux.proofs.TrackHeaderLaws.{length-mvhd_for, mvhd_for-in_range, mvhd_for-sound}
use Rattle.mp4_mux.specs.FinishedTrack.{trak_for, longest, movie_for}
use Rattle.mp4_mux.proofs.FineTracks.{IsFineTrack}
use Rattle.mp4_mux.proofs.FineTrackLaws.{trak_for-in_range, trak_for-well_formed, trak_for-sound}

-- the bytes of all tracks
length-traks : (m : ℕ) (ts : List FinishedTrack) → length (all_box_bytes trak trak_payload (map (trak_for m) ts))
    ≡ sum_by (λ (t : FinishedTrack). 8 + length (trak_payload (trak_for m t))) ts
length-traks m [] = refl
length-traks m (t ∷ ts) =
    length-append (box_bytes trak (trak_payload (trak_for m t))) (all_box_bytes trak trak_payload (map (trak_for m) ts))
    ∙ rw (length-box_bytes trak (trak_payload (trak_for m t)), length-traks m ts)
    (rw (sum_by-cons (λ (t : FinishedTrack). 8 + length (trak_payload (trak_for m t))) t ts) refl)

-- the bytes of the movie, but for its own header
pub length-movie_for : (m : ℕ) (ts : List FinishedTrack) → length (moov_payload (movie_for m ts))
    ≡ header_length 108 (longest m ts) + sum_by (λ (t : FinishedTrack). 8 + length (trak_payload (trak_for m t))) ts
unfolding moov_payload movie_for
length-movie_for m ts =
    simp (length-then, length-box_bytes)
    (omega (arith, length-mvhd_for m (longest m ts), length-traks m ts))

longest-small : (m : ℕ) (ts : List FinishedTrack) (first : ℕ) → first < 2 ^ 64 → AllByRecursion (IsFineTrack m) ts
    → fold max first (map (track_duration m) ts) < 2 ^ 64
longest-small m [] first small h = small
longest-small m (t ∷ ts) first small h =
    let duration = h.0.duration in
    let next : max first (track_duration m t) < 2 ^ 64 = omega arith in
    longest-small m ts (max first (track_duration m t)) next h.1

traks-in_range : (m : ℕ) (ts : List FinishedTrack) → AllByRecursion (IsFineTrack m) ts
    → AllByRecursion IsInRangeTrak (map (trak_for m) ts)
traks-in_range m [] h = tt
traks-in_range m (t ∷ ts) h = (trak_for-in_range m t h.0, traks-in_range m ts h.1)

traks-well_formed : (m : ℕ) (ts : List FinishedTrack) → AllByRecursion (IsFineTrack m) ts
    → AllByRecursion IsWellFormedTrak (map (trak_for m) ts)
traks-well_formed m [] h = tt
traks-well_formed m (t ∷ ts) h = (trak_for-well_formed m t h.0, traks-well_formed m ts h.1)

traks-sound : (m : ℕ) (ts : List FinishedTrack) → AllByRecursion (IsFineTrack m) ts
    → all_refusal trak_refusal (map (trak_for m) ts) ≡ None
traks-sound m [] h = refl
traks-sound m (t ∷ ts) h = rw (trak_for-sound m t h.0) (traks-sound m ts h.1)

module _ (m : ℕ) (ts : List FinishedTrack) (ticks : m < 2 ^ 32) (fine : All (IsFineTrack m) ts) where
  each : AllByRecursion (IsFineTrack m) ts
  each = recursion_from_All (IsFineTrack m) ts fine

  movie-in_range : IsInRangeMoov (movie_for m ts)
  unfolding movie_for
  movie-in_range = record {
    mvhd = mvhd_for-in_range m (longest m ts) ticks (longest-small m ts 0 (lit< tt) each);
    traks = traks-in_range m ts each;
    mvex = tt;
    meta = tt;
    udta = tt;
  }

  movie-well_formed : IsWellFormedMoov (movie_for m ts)
  unfolding movie_for
  movie-well_formed = record { mvhd = lit< tt; traks = traks-well_formed m ts each; mvex = tt; meta = tt; udta = tt }

  -- nothing but its size refuses the movie
  pub movie_for-sound : moov_refusal (movie_for m ts) ≡ None
  unfolding moov_refusal movie_for
  movie_for-sound = rw (mvhd_for-sound m (longest m ts), traks-sound m ts each) refl

  module _ (fits : size_cause (moov_payload (movie_for m ts)) ≡ None) where
    -- the movie is written where it fits a box
    pub movie_for-written : write_cause (moov_payload (movie_for m ts)) (moov_refusal (movie_for m ts)) ≡ None
    movie_for-written = rw fits movie_for-sound

    -- and then it reads back equal
    pub movie_for-canonical : IsCanonicalMoov (movie_for m ts)
    movie_for-canonical =
        record { in_range = movie-in_range; well_formed = movie-well_formed; written = movie_for-written }
