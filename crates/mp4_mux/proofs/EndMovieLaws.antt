-- The movie that is written at the end can be written, and reads back equal.
use Rattle.std.proofs.Common.{◌≡◌, ◌+◌, ◌^◌, ◌<◌, false, List, length, None, sym, subst, ◌∙◌}
use Rattle.std.specs.List.{All}
use Rattle.mp4_codec.specs.Boxes.{write_cause, size_cause}
use Rattle.mp4_boxes.specs.Moov.{moov_payload, moov_refusal, IsCanonicalMoov}
use Rattle.mp4_mux.specs.TrackHeaders.{FinishedTrack}
use Rattle.mp4_mux.specs.FinishedTrack.{movie_for}
use Rattle.mp4_mux.proofs.FineTracks.{IsFineTrack}
use Rattle.mp4_mux.proofs.MovieLaws.{movie_for-written, movie_for-canonical}
use Rattle.mp4_mux.specs.Writing.{movie_of, with_end, end_cause, finished_tracks, data_place, data_of}
use Rattle.mp4_mux.proofs.FineLaws.{fine_tracks}
use Rattle.mp4_mux.specs.Parts.{Parts, open_state, IsWriting, finished_buildings}
use Rattle.mp4_mux.proofs.EndLaws.{finished-same, end_cause-kept}

module _ (p : Parts) (h : IsWriting p) (goes_on : p.ended ≡ false)
    (within : data_place (open_state p) + length (data_of (with_end (open_state p))) < 2 ^ 64)
    (fits : end_cause (open_state p) ≡ None) where
  fine : All (IsFineTrack p.config.timescale) (finished_tracks (with_end (open_state p)))
  fine = fine_tracks (open_state p) h.sound within

  abbrev kept : List FinishedTrack
  kept = finished_buildings 1 (length p.media.buffer) p.media.tracks

  small : size_cause (moov_payload (movie_for p.config.timescale kept)) ≡ None
  small = sym (end_cause-kept p h goes_on) ∙ fits

  fine_kept : All (IsFineTrack p.config.timescale) kept
  fine_kept = subst (λ (ts : List FinishedTrack). All (IsFineTrack p.config.timescale) ts)
      (finished-same p h goes_on) fine

  -- the movie is written
  pub movie-written-kept : write_cause (moov_payload (movie_for p.config.timescale kept))
      (moov_refusal (movie_for p.config.timescale kept)) ≡ None
  movie-written-kept = movie_for-written p.config.timescale kept h.in_range.timescale fine_kept small

  -- and reads back equal
  pub movie-canonical-kept : IsCanonicalMoov (movie_of (with_end (open_state p)))
  movie-canonical-kept =
      subst (λ (ts : List FinishedTrack). IsCanonicalMoov (movie_for p.config.timescale ts))
      (sym (finished-same p h goes_on))
      (movie_for-canonical p.config.timescale kept h.in_range.timescale fine_kept small)
