use Rattle.std.proofs.Common.{◌≡◌, ◌+◌, ◌-◌, ◌^◌, fold, max, min, map, length, take}
use Rattle.std.specs.List.{sum_by}
use Rattle.mp4_boxes.specs.Trak.{trak_payload}
use Rattle.mp4_mux.specs.TrackHeaders.{movie_duration, header_length}
use Rattle.mp4_mux.specs.FinishedTrack.{trak_for}
use Rattle.mp4_mux.specs.Parts.{unwritten, finished_buildings}
use Rattle.mp4_mux.proofs.ending.movie_size.Given as goal

abbrev pub invariant-loop-i : goal.invariant-loop-i
invariant-loop-i l = record {
  size : l.size
      ≡ min (8 + header_length 108
      (fold max 0 (map (λ b. movie_duration b.movie_timescale b.config.timescale b.samples) l.tracks))
      + sum_by (λ t. 8 + length (trak_payload (trak_for l.timescale t)))
      (take l.i (finished_buildings 1 l.end l.tracks)))
      (2 ^ 64 - 1);
  place : l.place ≡ min (l.end + length (unwritten (take l.i l.tracks))) (2 ^ 64 - 1);
}
