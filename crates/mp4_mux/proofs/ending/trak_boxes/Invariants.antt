use Rattle.std.proofs.Common.{◌≡◌, ◌+◌, map, length, take}
use Rattle.mp4_mux.specs.FinishedTrack.{trak_for}
use Rattle.mp4_mux.specs.Parts.{unwritten, finished_buildings}
use Rattle.mp4_mux.proofs.ending.trak_boxes.Given as goal

abbrev pub invariant-loop-i : goal.invariant-loop-i
invariant-loop-i l = record {
  boxes : l.boxes.items ≡ map (trak_for l.timescale) (take l.i (finished_buildings 1 l.end l.tracks));
  place : l.place ≡ l.end + length (unwritten (take l.i l.tracks));
}
