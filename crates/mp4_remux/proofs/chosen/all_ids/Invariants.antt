use Rattle.std.proofs.Common.{◌≡◌, ◌++◌, drop, map}
use Rattle.mp4_boxes.specs.declared.trak.TrakBox.{TrakBox}
use Rattle.mp4_remux.proofs.chosen.all_ids.Given as goal

-- those so far, and those of the rest, are all
abbrev pub invariant-loop-i : goal.invariant-loop-i
invariant-loop-i l = record {
  ids : l.all.items ++ map (λ (t : TrakBox). t.tkhd.track_id) (drop l.i l.fn.movie.moov.traks)
      ≡ map (λ (t : TrakBox). t.tkhd.track_id) l.fn.movie.moov.traks;
  traks : l.traks ≡ l.fn.movie.moov.traks;
}
