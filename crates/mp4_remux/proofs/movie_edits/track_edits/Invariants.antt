use Rattle.std.proofs.Common.{◌≡◌, ℕ}
use Rattle.mp4_media.specs.FileBoxes.{opened_movie}
use Rattle.mp4_remux.specs.Moved.{IsBy}
use Rattle.mp4_remux.proofs.RebuildEdits.{AreUntil}
use Rattle.mp4_remux.proofs.movie_edits.track_edits.Given as goal

-- those so far are the edits of the tracks, whatever is right for the rest
abbrev pub invariant-loop-i : goal.invariant-loop-i
invariant-loop-i l = record {
  edits : (to : ℕ → ℕ) → IsBy l.fn.moves to
      → AreUntil (opened_movie l.fn.movie) to l.fn.sorted l.fn.movie.moov.traks l.edits.items l.i;
  traks_are : l.traks ≡ l.fn.movie.moov.traks;
}
