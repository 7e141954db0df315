use Rattle.std.proofs.Common.{◌-◌, ◌+◌, ◌≡◌, ◌≤◌}
use Rattle.mp4_media.specs.FileBoxes.{opened_movie}
use Rattle.mp4_remux.proofs.Sameness.{AreAsBefore}
use Rattle.mp4_remux.proofs.Showing.{AreShown}
use Rattle.mp4_remux.specs.Why.{HasSamples}
use Rattle.mp4_remux.proofs.same.count_same.Given as goal

-- the numbers up to this one have the same samples, which have been shown at the end
abbrev pub invariant-loop-k : goal.invariant-loop-k
invariant-loop-k l = record {
  upto : l.k ≤ l.most + 1;
  most : l.most ≡ l.fn.most;
  same : AreAsBefore l.layout.source_len l.layout.made.items l.layout.pieces.items l.before l.after
      l.track_id l.k;
  have : HasSamples (opened_movie l.before) l.track_id l.k;
  shown : AreShown (opened_movie l.after) l.track_id l.k l.end;
}

abbrev pub decreases-loop-k : goal.decreases-loop-k
decreases-loop-k l = l.most + 1 - l.k
