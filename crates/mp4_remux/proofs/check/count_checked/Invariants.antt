use Rattle.std.proofs.Common.{◌-◌, ◌+◌, ◌≡◌, ◌≤◌}
use Rattle.mp4_media.specs.FileBoxes.{opened_movie}
use Rattle.mp4_remux.specs.Why.{HasSamples}
use Rattle.mp4_remux.proofs.Checking.{AreRead}
use Rattle.mp4_remux.proofs.check.count_checked.Given as goal

-- the numbers up to this one have the same samples, and the files are as they were
abbrev pub invariant-loop-k : goal.invariant-loop-k
invariant-loop-k g l = record {
  upto : l.k ≤ l.most + 1;
  most : l.most ≡ l.fn.most;
  same : AreRead l.fn.before.movie l.fn.after.movie l.track_id (g.S.ByteSource.contents l.fn.before.source)
      (g.T.ByteSource.contents l.fn.after.source) l.k;
  have : HasSamples (opened_movie l.fn.before.movie) l.fn.track_id l.k;
  id : l.track_id ≡ l.fn.track_id;
  movie : l.before.movie ≡ l.fn.before.movie;
  movie_after : l.after.movie ≡ l.fn.after.movie;
  contents : g.S.ByteSource.contents l.before.source ≡ g.S.ByteSource.contents l.fn.before.source;
  contents_after : g.T.ByteSource.contents l.after.source ≡ g.T.ByteSource.contents l.fn.after.source;
  can_refuse : g.S.ByteSource.can_refuse l.before.source ≡ g.S.ByteSource.can_refuse l.fn.before.source;
  can_refuse_after : g.T.ByteSource.can_refuse l.after.source ≡ g.T.ByteSource.can_refuse l.fn.after.source;
}

abbrev pub decreases-loop-k : goal.decreases-loop-k
decreases-loop-k g l = l.most + 1 - l.k
