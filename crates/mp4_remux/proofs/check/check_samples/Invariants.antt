use Rattle.std.proofs.Common.{◌-◌, ◌+◌, ◌≡◌, ◌≤◌, ◌<◌, ℕ, Some, IfSome, length, slice_get}
use Rattle.mp4_media.specs.FileBoxes.{opened_movie}
use Rattle.mp4_remux.specs.Remuxed.{IsSameTrack}
use Rattle.mp4_remux.specs.Why.{HaveSamples, most_samples}
use Rattle.mp4_remux.proofs.check.check_samples.Given as goal

-- the tracks that were looked at are the same, and the files are as they were
abbrev pub invariant-loop-i : goal.invariant-loop-i
invariant-loop-i g l = record {
  upto : l.i ≤ length l.ids;
  few : l.left < 4294967295;
  ids : l.ids ≡ l.fn.ids;
  have : (n : ℕ) × (HaveSamples (opened_movie l.initial.before.movie) l.fn.ids l.i n
      × (most_samples l.initial.before.len ≡ l.left + n));
  movie : l.before.movie ≡ l.initial.before.movie;
  movie_after : l.after.movie ≡ l.initial.after.movie;
  contents : g.S.ByteSource.contents l.before.source ≡ g.S.ByteSource.contents l.initial.before.source;
  contents_after : g.T.ByteSource.contents l.after.source ≡ g.T.ByteSource.contents l.initial.after.source;
  can_refuse : g.S.ByteSource.can_refuse l.before.source ≡ g.S.ByteSource.can_refuse l.initial.before.source;
  can_refuse_after : g.T.ByteSource.can_refuse l.after.source ≡ g.T.ByteSource.can_refuse l.initial.after.source;
  same : (id j : ℕ) → j < l.i → slice_get l.fn.ids j ≡ Some id
      → IfSome (g.S.ByteSource.contents l.initial.before.source) (λ xs.
      IfSome (g.T.ByteSource.contents l.initial.after.source) (λ ys.
      IsSameTrack xs ys (opened_movie l.initial.before.movie) (opened_movie l.initial.after.movie) id));
}

abbrev pub decreases-loop-i : goal.decreases-loop-i
decreases-loop-i g l = length l.ids - l.i
