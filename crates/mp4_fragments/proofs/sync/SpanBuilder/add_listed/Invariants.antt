use Rattle.std.proofs.Common.{◌≡◌, ℕ, ◌+◌, ◌-◌, ◌<◌, ◌≤◌, min, max, Bool}
use Rattle.std.specs.Prelude.{IfSome}
use Rattle.mp4_fragments.specs.RunSamples.{is_sync_in}
use Rattle.mp4_fragments.specs.Sync.{AreBuilt}
use Rattle.mp4_fragments.proofs.sync.SpanBuilder.add_listed.Given as goal

abbrev pub invariant-loop-j : goal.invariant-loop-j
invariant-loop-j l = record {
  built : (has : ℕ → Bool) → AreBuilt has l.fn.self
      → ((i : ℕ) → 1 ≤ i → i < l.j → l.fn.self.count + (i - 1) < l.self.count
      → has (l.fn.self.count + (i - 1)) ≡ is_sync_in l.run l.defaults i) → AreBuilt has l.self;
  opened : IfSome l.self.begun (λ first. first < l.self.count);
  count : l.self.count ≡ min (l.fn.self.count + (l.j - 1)) l.fn.self.end;
  end : l.self.end ≡ l.fn.self.end;
  last : l.j ≤ max 1 l.listed;
}
