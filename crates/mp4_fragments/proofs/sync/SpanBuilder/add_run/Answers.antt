use Rattle.std.proofs.Common.{◌≡◌, ℕ, ◌+◌, ◌-◌, ◌<◌, ◌≤◌, sym, ◌∙◌, arith}
use Rattle.mp4_fragments.specs.RunSamples.{is_sync_in}
use Rattle.mp4_fragments.proofs.Syncing.{default_sync}
use Rattle.mp4_fragments.proofs.sync.SpanBuilder.add_run.Goals as goal

pub returns-clause-built : goal.returns-clause-built
returns-clause-built c =
    let run = c.args.run.now in
    let defaults = c.args.defaults in
    let start = c.args.self.now.count in
    let one = c.in_ok-add.ensures in
    let listed = c.in_ok-add_listed.ensures in
    let others = c.in_ok-add-2.ensures in
    let fewer : c.min-listed.result ≤ run.sample_count = omega (arith, c.min-listed.ensures) in
    λ has built run_samples.
    let first : (n : ℕ) → start ≤ n → n < c.add.new.self.count → has n ≡ c.is_sync.result = λ n h k.
    let at : start + 0 ≡ n = omega (arith, h, k, one.count) in
    rw at at (run_samples 0 (omega arith) (omega (arith, k, at, one.count, listed.count, others.count)))
    ∙ sym c.is_sync.ensures in
    let middle : (j : ℕ) → 1 ≤ j → j < c.min-listed.result
    → c.add.new.self.count + (j - 1) < c.add_listed.new.self.count
    → has (c.add.new.self.count + (j - 1)) ≡ is_sync_in run defaults j = λ j h k inside.
    let at : start + j ≡ c.add.new.self.count + (j - 1) = omega (arith, h, inside, one.count, listed.count) in
    rw (← at) (run_samples j (omega (arith, k, fewer))
    (omega (arith, at, inside, listed.count, listed.end, one.end, others.count, others.end))) in
    others.built has (listed.built has (one.built has built first) middle) (λ n h k.
    let at : start + (n - start) ≡ n = omega (arith, h, one.count, listed.count) in
    let reached : c.add_listed.new.self.count ≡ start + c.max.result = omega (
      arith,
      h,
      k,
      one.count,
      one.end,
      listed.count,
      listed.end,
      others.count,
      c.max.ensures,
    ) in
    rw at at (run_samples (n - start) (omega (arith, h, k, reached, others.count)) (omega (arith, at, k)))
    ∙ default_sync run defaults (n - start) (omega (arith, h, reached, c.max.ensures))
    (omega (
      arith,
      h,
      k,
      reached,
      c.max.ensures,
      c.min-listed.ensures,
      c.from.ensures,
      c.len.ensures.value,
      others.count,
    )))
