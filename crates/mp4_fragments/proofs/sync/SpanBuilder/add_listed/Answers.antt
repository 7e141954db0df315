use Rattle.std.proofs.Common.{◌≡◌, ◌+◌, ◌-◌, refl, sym, ◌∙◌, arith}
use Rattle.mp4_fragments.proofs.sync.SpanBuilder.add_listed.Goals as goal

pub loop-j-init : goal.loop-j-init
loop-j-init c = record {
  built = λ has built run_samples. built;
  opened = c.requires.opened;
  count = omega (arith, c.requires.within);
  end = refl;
  last = omega arith;
}

pub loop-j-preserved : goal.loop-j-preserved
loop-j-preserved c =
    let l = c.loop-j in
    let first = c.args.self.now.count in
    record {
      built = λ has built run_samples.
          let before = l.invariant.built has built (λ i h k inside. run_samples i h (omega (arith, k))
          (omega (arith, inside, c.in_ok-add.ensures.count))) in
          c.in_ok-add.ensures.built has before (λ n h k.
          let at : first + (l.j - 1) ≡ n = omega (
            arith,
            h,
            k,
            c.in_ok-add.ensures.count,
            l.invariant.count,
            l.invariant.end,
          ) in
          rw at at (run_samples l.j (omega arith) (omega arith) (omega (arith, at, k))) ∙ sym c.is_sync.ensures);
      opened = c.in_ok-add.ensures.opened;
      count = omega (arith, c.in_ok-add.ensures.count, l.invariant.count, l.invariant.end);
      end = c.add.ensures.end ∙ l.invariant.end;
      last = omega arith;
    }

pub returns-clause-built : goal.returns-clause-built
returns-clause-built c =
    let l = c.loop-j in
    λ has built run_samples. l.invariant.built has built
    (λ i h k inside. run_samples i h (omega (arith, h, k, l.invariant.last)) inside)

pub returns-clause-count : goal.returns-clause-count
returns-clause-count c =
    let done : c.loop-j.j - 1 ≡ c.args.listed - 1 = omega (arith, c.loop-j.invariant.last) in
    rw (← done) c.loop-j.invariant.count
