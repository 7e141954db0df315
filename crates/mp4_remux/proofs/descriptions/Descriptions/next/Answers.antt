use Rattle.std.proofs.Common.{◌∙◌, sym, arith}
use Rattle.mp4_remux.proofs.DescriptionLaws.{none_found, run_found, run_over}
use Rattle.mp4_remux.proofs.descriptions.Descriptions.next.Goals as goal

pub returns-then-run-k : goal.returns-then-run-k
returns-then-run-k c = λ of_sample from. (
  sym (run_found c.loop-run.self.runs.items c.loop-run.self.passed c.in-Some.run'.now
      (rw c.deref.ensures.value at c.in-Some.ensures.lookup.3.0)
      (rw c.deref.ensures.value at c.in-Some.ensures.lookup.1)
      c.args.k c.if-run-k.true)
      ∙ c.loop-run.invariant c.args.k (omega arith) ∙ from c.args.k (omega arith) (omega arith),
  λ later le small. c.loop-run.invariant later (omega (arith, le)) ∙ from later (omega (arith, le)) small,
)

pub loop-run-preserved : goal.loop-run-preserved
loop-run-preserved c = λ later le.
    run_over c.loop-run.self.runs.items c.loop-run.self.passed c.in-Some.run'.now
    (rw c.deref.ensures.value at c.in-Some.ensures.lookup.3.0)
    (rw c.deref.ensures.value at c.in-Some.ensures.lookup.1) c.args.k later c.if-run-k.false le
    ∙ c.loop-run.invariant later le

pub returns : goal.returns
returns c = λ of_sample from. (
  sym (none_found c.loop-run.self.runs.items c.loop-run.self.passed c.args.k
      (rw c.deref.ensures.value at c.in_default.ensures.lookup.3))
      ∙ c.loop-run.invariant c.args.k (omega arith) ∙ from c.args.k (omega arith) (omega arith),
  λ later le small. c.loop-run.invariant later (omega (arith, le)) ∙ from later (omega (arith, le)) small,
)
