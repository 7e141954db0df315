use Rattle.std.proofs.Common.{false, IsTrue, arith, refl, slice_index_or, subst}
use Rattle.mp4_remux.proofs.Causes.{none_of_all, only_first, only_of_all, only_still, some_box}
use Rattle.mp4_remux.proofs.Numbered.{at_index}
use Rattle.mp4_remux.proofs.frame.only_box.Goals as goal

pub returns-in-Some-clause-names : goal.returns-in-Some-clause-names
returns-in-Some-clause-names c =
    let boxes = c.args.boxes.now in
    let i = c.loop-i.i in
    let found = rw c.in-Some.is at c.loop-i.invariant.only in (
      refl,
      record {
        i = found.0;
        j = i;
        one = c.in-Some.field-0;
        other = slice_index_or boxes i some_box;
        order = found.1.0;
        first = found.1.1.0;
        second = at_index boxes i some_box c.loop-i-test.true;
        has_name = found.1.1.1.0;
        also = c.if-not-is_equal.ensures.0 refl;
      },
    )

pub loop-i-preserved : goal.loop-i-preserved
loop-i-preserved c = record {
  boxes_are = refl;
  name_is = refl;
  only = only_first c.args.boxes.now c.args.name c.loop-i.i some_box c.loop-i-test.true
      (c.if-not-is_equal.ensures.0 refl) (rw c.in_default.is at c.loop-i.invariant.only);
}

pub loop-i-preserved-then-not-is_equal : goal.loop-i-preserved-then-not-is_equal
loop-i-preserved-then-not-is_equal c = record {
  boxes_are = refl;
  name_is = refl;
  only = only_still c.args.boxes.now c.args.name c.loop-i.i some_box c.loop-i.found c.loop-i-test.true
      (λ is. let t : IsTrue false = subst IsTrue c.if-not-is_equal.true (c.is_equal.ensures.1 is) in absurd cc)
      c.loop-i.invariant.only;
}

pub returns-clause-only : goal.returns-clause-only
returns-clause-only c =
    only_of_all c.args.boxes.now c.args.name c.loop-i.i c.loop-i.found (omega arith) c.loop-i.invariant.only

pub returns-clause-none : goal.returns-clause-none
returns-clause-none c =
    none_of_all c.args.boxes.now c.args.name c.loop-i.i c.loop-i.found (omega arith) c.loop-i.invariant.only
