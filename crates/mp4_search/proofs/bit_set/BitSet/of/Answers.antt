use Rattle.std.proofs.Common.{arith, ap, ◌∙◌}
use Rattle.std.proofs.lemmas.Bool.{leb-true, le-leb}
use Rattle.std.proofs.lemmas.List.{take_all}
use Rattle.std.specs.List.{list_any}
use Rattle.std.specs.Prelude.{◌==◌}
use Rattle.mp4_search.proofs.Bits.{all_past, known_below, none_set}
use Rattle.mp4_search.proofs.bit_set.BitSet.of.Goals as goal

pub loop-number-init : goal.loop-number-init
loop-number-init c =
    let none = c.in_ok-words.ensures.items_if_clones_equal (λ y e. e) in
    record {
      bits = λ k h. rw none (none_set _ k (omega (arith, h, c.in_ok-words.ensures.len)));
      count = omega (arith, c.in_ok-words.ensures.len, c.min.ensures);
    }

pub returns-clause-bits : goal.returns-clause-bits
returns-clause-bits c =
    let numbers = c.args.numbers.now in
    record {
      each = λ k h. c.loop-number.invariant.bits k h
          ∙ ap (list_any (λ n. n == k)) (take_all c.loop-number.number-index numbers c.loop-number-test.false);
      whole = λ fits k h. all_past numbers c.largest_of-largest.result c.args.limit _ k c.largest_of-largest.ensures
          (leb-true _ _ fits) c.loop-number.invariant.count h;
    }

pub returns-clause-known : goal.returns-clause-known
returns-clause-known c = record {
  known = λ k h. known_below c.loop-number.words.items _ c.largest_of-largest.result c.args.limit k
      c.loop-number.invariant.count (λ fits. le-leb _ _ fits) h;
}
