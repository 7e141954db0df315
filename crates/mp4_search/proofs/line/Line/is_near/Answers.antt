use Rattle.std.proofs.Common.{◌∙◌, refl, sym, arith}
use Rattle.mp4_search.specs.Guess.{spread_place, strays_among}
use Rattle.mp4_search.proofs.Guesses.{as_many, far_from, near_to, one_more}
use Rattle.mp4_search.proofs.line.Line.is_near.Goals as goal

pub loop-looked-init : goal.loop-looked-init
unfolding strays_among
loop-looked-init c = record { upto = omega arith; strays = refl; few = omega arith }

pub returns-then-strayed-count : goal.returns-then-strayed-count
unfolding spread_place
returns-then-strayed-count c =
    sym (far_from c.args.self c.args.numbers.now c.loop-looked.looked c.args.count c.place_at.result (omega arith)
    c.place_at.ensures.value (rw (sym c.strays.ensures) c.if-strays.true)
    (c.loop-looked.invariant.strays ∙ omega arith))

pub loop-looked-preserved-then-strays : goal.loop-looked-preserved-then-strays
unfolding spread_place
loop-looked-preserved-then-strays c =
    let more = one_more c.args.self c.args.numbers.now c.loop-looked.looked c.place_at.result
    c.place_at.ensures.value (rw (sym c.strays.ensures) c.if-strays.true) in
    record {
      upto = omega arith;
      strays = omega (arith, more, c.loop-looked.invariant.strays);
      few = omega (arith, c.loop-looked.invariant.few);
    }

pub loop-looked-preserved : goal.loop-looked-preserved
unfolding spread_place
loop-looked-preserved c =
    let same = as_many c.args.self c.args.numbers.now c.loop-looked.looked c.place_at.result
    c.place_at.ensures.value (rw (sym c.strays.ensures) c.if-strays.false) in
    record {
      upto = omega arith;
      strays = same ∙ c.loop-looked.invariant.strays;
      few = c.loop-looked.invariant.few;
    }

pub returns : goal.returns
returns c =
    sym (near_to c.args.self c.args.numbers.now c.loop-looked.looked c.args.count c.loop-looked.strayed (omega arith)
    c.loop-looked.invariant.strays c.loop-looked.invariant.few)
