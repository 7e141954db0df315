use Rattle.std.proofs.Common.{◌∙◌, Err, Ok, ◌∷◌, length, refl, sym, ap, arith, rules}
use Rattle.mp4_codec.specs.Cause.{cause_of}
use Rattle.mp4_lookup.specs.InOrder.{answers_left}
use Rattle.mp4_lookup.proofs.InOrder.{after_is, none_left, refusal_left, sample_left}
use Rattle.mp4_lookup.proofs.in_order.SamplesIterator.next.Goals as goal

pub returns-in-Ok-None-clause-steps : goal.returns-in-Ok-None-clause-steps
returns-in-Ok-None-clause-steps c =
    let s = c.args.self.now in
    let none = rw c.in-Ok-None.field-0-is at c.in-Ok-None.ensures.rule in
    let ended = rw c.in-Ok-None.field-0-is at c.in-Ok-None.ensures.number in (
      ap (λ n. answers_left n s.tables.track.now) c.in_ok-number.was
          ∙ none_left s.tables.track.now c.in_ok-number.number (omega arith) none,
      ap (λ n. answers_left n c.step.new.self.tables.track.now) ended,
    )

pub returns-in-Ok-Some-clause-steps : goal.returns-in-Ok-Some-clause-steps
returns-in-Ok-Some-clause-steps c =
    let s = c.args.self.now in
    let number = c.in_ok-number.number in
    let next = c.step.new.self.number in
    let placed = rw c.in-Ok-Some.field-0-is at c.in-Ok-Some.ensures.rule in
    let after = rw c.in-Ok-Some.field-0-is at c.in-Ok-Some.ensures.number in
    ap (λ n. answers_left n s.tables.track.now) c.in_ok-number.was
    ∙ sample_left s.tables.track.now number (omega arith) c.in-Ok-Some.place next placed (after_is number next after)
    ∙ ap (λ t. Ok c.in-Ok-Some.place ∷ answers_left next t) (sym c.in-Ok-Some.ensures.track)

pub returns-in-Ok-Some-clause-goes : goal.returns-in-Ok-Some-clause-goes
returns-in-Ok-Some-clause-goes c = let shorter = ap length (returns-in-Ok-Some-clause-steps c) in search rules

pub returns-in-Err-clause-steps : goal.returns-in-Err-clause-steps
returns-in-Err-clause-steps c =
    let s = c.args.self.now in
    ap (λ n. answers_left n s.tables.track.now) c.in_ok-number.was
    ∙ refusal_left s.tables.track.now c.in_ok-number.number (omega arith) (cause_of c.in-Err.error)
    c.in-Err.ensures.rule
    ∙ ap (λ n. Err (cause_of c.in-Err.error) ∷ answers_left n c.step.new.self.tables.track.now)
    (sym c.in-Err.ensures.number)

pub returns-in-Err-clause-goes : goal.returns-in-Err-clause-goes
returns-in-Err-clause-goes c = let shorter = ap length (returns-in-Err-clause-steps c) in search rules
