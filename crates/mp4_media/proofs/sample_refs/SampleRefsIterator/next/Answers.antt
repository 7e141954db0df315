use Rattle.std.proofs.Common.{◌≡◌, ◌∷◌, Ok, Err, ap, length, rules}
use Rattle.mp4_codec.specs.Cause.{cause_of}
use Rattle.mp4_lookup.specs.InOrder.{samples_left}
use Rattle.mp4_media.proofs.InOrder.{no_step, read_step, refused_step}
use Rattle.mp4_media.proofs.sample_refs.SampleRefsIterator.next.Goals as goal

pub returns-in-None-clause-steps : goal.returns-in-None-clause-steps
returns-in-None-clause-steps c =
    let none = c.in-None.ensures.steps in (
      rw (c.if-self.false, none.0) (no_step c.args.self.now.bytes.now),
      rw (c.if-self.false, none.1) (no_step c.args.self.now.bytes.now),
    )

pub returns-in-Some-Ok-clause-steps : goal.returns-in-Some-Ok-clause-steps
returns-in-Some-Ok-clause-steps c =
    let s = c.args.self.now in
    let first : samples_left s.samples ≡ Ok c.in-Some-Ok.place ∷ samples_left c.next.new.self =
    rw c.in-Some-Ok.field-0-is at c.in-Some-Ok.ensures.steps in
    rw (c.if-self.false, first)
    (read_step s.bytes.now c.in-Some-Ok.place (samples_left c.next.new.self) c.borrowed_at-sample.result
    c.is_err-self.result c.borrowed_at-sample.ensures.rule c.borrowed_at-sample.ensures.offset
    c.is_err-self.ensures.value)

pub returns-in-Some-Ok-clause-goes : goal.returns-in-Some-Ok-clause-goes
returns-in-Some-Ok-clause-goes c = let shorter = ap length (returns-in-Some-Ok-clause-steps c) in search rules

pub returns-in-Some-Err-clause-steps : goal.returns-in-Some-Err-clause-steps
returns-in-Some-Err-clause-steps c =
    let s = c.args.self.now in
    let first : samples_left s.samples ≡ Err (cause_of c.in-Some-Err.error) ∷ samples_left c.next.new.self =
    rw c.in-Some-Err.field-0-is at c.in-Some-Err.ensures.steps in
    rw (c.if-self.false, first) (refused_step s.bytes.now (cause_of c.in-Some-Err.error) (samples_left c.next.new.self))

pub returns-in-Some-Err-clause-goes : goal.returns-in-Some-Err-clause-goes
returns-in-Some-Err-clause-goes c = let shorter = ap length (returns-in-Some-Err-clause-steps c) in search rules
