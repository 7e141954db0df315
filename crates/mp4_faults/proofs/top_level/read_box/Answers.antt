use Rattle.std.proofs.Common.{◌∷◌, [], ◌<◌, ◌^◌, ℕ, subst, sym, refl, arith}
use Rattle.std.proofs.lemmas.Result.{err_from_is_err_and}
use Rattle.mp4_media.proofs.FoundBoxes.{of_known}
use Rattle.mp4_codec.specs.Cause.{cause_of}
use Rattle.mp4_faults.specs.declared.fault_place.FaultPlace.{FaultPlace}
use Rattle.mp4_faults.specs.declared.top_level.NextBox.{NextBox}
use Rattle.mp4_faults.specs.declared.top_level.NextBox.TheVariants.{Faulty}
use Rattle.mp4_faults.specs.Innermost.{step_after}
use Rattle.mp4_faults.specs.TopLevel.{SaysNext}
use Rattle.mp4_faults.proofs.Stepping.{payload-whole, payload-cut, is-top-box, ends-after, fault-read}
use Rattle.mp4_faults.proofs.Stepping.{past-the-bytes}
use Rattle.mp4_faults.proofs.top_level.read_box.Goals as goal

pub returns-in_err-add_box-in-Ok-clause-answer : goal.returns-in_err-add_box-in-Ok-clause-answer
returns-in_err-add_box-in-Ok-clause-answer g c =
    let p = err_from_is_err_and c.from_residual.result c.from_residual.ensures.1 in
    let h = c.args.header in
    let reader = c.args.reader.now in
    let after = c.read_box.new.self.position in
    let small : after < 2 ^ 64 = grind (arith, c.position.ensures) in
    let told = rw (c.position-from.ensures, c.as_slice.ensures) at c.in_err-add_box-in-Ok.ensures in
    λ size. of_known (g.S.ByteSource.contents reader.source) _ _ c.in-Ok.ensures.answer (λ bytes read t.
    let w = payload-whole h.size reader.position bytes c.requires.size c.in-Ok.payload after read in
    rw (p.1, p.2) (told size bytes
    (is-top-box size bytes c.args.place reader.position h c.requires.size t c.in-Ok.payload after w small)))

pub returns-in_ok-add_box-in-Ok-clause-answer : goal.returns-in_ok-add_box-in-Ok-clause-answer
returns-in_ok-add_box-in-Ok-clause-answer g c =
    let h = c.args.header in
    let reader = c.args.reader.now in
    let after = c.read_box.new.self.position in
    let small : after < 2 ^ 64 = grind (arith, c.position.ensures) in
    let told = rw (c.position-from.ensures, c.as_slice.ensures) at c.in_ok-add_box-in-Ok.ensures in
    λ size. of_known (g.S.ByteSource.contents reader.source) _ _ c.in-Ok.ensures.answer (λ bytes read t.
    let w = payload-whole h.size reader.position bytes c.requires.size c.in-Ok.payload after read in
    subst (λ (n : ℕ).
    SaysNext size bytes c.args.place c.args.seen.now c.add_box.new.seen n c.in_ok-add_box-in-Ok.field-0)
    (ends-after size bytes c.args.place reader.position h c.requires.size t c.in-Ok.payload after w)
    (told size bytes
    (is-top-box size bytes c.args.place reader.position h c.requires.size t c.in-Ok.payload after w small)))

pub returns-in_ok-fault_of_box-in-Err-clause-answer : goal.returns-in_ok-fault_of_box-in-Err-clause-answer
returns-in_ok-fault_of_box-in-Err-clause-answer g c =
    let h = c.args.header in
    let reader = c.args.reader.now in
    let old = c.args.seen.now in
    let e = c.in_ok-error-in-Err.error in
    let f : FaultPlace = record { path = step_after h.name old.names ∷ []; place = c.args.place; error = e } in
    λ size. of_known (g.S.ByteSource.contents reader.source) _ _ c.in-Err.ensures.answer (λ bytes refused t.
    let cut = payload-cut h.size reader.position bytes c.requires.size (cause_of e)
    (fault-read (g.S.ByteSource.can_refuse reader.source) c.in-Err.refusal e _ c.in_ok-error-in-Err.ensures refused) in
    subst (λ (n : NextBox). SaysNext size bytes c.args.place old old c.read_box.new.self.position n) {x = Faulty f}
    (sym c.in_ok-fault_of_box-in-Err.ensures)
    (past-the-bytes size bytes c.args.place reader.position h c.requires.size t f old.names c.requires.is_read cut.1
    cut.0 refl refl))
