use Rattle.std.proofs.Common.{◌≡◌, refl, sym, subst, List, ◌∙◌, ap, ◌++◌}
use Rattle.mp4_codec.specs.Cause.{cause_of}
use Rattle.mp4_faults.specs.declared.fault_place.PathStep.{PathStep}
use Rattle.mp4_faults.specs.Inner.{inner}
use Rattle.mp4_faults.specs.Innermost.{IsInnermost}
use Rattle.mp4_faults.specs.BoxFault.{alone}
use Rattle.mp4_faults.proofs.box_fault.first_fault_in.Goals as goal

pub returns : goal.returns
returns c =
    let refused = sym (rw c.in-Some.is at c.in_ok-error.ensures) in
    let answer = c.in_ok-innermost.ensures.answer (cause_of c.in-Some.error) refused in
    let same : answer.0 ≡ c.innermost_fault.new.path =
    sym (answer.2 ∙ ap (λ (p : List PathStep). p ++ answer.0) c.new-path.ensures) in
    record {
      refused = refused;
      innermost = inner c.in_ok-innermost.innermost;
      leads = subst (λ (p : List PathStep). IsInnermost (cause_of c.in-Some.error)
          (alone c.args.name c.args.payload.now) p (inner c.in_ok-innermost.innermost)) same answer.1;
      place = refl;
    }
