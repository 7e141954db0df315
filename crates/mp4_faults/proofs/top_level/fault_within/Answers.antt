use Rattle.std.proofs.Common.{refl, ◌∙◌}
use Rattle.mp4_codec.specs.Cause.{cause_of}
use Rattle.mp4_faults.specs.Inner.{inner}
use Rattle.mp4_faults.proofs.top_level.fault_within.Goals as goal

pub returns : goal.returns
returns c =
    let answer = c.in_ok-innermost.ensures.answer (cause_of c.args.error) c.requires.refused in (
      _,
      refl,
      record {
        cause = refl;
        inward = answer.0;
        b = inner c.in_ok-innermost.innermost;
        innermost = answer.1;
        path = answer.2 ∙ rw (c.in_ok-push.ensures.ok, c.new-path.ensures, c.step_to.ensures, c.as_slice.ensures) refl;
        place = refl;
      },
    )
