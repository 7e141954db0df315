-- A sample is refused where its bytes aren't whole, or by the writer.
use Rattle.mp4_c.proofs.Refusals.{refused_by}
use Rattle.mp4_c.proofs.written.add_sample.Goals as goal

pub returns-in-Ok-clause-added : goal.returns-in-Ok-clause-added
returns-in-Ok-clause-added g c = λ st h. rw c.in_ok-sample.ensures.sample at (c.in-Ok.ensures.ok st h)

pub returns-in-Err-clause-cause : goal.returns-in-Err-clause-cause
returns-in-Err-clause-cause g c =
    rw (c.refusal_in.ensures, c.in_ok-sample.ensures.fault) (λ st h. refused_by _ _ c.in-Err.error
    (rw c.in_ok-sample.ensures.sample at (c.in-Err.ensures.cause st h)))
