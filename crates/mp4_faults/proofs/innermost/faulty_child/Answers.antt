use Rattle.mp4_faults.proofs.innermost.faulty_child.Goals as goal

pub returns-in-None-clause-answer : goal.returns-in-None-clause-answer
returns-in-None-clause-answer c = rw c.in-None.is at c.in_ok-first_refused.ensures.answer
