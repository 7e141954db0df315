use Rattle.std.proofs.Common.{sym, subst}
use Rattle.mp4_mux.specs.Writing.{with_end}
use Rattle.mp4_mux.specs.Written.{IsWrittenMovie}
use Rattle.mp4_media.specs.Finished.{Opens}
use Rattle.mp4_media.specs.WriterFields.{known_state}
use Rattle.mp4_media.proofs.WritingToSinks.{mp4_alone, never_true, ok_both, only_state, same_cause}
use Rattle.mp4_media.proofs.writer.Mp4Writer.write_end.Goals as goal

pub in_memory-requires : goal.in_memory-requires
in_memory-requires c =
    mp4_alone _ _ c.write_end-answer.result
    (λ may. never_true _ c.bytes.ensures.sure (may c.bytes.ensures.small))
    (c.write_end-answer.ensures.cause _ c.self.invariant)

pub returns-clause-cause : goal.returns-clause-cause
returns-clause-cause c =
    rw (← c.self.view_is) (same_cause _ _ c.write_end-answer.result c.in_memory.result c.in_memory.ensures
    (c.write_end-answer.ensures.cause _ c.self.invariant))

pub returns-clause-opens : goal.returns-clause-opens
returns-clause-opens c =
    let before = known_state c.self.inside.inner in
    ok_both c.write_end-answer.result c.in_memory.result c.in_memory.ensures c.write_end-answer.ensures.ok
    c.write_end-answer.ensures.opens (λ ok opens. subst Opens
    (sym (only_state c.write_end-answer.new.self _ c.bytes-2.ensures.bytes (with_end before)
    (ok before c.self.invariant)))
    (opens before c.self.invariant))

pub returns-clause-written : goal.returns-clause-written
returns-clause-written c =
    let before = known_state c.self.inside.inner in
    ok_both c.write_end-answer.result c.in_memory.result c.in_memory.ensures c.write_end-answer.ensures.ok
    c.write_end-answer.ensures.written (λ ok written. subst IsWrittenMovie
    (sym (only_state c.write_end-answer.new.self _ c.bytes-2.ensures.bytes (with_end before)
    (ok before c.self.invariant)))
    (written before c.self.invariant))
