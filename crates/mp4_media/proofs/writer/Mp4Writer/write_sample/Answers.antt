use Rattle.std.proofs.Common.{◌∙◌, sym}
use Rattle.mp4_media.proofs.WritingToSinks.{mp4_alone, never_true, same_cause}
use Rattle.mp4_media.proofs.writer.Mp4Writer.write_sample.Goals as goal

pub in_memory-requires : goal.in_memory-requires
in_memory-requires c =
    mp4_alone _ _ c.write_sample-answer.result
    (never_true _ (sym c.write_sample-answer.ensures.can_refuse ∙ c.bytes.ensures.sure))
    (c.write_sample-answer.ensures.cause _ c.self.invariant)

pub returns-clause-cause : goal.returns-clause-cause
returns-clause-cause c =
    rw (← c.self.view_is, ← c.lent.ensures) (same_cause _ _ c.write_sample-answer.result c.in_memory.result
    c.in_memory.ensures (c.write_sample-answer.ensures.cause _ c.self.invariant))
