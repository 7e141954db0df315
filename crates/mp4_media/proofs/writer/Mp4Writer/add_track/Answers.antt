use Rattle.mp4_media.proofs.WritingToSinks.{mp4_alone, same_cause}
use Rattle.mp4_media.proofs.writer.Mp4Writer.add_track.Goals as goal

pub in_memory-requires : goal.in_memory-requires
in_memory-requires c =
    mp4_alone ⊥ _ c.add_track-answer.result (λ x. x) (c.add_track-answer.ensures.cause _ c.self.invariant)

pub returns-clause-cause : goal.returns-clause-cause
returns-clause-cause c =
    rw (← c.self.view_is) (same_cause ⊥ _ c.add_track-answer.result c.in_memory.result c.in_memory.ensures
    (c.add_track-answer.ensures.cause _ c.self.invariant))
