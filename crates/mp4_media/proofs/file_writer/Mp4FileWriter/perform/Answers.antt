use Rattle.mp4_media.proofs.WritingToSinks.{for_more}
use Rattle.mp4_media.proofs.file_writer.Mp4FileWriter.perform.Goals as goal

pub returns-in-AddTrack-clause-cause : goal.returns-in-AddTrack-clause-cause
returns-in-AddTrack-clause-cause g c =
    rw c.in-AddTrack.is (λ st h.
    for_more _ _ _ c.add_track.result (λ never. absurd never) (c.add_track.ensures.cause st h))

pub returns-in-WriteSample-clause-cause : goal.returns-in-WriteSample-clause-cause
returns-in-WriteSample-clause-cause g c =
    rw c.in-WriteSample.is (λ st h. for_more _ _ _ c.write_sample.result (λ can small. can)
    (rw c.lent.ensures at (c.write_sample.ensures.cause st h)))

pub returns-in-WriteEnd-clause-cause : goal.returns-in-WriteEnd-clause-cause
returns-in-WriteEnd-clause-cause g c = rw c.in-WriteEnd.is c.write_end.ensures.cause
