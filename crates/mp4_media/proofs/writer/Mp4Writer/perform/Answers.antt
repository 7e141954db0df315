use Rattle.std.proofs.Common.{refl}
use Rattle.mp4_samples.specs.Samples.{sample_of}
use Rattle.mp4_mux.specs.Calls.{add_track, write_sample}
use Rattle.mp4_media.proofs.Performing.{still_opens}
use Rattle.mp4_media.proofs.writer.Mp4Writer.perform.Goals as goal

pub returns-in-AddTrack-clause-opens : goal.returns-in-AddTrack-clause-opens
returns-in-AddTrack-clause-opens c =
    still_opens c.args.self.now c.add_track.new.self (add_track c.in-AddTrack.config) c.add_track.result refl
    c.add_track.ensures.cause c.add_track.ensures.ok c.add_track.ensures.err

pub returns-in-WriteSample-clause-opens : goal.returns-in-WriteSample-clause-opens
returns-in-WriteSample-clause-opens c =
    still_opens c.args.self.now c.write_sample.new.self
    (write_sample c.in-WriteSample.id (sample_of c.in-WriteSample.sample)) c.write_sample.result refl
    c.write_sample.ensures.cause c.write_sample.ensures.ok c.write_sample.ensures.err
