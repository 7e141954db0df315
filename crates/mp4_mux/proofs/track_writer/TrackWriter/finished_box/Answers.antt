use Rattle.mp4_mux.specs.TrackFields.{fields_of}
use Rattle.mp4_mux.proofs.FinishedTracks.{have_room}
use Rattle.mp4_mux.proofs.track_writer.TrackWriter.finished_box.Goals as goal

pub trak_box-requires : goal.trak_box-requires
trak_box-requires c =
    rw (c.parts.ensures.samples, c.as_slice.ensures.value, c.in_ok-chunks.ensures, ← c.self.view_is)
    (have_room (fields_of c.self.inside) c.self.invariant c.args.offset)
