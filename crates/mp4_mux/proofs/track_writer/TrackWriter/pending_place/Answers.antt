use Rattle.mp4_mux.specs.TrackFields.{fields_of}
use Rattle.mp4_mux.proofs.TrackLemmas.{place_is}
use Rattle.mp4_mux.proofs.track_writer.TrackWriter.pending_place.Goals as goal

pub returns : goal.returns
returns c =
    rw (← c.self.view_is)
    (place_is (fields_of c.self.inside) c.self.invariant c.args.offset c.len.result
    c.len.ensures)
