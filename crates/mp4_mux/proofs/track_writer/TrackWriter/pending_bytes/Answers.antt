use Rattle.std.proofs.Common.{◌∙◌, sym, drop}
use Rattle.mp4_mux.proofs.SampleLaws.{bytes-samples_in}
use Rattle.mp4_mux.proofs.track_writer.TrackWriter.pending_bytes.Goals as goal

pub returns : goal.returns
returns c =
    rw (← c.self.view_is)
    (c.as_slice.ensures.value
    ∙ sym (bytes-samples_in (drop c.self.inside.closed c.self.inside.samples) c.self.inside.pending.items
    c.self.invariant.sizes))
