use Rattle.std.proofs.Common.{◌≡◌, length, drop}
use Rattle.mp4_mux.specs.TrackFields.{fields_of}
use Rattle.mp4_mux.proofs.SampleLaws.{bytes-samples_in}
use Rattle.mp4_mux.proofs.TrackLemmas.{is_track-close, view-close}
use Rattle.mp4_mux.proofs.track_writer.TrackWriter.write_chunk.Goals as goal

pub invariant_of-self-2 : goal.invariant_of-self-2
invariant_of-self-2 g c =
    let all : c.len-self-inside.result ≡ length c.self.inside.samples = c.len-self-inside.ensures in
    rw (c.in_ok-push.ensures.items, c.clear.ensures.items, all)
    (is_track-close (fields_of c.self.inside) c.self.invariant c.pending_place-place.result
    (rw (← c.self.view_is) at c.requires) c.len.result (rw (← c.self.view_is) at c.pending_place-place.ensures))

pub returns-clause-track : goal.returns-clause-track
returns-clause-track g c =
    let all : c.len-self-inside.result ≡ length c.self.inside.samples = c.len-self-inside.ensures in
    rw (c.in_ok-push.ensures.items, c.clear.ensures.items, all, ← c.self.view_is, ← c.len.ensures)
    (view-close (fields_of c.self.inside) c.self.invariant c.pending_place-place.result
    (rw (← c.self.view_is) at c.requires) c.len.result (rw (← c.self.view_is) at c.pending_place-place.ensures))

pub returns-clause-bytes : goal.returns-clause-bytes
returns-clause-bytes g c =
    let bytes = bytes-samples_in (drop c.self.inside.closed c.self.inside.samples) c.self.inside.pending.items
    c.self.invariant.sizes in
    rw (← c.self.view_is, bytes, ← c.as_slice.ensures.value) c.in_default.ensures.bytes

pub returns-clause-len : goal.returns-clause-len
returns-clause-len g c =
    let bytes = bytes-samples_in (drop c.self.inside.closed c.self.inside.samples) c.self.inside.pending.items
    c.self.invariant.sizes in
    rw (← c.self.view_is, bytes, ← c.as_slice.ensures.value) c.in_default.ensures.len
