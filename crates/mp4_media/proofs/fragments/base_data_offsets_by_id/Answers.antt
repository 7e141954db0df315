use Rattle.std.proofs.Common.{◌+◌, ◌++◌, drop, get_or, sym, ap, append_assoc, ◌∙◌}
use Rattle.std.proofs.lemmas.List.{append-nil}
use Rattle.mp4_fragments.specs.BaseDataOffsets.{base_data_offsets_of}
use Rattle.mp4_media.specs.MovieTracks.{base_data_offsets_at, defaults_at, own_base_data_offsets}
use Rattle.mp4_media.specs.MovieTracks.{track_base_data_offsets}
use Rattle.mp4_media.proofs.BaseDataOffsetsByTrack.{more_base_data_offsets, no_more_base_data_offsets}
use Rattle.mp4_media.proofs.fragments.base_data_offsets_by_id.Goals as goal

pub loop-i-preserved : goal.loop-i-preserved
loop-i-preserved c = λ id.
    let defaults = defaults_at c.args.defaults.now in
    let moofs = c.args.moofs.now in
    let places = c.args.places.now in
    let i = c.loop-i.i in
    let m = c.index-moofs-i.result in
    let kept = base_data_offsets_at c.loop-i.base_data_offsets id in
    let own = own_base_data_offsets id m.trafs (base_data_offsets_of defaults (get_or places i 0) m.trafs) in
    let rest = track_base_data_offsets defaults (drop (i + 1) moofs) (drop (i + 1) places) id in
    ap (λ xs. xs ++ rest) (rw c.as_slice.ensures at (c.in_ok-add_base_data_offsets.ensures id))
    ∙ append_assoc kept own rest
    ∙ ap (λ xs. kept ++ xs)
    (sym (more_base_data_offsets defaults moofs places i m 0 id c.loop-i-test.true c.requires c.index-moofs-i.is))
    ∙ c.loop-i.invariant id

pub returns : goal.returns
returns c = λ id.
    let defaults = defaults_at c.args.defaults.now in
    let i = c.loop-i.i in
    let kept = base_data_offsets_at c.loop-i.base_data_offsets id in
    sym (append-nil kept)
    ∙ ap (λ xs. kept ++ xs)
    (sym (no_more_base_data_offsets defaults c.args.moofs.now (drop i c.args.places.now) i id c.loop-i-test.false))
    ∙ c.loop-i.invariant id
