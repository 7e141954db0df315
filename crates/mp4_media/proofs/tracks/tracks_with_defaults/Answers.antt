use Rattle.std.proofs.Common.{◌≡◌, drop, length, sym, ap, subst, ◌∙◌, arith}
use Rattle.std.proofs.lemmas.List.{drop_all}
use Rattle.mp4_fragments.specs.Fragments.{placed_runs}
use Rattle.mp4_lookup.specs.Tracks.{movie_end}
use Rattle.mp4_media.specs.MovieTracks.{base_data_offsets_at, default_duration, defaults_at, movie_defaults}
use Rattle.mp4_media.proofs.BaseDataOffsetsByTrack.{length-track_base_data_offsets, same_track_base_data_offsets}
use Rattle.mp4_media.proofs.Gathering.{Made, made-none, made-all, made-passes, made-takes, box_before, own_fragments}
use Rattle.mp4_media.proofs.tracks.tracks_with_defaults.Goals as goal

pub loop-index-init : goal.loop-index-init
loop-index-init c =
    let traks = c.as_slice-traks.result.now in
    subst (λ ts. Made c.args.moov.now c.args.moofs.now c.args.places.now ts c.in_ok-tracks.tracks
    c.in_ok-fragments.fragments)
    (sym (drop_all (length traks) traks (omega arith)))
    (made-none c.args.moov.now c.args.moofs.now c.args.places.now c.in_ok-tracks.tracks c.in_ok-fragments.fragments
    c.in_ok-tracks.ensures.empty c.in_ok-fragments.ensures.all)

pub taken_track-requires-clause-base_data_offsets : goal.taken_track-requires-clause-base_data_offsets
taken_track-requires-clause-base_data_offsets c =
    let id = c.index-traks-index.result.tkhd.track_id in
    ap length (c.in_ok-base_data_offsets.ensures id)
    ∙ length-track_base_data_offsets (defaults_at c.args.defaults.now)
    c.args.moofs.now c.args.places.now id c.requires.places
    ∙ sym (ap length (own_fragments c.args.moov.now c.args.moofs.now c.args.places.now c.index-traks-index.result
    (drop c.loop-index.index c.as_slice-traks.result.now) c.loop-index.tracks c.loop-index.fragments
    c.loop-index.invariant (sym c.if-not-has_track.ensures)))

pub loop-index-preserved : goal.loop-index-preserved
loop-index-preserved c =
    let traks = c.as_slice-traks.result.now in
    let i = c.loop-index.index in
    subst (λ ts. Made c.args.moov.now c.args.moofs.now c.args.places.now ts c.loop-index.tracks c.loop-index.fragments)
    (sym (box_before traks i c.index-traks-index.result c.loop-index-test.true c.loop-index.auto.index
    c.index-traks-index.is))
    (made-passes c.args.moov.now c.args.moofs.now c.args.places.now c.index-traks-index.result (drop i traks)
    c.loop-index.tracks c.loop-index.fragments c.loop-index.invariant (sym c.if-not-has_track.ensures))

pub loop-index-preserved-in_ok-insert-2 : goal.loop-index-preserved-in_ok-insert-2
loop-index-preserved-in_ok-insert-2 c =
    let moov = c.args.moov.now in
    let moofs = c.args.moofs.now in
    let places = c.args.places.now in
    let traks = c.as_slice-traks.result.now in
    let i = c.loop-index.index in
    let t = c.index-traks-index.result in
    let id = t.tkhd.track_id in
    let track = c.in_ok-track.track in
    let defaults = defaults_at c.args.defaults.now id in
    let base_data_offsets = base_data_offsets_at c.in_ok-base_data_offsets.base_data_offsets id in
    subst (λ ts. Made moov moofs places ts c.insert.new.self c.taken_track.new.fragments)
    (sym (box_before traks i t c.loop-index-test.true c.loop-index.auto.index c.index-traks-index.is))
    (made-takes moov moofs places t (drop i traks) c.loop-index.tracks c.loop-index.fragments
    c.loop-index.invariant track c.insert.new.self c.taken_track.new.fragments (sym c.if-not-has_track.ensures)
    c.in_ok-track.ensures.trak c.in_ok-track.ensures.trafs defaults (c.requires.defaults id) base_data_offsets
    (c.in_ok-base_data_offsets.ensures id
    ∙ same_track_base_data_offsets (defaults_at c.args.defaults.now)
    (movie_defaults moov) c.requires.defaults moofs places id)
    (c.in_ok-track.ensures.duration
    ∙ ap (λ xs. default_duration xs defaults) (sym c.in_ok-track.ensures.trafs))
    (c.in_ok-track.ensures.runs
    ∙ ap (λ xs. placed_runs defaults (movie_end t) xs base_data_offsets) (sym c.in_ok-track.ensures.trafs))
    c.in_ok-insert.ensures.updates.0 c.in_ok-track.ensures.taken)

pub returns-clause-tracks : goal.returns-clause-tracks
returns-clause-tracks c =
    let traks = c.as_slice-traks.result.now in
    let ended : c.loop-index.index ≡ 0 = omega (arith, c.loop-index-test.false) in
    made-all c.args.moov.now c.args.moofs.now c.args.places.now (drop c.loop-index.index traks) c.loop-index.tracks
    c.loop-index.fragments c.loop-index.invariant (ap (λ i. drop i traks) ended ∙ c.as_slice-traks.ensures)
