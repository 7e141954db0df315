-- Each turn adds one track more.
use Rattle.mp4_codec.specs.Cause.{cause_of}
use Rattle.mp4_c.proofs.Refusals.{refused_track}
use Rattle.mp4_c.proofs.Writing.{all_tracks, no_tracks, tracks_next}
use Rattle.mp4_c.proofs.written.add_tracks.Goals as goal

pub loop-k-init : goal.loop-k-init
loop-k-init g c = λ st h. (st, no_tracks c.args.source.now c.args.tracks.now st, h)

pub loop-k-preserved : goal.loop-k-preserved
loop-k-preserved g c = λ st h.
    let now = c.loop-k.invariant st h in
    let next = c.in-Ok.ensures.added now.0 now.2 in
    let has = tracks_next c.args.source.now c.args.tracks.now st now.0 next.0 c.loop-k.k _ c.loop-k-test.true now.1
    next.1 in
    (next.0, has, next.2)

pub returns-clause-added : goal.returns-clause-added
returns-clause-added g c = λ st h.
    let now = c.loop-k.invariant st h in
    (now.0, all_tracks c.args.source.now c.args.tracks.now st now.0 c.loop-k.k c.loop-k-test.false now.1, now.2)

pub returns-in-Err-clause-refused : goal.returns-in-Err-clause-refused
returns-in-Err-clause-refused g c = λ st h.
    let now = c.loop-k.invariant st h in
    refused_track c.args.source.now c.args.tracks.now st now.0 c.loop-k.k _ (cause_of c.in-Err.error)
    c.loop-k-test.true now.1 (c.in-Err.ensures.refused now.0 now.2)
