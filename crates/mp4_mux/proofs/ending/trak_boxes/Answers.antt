use Rattle.std.proofs.Common.{◌≡◌, ◌≤◌, ◌<◌, ◌+◌, ◌++◌, ◌∷◌, [], List, ℕ, length, map, take, get_or, sym, ap, ap₂, ◌∙◌}
use Rattle.std.proofs.Common.{arith, Ok}
use Rattle.std.proofs.lemmas.List.{length-append, take_more, take_all, map-append}
use Rattle.mp4_codec.specs.Steps.{ok_is}
use Rattle.mp4_boxes.specs.declared.trak.TrakBox.{TrakBox}
use Rattle.mp4_mux.specs.TrackHeaders.{FinishedTrack}
use Rattle.mp4_mux.specs.FinishedTrack.{trak_for}
use Rattle.mp4_mux.specs.Chunks.{sample_bytes}
use Rattle.mp4_mux.specs.Building.{Building}
use Rattle.mp4_mux.specs.Parts.{unwritten, finished_building, finished_buildings}
use Rattle.mp4_mux.proofs.Movies.{length-finished, get_or-finished, unwritten-more, unwritten-take_le}
use Rattle.mp4_mux.proofs.ending.trak_boxes.Goals as goal

pub loop-i-init : goal.loop-i-init
unfolding unwritten
loop-i-init c = record { boxes = c.in_ok-boxes.ensures.items; place = omega arith }

pub overflow_add-place : goal.overflow_add-place
overflow_add-place c =
    let bs = c.args.tracks.now in
    let i = c.loop-i.i in
    let b = c.index-tracks-i.result in
    omega (
      arith,
      c.loop-i.invariant.place,
      c.requires.room,
      ap length (unwritten-more bs i b c.loop-i-test.true),
      length-append (unwritten (take i bs)) (sample_bytes (get_or bs i b).pending),
      ap length c.pending_bytes.ensures,
      ap (λ (x : Building). length (sample_bytes x.pending)) c.index-tracks-i.is,
      unwritten-take_le (i + 1) bs,
    )

pub loop-i-preserved : goal.loop-i-preserved
loop-i-preserved c =
    let bs = c.args.tracks.now in
    let i = c.loop-i.i in
    let b = c.index-tracks-i.result in
    let all = finished_buildings 1 c.args.end bs in
    let t = finished_building (i + 1) c.loop-i.place b in
    let within = c.loop-i-test.true in
    let there : i < length all = omega (arith, within, length-finished 1 c.args.end bs) in
    let at : 1 + i ≡ i + 1 = omega arith in
    let is : get_or all i t ≡ t =
    get_or-finished 1 c.args.end i bs t b within
    ∙ ap₂ (λ n p. finished_building n p (get_or bs i b)) at (sym c.loop-i.invariant.place)
    ∙ ap (finished_building (i + 1) c.loop-i.place) (sym c.index-tracks-i.is) in
    let clock = c.requires.clocks i b within in
    record {
      boxes = c.in_ok-push.ensures.items
          ∙ ap₂ (λ (xs : List TrakBox) (x : TrakBox). xs ++ x ∷ []) c.loop-i.invariant.boxes
          (sym (ok_is _ _ c.in_ok-finished_box.ensures)
          ∙ ap (λ (x : Building). trak_for x.movie_timescale t) c.index-tracks-i.is
          ∙ ap₂ (λ (m : ℕ) (f : FinishedTrack). trak_for m f) clock (sym is))
          ∙ sym (ap (map (trak_for c.args.timescale)) (take_more all i t there)
          ∙ map-append (trak_for c.args.timescale) (take i all) (get_or all i t ∷ []));
      place = omega (
        arith,
        c.loop-i.invariant.place,
        ap length (unwritten-more bs i b within),
        length-append (unwritten (take i bs)) (sample_bytes (get_or bs i b).pending),
        ap length c.pending_bytes.ensures,
        ap (λ (x : Building). length (sample_bytes x.pending)) c.index-tracks-i.is,
      );
    }

pub returns : goal.returns
returns c =
    let all = finished_buildings 1 c.args.end c.args.tracks.now in
    let done : length all ≤ c.loop-i.i =
    omega (arith, c.loop-i-test.false, length-finished 1 c.args.end c.args.tracks.now) in
    ap Ok (sym (c.loop-i.invariant.boxes ∙ ap (map (trak_for c.args.timescale)) (take_all c.loop-i.i all done)))
