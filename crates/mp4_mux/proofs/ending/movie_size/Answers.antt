use Rattle.std.proofs.Common.{◌≡◌, ◌≤◌, ◌<◌, ◌+◌, List, ℕ, length, take, get_or, fold, max, sym, ap, ap₂}
use Rattle.std.proofs.Common.{◌∙◌, arith}
use Rattle.std.specs.List.{sum_by}
use Rattle.std.proofs.lemmas.List.{length-append, take_all}
use Rattle.std.proofs.lemmas.List.Sums.{sum_by_more}
use Rattle.mp4_boxes.specs.Trak.{trak_payload}
use Rattle.mp4_mux.specs.TrackHeaders.{FinishedTrack, header_length}
use Rattle.mp4_mux.specs.FinishedTrack.{trak_for}
use Rattle.mp4_mux.proofs.MovieLaws.{length-movie_for}
use Rattle.mp4_mux.specs.Chunks.{sample_bytes}
use Rattle.mp4_mux.specs.Building.{Building}
use Rattle.mp4_mux.specs.Parts.{unwritten, finished_building, finished_buildings}
use Rattle.mp4_mux.proofs.Movies.{length-finished, get_or-finished, unwritten-more, durations-finished, header-small}
use Rattle.mp4_mux.proofs.ending.movie_size.Goals as goal

pub loop-i-init : goal.loop-i-init
unfolding unwritten
loop-i-init c =
    let header = c.mvhd_size-size.ensures ∙ ap (header_length 108) c.longest.ensures in
    record {
      size = omega (arith, header, c.mvhd_size-size.ensures, header-small c.longest.result);
      place = omega (arith, c.ranges.end.fits);
    }

pub loop-i-preserved : goal.loop-i-preserved
loop-i-preserved c =
    let bs = c.args.tracks.now in
    let i = c.loop-i.i in
    let b = c.index-tracks-i.result in
    let m = c.args.timescale in
    let all = finished_buildings 1 c.args.end bs in
    let place = c.args.end + length (unwritten (take i bs)) in
    let t = finished_building (i + 1) place b in
    let within = c.loop-i-test.true in
    let there : i < length all = omega (arith, within, length-finished 1 c.args.end bs) in
    let at : 1 + i ≡ i + 1 = omega arith in
    let is : get_or all i t ≡ t =
    get_or-finished 1 c.args.end i bs t b within
    ∙ ap (λ n. finished_building n place (get_or bs i b)) at
    ∙ ap (finished_building (i + 1) place) (sym c.index-tracks-i.is) in
    let clock : b.movie_timescale ≡ m =
    ap (λ (x : Building). x.movie_timescale) c.index-tracks-i.is ∙ c.requires.clocks i b within in
    let size = λ (f : FinishedTrack). 8 + length (trak_payload (trak_for m f)) in
    let one : c.finished_size.result ≡ size (get_or all i t) =
    c.finished_size.ensures.value place c.loop-i.invariant.place
    ∙ ap₂ (λ (k : ℕ) (f : FinishedTrack). 8 + length (trak_payload (trak_for k f))) clock (sym is) in
    record {
      size = omega (
        arith,
        c.saturating_add-size.ensures,
        one,
        c.loop-i.invariant.size,
        sum_by_more size all i t there,
      );
      place = omega (
        arith,
        c.saturating_add-place.ensures,
        c.loop-i.invariant.place,
        ap length (unwritten-more bs i b within),
        length-append (unwritten (take i bs)) (sample_bytes (get_or bs i b).pending),
        ap length c.pending_bytes.ensures,
        ap (λ (x : Building). length (sample_bytes x.pending)) c.index-tracks-i.is,
      );
    }

pub returns : goal.returns
returns c =
    let bs = c.args.tracks.now in
    let m = c.args.timescale in
    let all = finished_buildings 1 c.args.end bs in
    let done : length all ≤ c.loop-i.i = omega (arith, c.loop-i-test.false, length-finished 1 c.args.end bs) in
    let size = λ (f : FinishedTrack). 8 + length (trak_payload (trak_for m f)) in
    omega (
      arith,
      c.loop-i.invariant.size,
      ap (sum_by size) (take_all c.loop-i.i all done),
      length-movie_for m all,
      ap (λ (ns : List ℕ). header_length 108 (fold max 0 ns)) (durations-finished m 1 c.args.end bs c.requires.clocks),
    )
