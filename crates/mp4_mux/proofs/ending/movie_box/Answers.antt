use Rattle.std.proofs.Common.{List, ℕ, fold, max, sym, ap, ap₂, ◌∙◌, Ok}
use Rattle.mp4_codec.specs.Steps.{ok_is}
use Rattle.mp4_leaf.specs.declared.mvhd.MvhdBox.{MvhdBox}
use Rattle.mp4_boxes.specs.declared.trak.TrakBox.{TrakBox}
use Rattle.mp4_boxes.specs.Moov.{default_moov}
use Rattle.mp4_mux.specs.TrackHeaders.{mvhd_for}
use Rattle.mp4_mux.specs.FinishedTrack.{movie_for}
use Rattle.mp4_mux.proofs.Movies.{durations-finished}
use Rattle.mp4_mux.proofs.ending.movie_box.Goals as goal

pub returns : goal.returns
unfolding movie_for
returns c =
    let duration = c.longest.ensures
    ∙ ap (λ (ns : List ℕ). fold max 0 ns)
    (durations-finished c.args.timescale 1 c.args.end c.args.tracks.now c.requires.clocks) in
    let header = c.mvhd_box.ensures ∙ ap (mvhd_for c.args.timescale) duration in
    let traks = c.from.ensures ∙ sym (ok_is _ _ c.in_ok-traks.ensures) in
    ap Ok (ap₂ (λ (h : MvhdBox) (ts : List TrakBox). record default_moov { mvhd = h; traks = ts }) (sym header)
    (sym traks))
