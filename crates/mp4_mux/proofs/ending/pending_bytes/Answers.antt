use Rattle.std.proofs.Common.{◌++◌, List, ℕ, sym, ap, ap₂, ◌∙◌}
use Rattle.mp4_mux.specs.Chunks.{sample_bytes}
use Rattle.mp4_mux.specs.Building.{Building}
use Rattle.mp4_mux.specs.Parts.{unwritten}
use Rattle.mp4_mux.proofs.Movies.{unwritten-more}
use Rattle.mp4_mux.proofs.ending.pending_bytes.Goals as goal

pub loop-i-init : goal.loop-i-init
unfolding unwritten
loop-i-init c = c.new-bytes.ensures.items

pub loop-i-preserved : goal.loop-i-preserved
loop-i-preserved c =
    c.in_ok-extend_from_slice.ensures.items
    ∙ ap₂ (λ (xs ys : List ℕ). xs ++ ys) c.loop-i.invariant
    (c.pending_bytes.ensures ∙ ap (λ (b : Building). sample_bytes b.pending) c.index-tracks-i.is)
    ∙ sym (unwritten-more c.args.tracks.now c.loop-i.i c.index-tracks-i.result c.loop-i-test.true)
