use Rattle.std.proofs.Common.{◌≡◌, Some, sym, ap, ◌∙◌, arith}
use Rattle.mp4_moof.specs.declared.trun.TrunBox.{TrunBox}
use Rattle.mp4_fragments.specs.Fragments.{with_run}
use Rattle.mp4_fragments.proofs.Walking.{Walks-more, Walks-whole}
use Rattle.mp4_fragments.proofs.placing.add_runs.Goals as goal

pub loop-i-preserved : goal.loop-i-preserved
loop-i-preserved c =
    let run = c.index-runs-i.result in
    Walks-more _ (λ find. find c.args.t c.loop-i.i ≡ Some (run, c.args.defaults))
    (with_run c.args.base_data_offset c.args.defaults) c.args.runs.now c.loop-i.i run _ _ _ _ _ _ (omega arith)
    c.index-runs-i.is
    (λ find k. k.run c.loop-i.i run (omega arith) ∙ ap (λ (r : TrunBox). Some (r, c.args.defaults))
    (sym c.index-runs-i.is))
    c.loop-i.invariant
    c.in_ok-at.ensures

pub returns : goal.returns
returns c = Walks-whole _ _ c.args.runs.now c.loop-i.i _ _ _ _ (omega arith) c.loop-i.invariant
