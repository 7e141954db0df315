use Rattle.std.proofs.Common.{◌≡◌, true, false, refl, sym, ◌∙◌}
use Rattle.mp4_fragments.specs.Fragments.{has_run_samples}
use Rattle.mp4_fragments.proofs.Walking.{Walks-traf}
use Rattle.mp4_fragments.proofs.placing.add_traf.Goals as goal

pub returns-then-any_run_samples : goal.returns-then-any_run_samples
returns-then-any_run_samples c =
    let yes : has_run_samples c.args.traf.now ≡ true = sym c.any_run_samples.ensures ∙ c.if-any_run_samples.true in
    Walks-traf c.args.track c.args.traf.now c.args.base_data_offset c.args.t c.args.at c.in_ok-last.last _ _ _
    c.traf_time.result c.in_traf-defaults.result c.as_slice-runs.result.now
    c.traf_time.ensures c.in_traf-defaults.ensures c.as_slice-runs.ensures (rw yes refl) c.in_ok-last.ensures

pub returns-else-any_run_samples : goal.returns-else-any_run_samples
returns-else-any_run_samples c =
    let none : has_run_samples c.args.traf.now ≡ false = sym c.any_run_samples.ensures ∙ c.if-any_run_samples.false in
    Walks-traf c.args.track c.args.traf.now c.args.base_data_offset c.args.t c.args.at c.in_ok-last.last _ _ _
    c.traf_time.result c.in_traf-defaults.result c.as_slice-runs.result.now
    c.traf_time.ensures c.in_traf-defaults.ensures c.as_slice-runs.ensures (rw none refl) c.in_ok-last.ensures
