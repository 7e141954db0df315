use Rattle.std.proofs.Common.{◌∙◌, ap, sym, nat_eq}
use Rattle.mp4_table.specs.Runs.{changes}
use Rattle.mp4_mux.specs.SampleTables.{same_duration, stts_run}
use Rattle.mp4_mux.proofs.RunTableLaws.{changes-map, length-runs_of}
use Rattle.mp4_mux.proofs.table_sizes.stts_count.Goals as goal

pub returns : goal.returns
returns c =
    c.run_count.ensures
    ∙ ap (changes nat_eq) c.durations.ensures
    ∙ changes-map nat_eq (λ s. s.duration) c.args.samples.now
    ∙ sym (length-runs_of same_duration stts_run c.args.samples.now)
