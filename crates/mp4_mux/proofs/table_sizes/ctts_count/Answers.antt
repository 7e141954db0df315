use Rattle.std.proofs.Common.{◌∙◌, ap, sym}
use Rattle.std.specs.Ordering.{int_eq}
use Rattle.mp4_table.specs.Runs.{changes}
use Rattle.mp4_mux.specs.SampleTables.{same_offset, ctts_run}
use Rattle.mp4_mux.proofs.RunTableLaws.{changes-map, length-runs_of}
use Rattle.mp4_mux.proofs.table_sizes.ctts_count.Goals as goal

pub returns : goal.returns
returns c =
    c.run_count.ensures
    ∙ ap (changes int_eq) c.rendering_offsets.ensures
    ∙ changes-map int_eq (λ s. s.rendering_offset) c.args.samples.now
    ∙ sym (length-runs_of same_offset ctts_run c.args.samples.now)
