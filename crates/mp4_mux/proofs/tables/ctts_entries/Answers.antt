use Rattle.std.proofs.Common.{◌≡◌, IfOk, subst, ◌∙◌, ap}
use Rattle.std.specs.Ordering.{int_eq}
use Rattle.mp4_mux.specs.SampleTables.{runs_of}
use Rattle.mp4_mux.specs.ColumnTables.{ctts_entry}
use Rattle.mp4_mux.proofs.ColumnTableLaws.{runs_of-map}
use Rattle.mp4_mux.proofs.tables.ctts_entries.Goals as goal

pub returns : goal.returns
returns c =
    subst (λ xs. IfOk c.runs.result (λ r. r.items ≡ xs))
    (ap (runs_of int_eq ctts_entry) c.rendering_offsets.ensures
    ∙ runs_of-map int_eq ctts_entry (λ s. s.rendering_offset) c.args.samples.now)
    c.runs.ensures
