use Rattle.std.proofs.Common.{◌≡◌, IfOk, subst, ◌∙◌, ap, nat_eq}
use Rattle.mp4_mux.specs.SampleTables.{runs_of}
use Rattle.mp4_mux.specs.ColumnTables.{stts_entry}
use Rattle.mp4_mux.proofs.ColumnTableLaws.{runs_of-map}
use Rattle.mp4_mux.proofs.tables.stts_entries.Goals as goal

pub returns : goal.returns
returns c =
    subst (λ xs. IfOk c.runs.result (λ r. r.items ≡ xs))
    (ap (runs_of nat_eq stts_entry) c.durations.ensures
    ∙ runs_of-map nat_eq stts_entry (λ s. s.duration) c.args.samples.now)
    c.runs.ensures
