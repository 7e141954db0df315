use Rattle.std.proofs.Common.{nat_eq, refl, eq-eqb}
use Rattle.std.specs.Ordering.{int_eq}
use Rattle.std.proofs.lemmas.Cmp.{int_eq_equiv}
use Rattle.mp4_table.specs.declared.stts.SttsEntry.{SttsEntry}
use Rattle.mp4_table.specs.declared.ctts.CttsEntry.{CttsEntry}
use Rattle.mp4_table.proofs.Changes.{changes-expand}
use Rattle.mp4_table.proofs.laws.runs_are_no_fewer_than_changes.Goals as goal

pub returns : goal.returns
returns c = record {
  durations = changes-expand nat_eq (λ x. eq-eqb x x refl) (λ (r : SttsEntry). r.sample_count)
      (λ (r : SttsEntry). r.sample_delta);
  rendering_offsets =
      changes-expand int_eq int_eq_equiv.refl (λ (r : CttsEntry). r.sample_count) (λ (r : CttsEntry). r.sample_offset);
}
