use Rattle.std.proofs.Common.{◌≡◌, ◌∙◌, ap, sym}
use Rattle.mp4_table.specs.Stsz.{stsz_refusal}
use Rattle.mp4_table.specs.declared.stsz.StszBox.{StszBox}
use Rattle.mp4_mux.specs.SampleTables.{stsz_for}
use Rattle.mp4_remux.proofs.TableLaws.{sizes_listed}
use Rattle.mp4_remux.proofs.table_boxes.put_stsz.Goals as goal

pub put_table-requires : goal.put_table-requires
put_table-requires c =
    let is : stsz_for c.args.samples.now ≡ c.in_ok-table.table = cc c.in_ok-table.ensures in
    ap (λ (b : StszBox). stsz_refusal b) (sym is) ∙ sizes_listed c.args.samples.now
