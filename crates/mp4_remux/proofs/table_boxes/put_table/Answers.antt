use Rattle.std.proofs.Common.{◌∙◌, Err, ap}
use Rattle.std.proofs.lemmas.Result.{err_from_is_err_and}
use Rattle.mp4_codec.specs.declared.error.Error.{Error}
use Rattle.mp4_remux.proofs.BoxLaws.{has_room, no_room}
use Rattle.mp4_remux.proofs.table_boxes.put_table.Goals as goal

pub returns-in_err-write_box-clause-refused : goal.returns-in_err-write_box-clause-refused
returns-in_err-write_box-clause-refused g c =
    let p = err_from_is_err_and c.from_residual.result c.from_residual.ensures.1 in
    rw (p.1 ∙ ap (λ (e : Error). Err e) p.2)
    (no_room g.B.Mp4Box.KIND (g.B.Mp4Box.payload c.args.table.now) (g.B.WriteBox.refusal c.args.table.now)
    c.in_err-write_box.field-0.0 c.requires c.in_err-write_box.ensures.cause)

pub returns-clause-fits : goal.returns-clause-fits
returns-clause-fits g c =
    has_room g.B.Mp4Box.KIND (g.B.Mp4Box.payload c.args.table.now) (g.B.WriteBox.refusal c.args.table.now)
    c.in_ok-write_box.field-0 c.in_ok-write_box.ensures.cause
