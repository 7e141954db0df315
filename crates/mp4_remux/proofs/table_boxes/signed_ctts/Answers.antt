use Rattle.std.proofs.Common.{◌≡◌, ap, refl, Ok, None, Some, Option}
use Rattle.mp4_table.specs.declared.ctts.CttsBox.{CttsBox}
use Rattle.mp4_mux.specs.SampleTables.{ctts_for}
use Rattle.mp4_remux.specs.TrackTables.{with_sign}
use Rattle.mp4_remux.proofs.TableLaws.{none_signed, some_signed}
use Rattle.mp4_remux.proofs.table_boxes.signed_ctts.Goals as goal

pub returns-in_default : goal.returns-in_default
returns-in_default c =
    let is : ctts_for c.args.samples.now ≡ None = cc (c.in_ok-table.ensures, c.in_default.is) in
    ap (λ (o : Option CttsBox). Ok o) (none_signed c.args.samples.now is)

pub returns : goal.returns
returns c =
    let is : ctts_for c.args.samples.now ≡ Some c.in-Some.table = cc (c.in_ok-table.ensures, c.in-Some.is) in
    let sign : c.ctts_version-version.result ≡ (with_sign c.in-Some.table).version =
    rw (c.ctts_version-version.ensures, c.as_slice.ensures) refl in
    ap (λ (o : Option CttsBox). Ok o)
    (some_signed c.args.samples.now c.in-Some.table c.ctts_version-version.result is sign)
