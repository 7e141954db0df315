use Rattle.std.proofs.Common.{◌≡◌, ap, arith, Ok, None, Some, Option}
use Rattle.mp4_table.specs.declared.stss.StssBox.{StssBox}
use Rattle.mp4_mux.specs.SampleTables.{stss_for}
use Rattle.mp4_remux.proofs.TableLaws.{all_there, none_there, some_there}
use Rattle.mp4_remux.proofs.table_boxes.some_stss.Goals as goal

pub returns-in_default : goal.returns-in_default
returns-in_default c =
    let is : stss_for c.args.samples.now ≡ None = cc (c.in_ok-table.ensures, c.in_default.is) in
    ap (λ (o : Option StssBox). Ok o) (none_there c.args.samples.now is)

pub returns-then-len : goal.returns-then-len
returns-then-len c =
    let is : stss_for c.args.samples.now ≡ Some c.in-Some.table = cc (c.in_ok-table.ensures, c.in-Some.is) in
    ap (λ (o : Option StssBox). Ok o) (some_there c.args.samples.now c.in-Some.table is
    (omega arith))

pub returns : goal.returns
returns c =
    let is : stss_for c.args.samples.now ≡ Some c.in-Some.table = cc (c.in_ok-table.ensures, c.in-Some.is) in
    ap (λ (o : Option StssBox). Ok o) (all_there c.args.samples.now c.in-Some.table is (omega arith))
