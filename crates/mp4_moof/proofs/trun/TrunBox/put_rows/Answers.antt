use Rattle.mp4_moof.specs.Trun.{columns_of}
use Rattle.mp4_moof.proofs.RowLoop.{one_row_more, no_rows_yet}
use Rattle.mp4_moof.proofs.trun.TrunBox.put_rows.Goals as goal

pub loop-k-init : goal.loop-k-init
loop-k-init c = no_rows_yet (columns_of c.args.self.now) c.args.out.now.items

pub loop-k-preserved : goal.loop-k-preserved
loop-k-preserved c =
    one_row_more (columns_of c.args.self.now) c.loop-k.k c.row.result _ _ _ c.row.ensures c.loop-k.invariant
    c.in_ok-put.ensures
