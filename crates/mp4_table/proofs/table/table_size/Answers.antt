use Rattle.std.proofs.Common.{arith}
use Rattle.mp4_table.specs.TableLaws.{length-table}
use Rattle.mp4_table.proofs.table.table_size.Goals as goal

pub returns : goal.returns
returns g c =
    rw (length-table g.T.Entry.encoded c.args.version c.args.flags c.args.entries.now)
    (omega (arith, c.saturating_add.ensures, c.list_size.ensures))
