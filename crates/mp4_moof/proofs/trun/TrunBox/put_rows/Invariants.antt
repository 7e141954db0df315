use Rattle.std.specs.List.{flat_map}
use Rattle.mp4_codec.specs.Bytes.{Appends}
use Rattle.mp4_moof.specs.Rows.{row, rows}
use Rattle.mp4_moof.specs.Trun.{columns_of}
use Rattle.mp4_moof.proofs.trun.TrunBox.put_rows.Given as goal

abbrev pub invariant-loop-k : goal.invariant-loop-k
invariant-loop-k l = Appends l.fn.out.items l.out.items (flat_map row (rows (columns_of l.self) l.k))
