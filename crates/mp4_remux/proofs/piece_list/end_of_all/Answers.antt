use Rattle.std.proofs.Common.{arith, sym}
use Rattle.mp4_remux.proofs.Pieces.{last_end, none_end}
use Rattle.mp4_remux.proofs.piece_list.end_of_all.Goals as goal

pub returns-in-Some : goal.returns-in-Some
returns-in-Some c = λ source_len made_len end small f.
    let there = rw c.in-Some.is at c.last.ensures.value in
    let ends = last_end source_len made_len c.args.pieces.now end c.in-Some.last.now (sym there) f in
    omega (arith, ends, c.saturating_add.ensures)

pub returns-in-None : goal.returns-in-None
returns-in-None c = λ source_len made_len end small f.
    let there = rw c.in-None.is at c.last.ensures.value in
    sym (none_end source_len made_len c.args.pieces.now end (sym there) f)
