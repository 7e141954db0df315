use Rattle.std.proofs.Common.{sym, arith}
use Rattle.mp4_lookup.proofs.Steps.{begins_chunk_after, chunk_same}
use Rattle.mp4_lookup.proofs.located.chunk_by.Goals as goal

pub returns-clause-samples : goal.returns-clause-samples
returns-clause-samples c = λ n from to.
    let same = chunk_same c.args.stbl.now c.args.entry.now c.args.k n c.in_ok-number.number c.in-Some.offset
    c.requires.to c.requires.some c.in_ok-number.ensures.chunk (sym c.in-Some.ensures) from
    (omega (arith, to, c.min-end.ensures, c.from.ensures, c.from-2.ensures)) in
    (same.0, omega (arith, to, c.min-end.ensures), same.1)

pub returns-clause-after : goal.returns-clause-after
returns-clause-after c = λ more.
    begins_chunk_after c.args.entry.now c.args.k c.in_ok-number.number _ c.requires.to c.requires.some
    c.in_ok-number.ensures.chunk (omega (arith, more, c.min-end.ensures, c.from.ensures, c.from-2.ensures))
