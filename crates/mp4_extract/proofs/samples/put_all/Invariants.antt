use Rattle.std.proofs.Common.{◌≤◌, length, take}
use Rattle.std.specs.Io.KnownBytes.{Appends}
use Rattle.mp4_extract.proofs.samples.put_all.Given as goal

abbrev pub invariant-loop : goal.invariant-loop
invariant-loop g l =
    (l.written ≤ length l.bytes)
    × (Appends (g.W.Write.contents l.fn.out) (g.W.Write.contents l.out) (take l.written l.bytes))
