use Rattle.std.proofs.Common.{[]}
use Rattle.std.proofs.KnownBytes.{Keeps-refl}
use Rattle.std.specs.Io.KnownBytes.{Appends}
use Rattle.mp4_extract.proofs.Sinks.{front_kept, front_more, front_none, still_written}
use Rattle.mp4_extract.proofs.samples.put_all.Goals as goal
use Rattle.mp4_extract.proofs.samples.put_all.Goals.{in-Ok, in-Err+else-ne}

pub returns-in-Ok-eq0-clause-refused : goal.returns-in-Ok-eq0-clause-refused
returns-in-Ok-eq0-clause-refused g c =
    let none : Appends (g.W.Write.contents c.loop.out) (g.W.Write.contents c.write.new.self) [] =
    rw c.in-Ok-eq0.field-0-test at c.in-Ok-eq0.ensures.bytes in
    front_none c.args.bytes.now c.loop.written (g.W.Write.contents c.args.out.now) (g.W.Write.contents c.loop.out)
    (g.W.Write.contents c.write.new.self) c.loop.invariant.1 none

pub returns-then-ne-clause-refused : goal.returns-then-ne-clause-refused
returns-then-ne-clause-refused g c =
    front_kept c.args.bytes.now c.loop.written (g.W.Write.contents c.args.out.now) (g.W.Write.contents c.loop.out)
    (g.W.Write.contents c.write.new.self) c.loop.invariant.1 c.in-Err.ensures.bytes

pub loop-preserved : goal.loop-preserved
loop-preserved g c =
    elim c.match-write.branch [
      | in-Ok w ↦ front_more c.args.bytes.now c.loop.written (g.W.Write.contents c.args.out.now)
          (g.W.Write.contents c.loop.out) (g.W.Write.contents c.write.new.self) c.loop.invariant.1 w.in-Ok.n
          c.match-write.written w.written-is w.in-Ok.ensures.bound c.loop.invariant.0 w.in-Ok.ensures.bytes
      | in-Err+else-ne w ↦ still_written c.args.bytes.now c.loop.written (g.W.Write.contents c.args.out.now)
          (g.W.Write.contents c.loop.out) (g.W.Write.contents c.write.new.self) c.loop.invariant.1
          c.match-write.written w.written-is c.loop.invariant.0 w.in-Err.ensures.bytes
    ]

pub returns-clause-refused : goal.returns-clause-refused
returns-clause-refused g c =
    front_kept c.args.bytes.now c.loop.written (g.W.Write.contents c.args.out.now) (g.W.Write.contents c.loop.out)
    (g.W.Write.contents c.loop.out) c.loop.invariant.1 (Keeps-refl (g.W.Write.contents c.loop.out))
