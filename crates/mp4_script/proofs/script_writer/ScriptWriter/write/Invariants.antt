use Rattle.std.proofs.Common.{◌≡◌, ◌<◌, ◌-◌, ◌^◌, ◌++◌, ℕ, List, length}
use Rattle.mp4_media.specs.Writing.{WriterState}
use Rattle.mp4_script.specs.ScriptSink.{IsAfter}
use Rattle.mp4_script.proofs.ScriptParts.{GoesOn}
use Rattle.mp4_script.proofs.script_writer.ScriptWriter.write.Given as goal

abbrev pub decreases-loop-line : goal.decreases-loop-line
decreases-loop-line g l = length l.rest

abbrev pub invariant-loop-line : goal.invariant-loop-line
invariant-loop-line g l = record {
  goes_on : (script : List ℕ) (st : WriterState) → IsAfter script st l.fn.self.writer l.fn.self.lines l.fn.self.line.items
      → length (script ++ l.part) < 2 ^ 64 - 1
      → GoesOn (script ++ l.part) st l.self.writer l.self.lines l.self.line.items l.rest;
  can_refuse : l.self.writer.media.can_refuse ≡ l.fn.self.writer.media.can_refuse;
}
