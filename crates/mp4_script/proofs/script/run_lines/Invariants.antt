use Rattle.std.proofs.Common.{◌≡◌, ◌+◌, length, take, drop, Ok}
use Rattle.std.specs.List.{AllByRecursion}
use Rattle.mp4_media.specs.Calls.{IsInRangeCall}
use Rattle.mp4_script.specs.Lines.{lines_of, lines_left}
use Rattle.mp4_script.specs.Script.{calls_in, run_from}
use Rattle.mp4_script.proofs.script.run_lines.Given as goal

abbrev pub decreases-loop-line : goal.decreases-loop-line
decreases-loop-line l = length (lines_left l.lines)

-- so many lines were run, and have made the writer what it is
abbrev pub invariant-loop-line : goal.invariant-loop-line
invariant-loop-line l = record {
  numbered : l.number + length (lines_left l.lines) ≡ length (lines_of l.script);
  left : drop l.number (lines_of l.script) ≡ lines_left l.lines;
  ran : run_from 1 (take l.number (lines_of l.script)) l.fn.writer ≡ Ok l.writer;
  fits : AllByRecursion IsInRangeCall (calls_in (take l.number (lines_of l.script)));
}
