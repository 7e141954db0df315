use Rattle.std.proofs.Common.{ap, ◌∙◌}
use Rattle.mp4_script.specs.Lines.{lines_left}
use Rattle.mp4_script.proofs.Cutting.{cut_line, whole_line}
use Rattle.mp4_script.proofs.lines.Lines.next_line.Goals as goal

pub returns-then-end-text-clause-line : goal.returns-then-end-text-clause-line
returns-then-end-text-clause-line c =
    ap (λ rest. lines_left (record { rest = rest })) c.in_ok-text.was
    ∙ cut_line c.in_ok-text.text.now c.line_length-end.result c.line_length-end.ensures c.if-end-text.true

pub returns-else-end-text-clause-line : goal.returns-else-end-text-clause-line
returns-else-end-text-clause-line c =
    ap (λ rest. lines_left (record { rest = rest })) c.in_ok-text.was
    ∙ whole_line c.in_ok-text.text.now c.line_length-end.result c.line_length-end.ensures c.if-end-text.false
