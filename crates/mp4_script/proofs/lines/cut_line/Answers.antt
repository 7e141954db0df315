use Rattle.mp4_script.proofs.Cutting.{cut_line, whole_line}
use Rattle.mp4_script.proofs.lines.cut_line.Goals as goal

pub returns-then-end-text-clause-parts : goal.returns-then-end-text-clause-parts
returns-then-end-text-clause-parts c =
    cut_line c.args.text.now c.line_length-end.result c.line_length-end.ensures c.if-end-text.true

pub returns-clause-last : goal.returns-clause-last
returns-clause-last c =
    whole_line c.args.text.now c.line_length-end.result c.line_length-end.ensures c.if-end-text.false
