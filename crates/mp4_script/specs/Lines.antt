-- The lines of a text.
use Rattle.std.specs.Prelude.{ℕ, List, [], Some, None, ◌==◌}
use Rattle.std.specs.List.{slice_split}
use Rattle.mp4_script.specs.declared.lines.Lines.{Lines}

-- the lines of a text: it is cut at each line feed
unfoldable pub lines_of : List ℕ → List (List ℕ)
lines_of text = slice_split (λ byte. byte == 10) text

-- the lines that are still to be read
abbrev pub lines_left : Lines → List (List ℕ)
lines_left lines = elim lines.rest [ None ↦ [] | Some text ↦ lines_of text.now ]
