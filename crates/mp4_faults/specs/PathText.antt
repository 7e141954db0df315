-- Paths to boxes as text.
use Rattle.std.specs.Prelude.{ℕ, Bool, true, false, ◌&&◌, ◌||◌, ◌==◌, if◌then◌else◌, nat_le, nat_lt, List, [], ◌++◌}
use Rattle.std.specs.Prelude.{codes, decimal, encode_utf8}
use Rattle.std.specs.List.{flat_map, join_by}
use Rattle.mp4_codec.specs.declared.box_type.BoxType.{BoxType}
use Rattle.mp4_codec.specs.declared.box_type.BoxType.TheVariants.{TrakBox, TrexBox, MoofBox, TrafBox, TrunBox, EmsgBox}
use Rattle.mp4_codec.specs.BoxType.{code_of}
use Rattle.mp4_codec.specs.Bytes.{coded}
use Rattle.mp4_faults.specs.declared.fault_place.BoxPath.{BoxPath}
use Rattle.mp4_faults.specs.declared.fault_place.PathStep.{PathStep}

-- types of which a container usually holds several
abbrev pub are_several : BoxType → Bool
are_several TrakBox = true
are_several TrexBox = true
are_several MoofBox = true
are_several TrafBox = true
are_several TrunBox = true
are_several EmsgBox = true
are_several other = false

-- the number of a step is written for these types, and for another where the box isn't the first
abbrev pub is_numbered : PathStep → Bool
is_numbered step = are_several step.name || nat_lt 1 step.number

-- the steps of a path
abbrev pub steps_of : BoxPath → List PathStep
steps_of path = path.steps.now

-- a byte of a code as a character: one that is neither visible, nor a space, nor ©, is a full stop
abbrev pub visible_byte : ℕ → ℕ
visible_byte b = if (nat_le 0x20 b && nat_le b 0x7e) || b == 0xa9 then b else 46

-- the four bytes of a type as text
unfoldable pub type_text : BoxType → List ℕ
type_text name = flat_map (λ b. encode_utf8 (visible_byte b)) (coded (code_of name)).value

-- a step as text: its type, and its number in brackets where that is written
unfoldable pub step_text : PathStep → List ℕ
step_text step =
    type_text step.name ++ (if is_numbered step then codes "[" ++ (decimal step.number ++ codes "]") else [])

-- a path as text: its steps, with a slash between two
unfoldable pub path_text : List PathStep → List ℕ
path_text steps = join_by step_text (codes "/") steps
