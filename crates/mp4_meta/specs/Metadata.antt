-- What metadata says of a work.
use Rattle.std.specs.Prelude.{◌+◌, ◌-◌, ◌*◌, ◌^◌, ◌==◌, nat_lt, ℕ, List, [], ◌∷◌, length, Option, Some, None}
use Rattle.std.specs.Prelude.{if◌then◌else◌}
use Rattle.std.specs.Int.{w32, from_be_bytes}
use Rattle.std.specs.Option.{option_map}
use Rattle.std.specs.Str.{encode_utf8_all, all_ascii_digits}
use Rattle.bstr.specs.Utf8.{lossy_chars}
use Rattle.mp4_leaf.specs.declared.data.DataBox.{DataBox}
use Rattle.mp4_leaf.specs.declared.data.DataType.{DataType}
use Rattle.mp4_leaf.specs.declared.data.DataType.TheVariants.{Binary, Text}
use Rattle.mp4_meta.specs.declared.metadata_key.MetadataKey.TheVariants.{Title, Year, Poster, Summary}
use Rattle.mp4_meta.specs.declared.ilst.IlstItemBox.{IlstItemBox}
use Rattle.mp4_meta.specs.Ilst.{Held, item_at}

-- the text of an item, in UTF-8, with U+FFFD for what is no character
unfoldable pub text_of : IlstItemBox → List ℕ
text_of i = encode_utf8_all (lossy_chars i.item.bytes)

-- the text of the title, and that of the summary
abbrev pub title_of : Held → Option (List ℕ)
title_of held = option_map text_of (item_at Title held)

abbrev pub summary_of : Held → Option (List ℕ)
summary_of held = option_map text_of (item_at Summary held)

-- the bytes of the picture
abbrev pub poster_of : Held → Option (List ℕ)
poster_of held = option_map (λ i. i.item.bytes) (item_at Poster held)

-- four bytes are a number, the highest first
abbrev pub number_in : List ℕ → Option ℕ
number_in bytes = if length bytes == 4 then Some (from_be_bytes w32 bytes) else None

-- a text without the plus that it may begin with
abbrev pub without_plus : List ℕ → List ℕ
without_plus [] = []
without_plus (c ∷ cs) = if c == 43 then cs else c ∷ cs

-- the number that decimal digits write, each by the weight of its place
abbrev pub decimal_value : List ℕ → ℕ
decimal_value [] = 0
decimal_value (c ∷ cs) = (c - 48) * 10 ^ length cs + decimal_value cs

-- one or more decimal digits, and nothing else, are a number, where it has 32 bits
unfoldable pub numeral : List ℕ → Option ℕ
numeral ds =
    if length ds == 0 then None else
    if all_ascii_digits ds then (if nat_lt (decimal_value ds) (2 ^ 32) then Some (decimal_value ds) else None) else
    None

-- the number that a text writes, after a plus or without one
abbrev pub year_in_text : List ℕ → Option ℕ
year_in_text bytes = numeral (without_plus bytes)

-- the year that a value says, by its data type
abbrev pub year_by : DataType → List ℕ → Option ℕ
year_by Binary bytes = number_in bytes
year_by Text bytes = year_in_text bytes
year_by other bytes = None

abbrev pub year_in : DataBox → Option ℕ
year_in value = year_by value.data_type value.bytes

abbrev pub year_held : Option IlstItemBox → Option ℕ
year_held None = None
year_held (Some i) = year_in i.item

-- the year that the year's item says
abbrev pub year_of : Held → Option ℕ
year_of held = year_held (item_at Year held)
