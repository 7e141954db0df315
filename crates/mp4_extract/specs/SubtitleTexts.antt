-- Subtitles as texts: as SRT, and as lines.
use Rattle.std.specs.Prelude.{ℕ, ◌+◌, ◌/◌, ◌%◌, ◌==◌, if◌then◌else◌, nat_lt, List, [], ◌∷◌, ◌++◌, length}
use Rattle.std.specs.Prelude.{codes, decimal, encode_utf8, string_bytes}
use Rattle.std.specs.Char.{is_control}
use Rattle.std.specs.List.{flat_map, slice_split}
use Rattle.std.specs.Str.{byte, chars, trim}
use Rattle.mp4_extract.specs.declared.text_track.Subtitle.{Subtitle}

-- the last decimal digit of a number, and its last two
abbrev pub last_digit : ℕ → ℕ
last_digit n = 48 + n % 10

abbrev pub two_digits : ℕ → List ℕ
two_digits n = last_digit (n / 10) ∷ last_digit n ∷ []

-- hours in two decimal digits, or in more where they have more
unfoldable pub hours_of : ℕ → List ℕ
hours_of n = if nat_lt n 10 then 48 ∷ decimal n else decimal n

-- a time in milliseconds as HH:MM:SS and three digits of milliseconds, with a mark before these
unfoldable pub clock_of : ℕ → ℕ → List ℕ
clock_of mark time =
    hours_of (time / 3600000)
    ++ (codes ":" ++ two_digits (time / 60000 % 60) ++ codes ":" ++ two_digits (time / 1000 % 60)
    ++ mark ∷ last_digit (time % 1000 / 100) ∷ two_digits (time % 1000))

-- a character as it is written: a control character, as NUL, is a full stop
abbrev pub visible : ℕ → ℕ
visible c = if is_control c then 46 else c

-- a text, each control character as a full stop
unfoldable pub visible_text : List ℕ → List ℕ
visible_text text = flat_map (λ c. encode_utf8 (visible c)) (chars text)

-- a part of a line between two texts; nothing of a part of white space alone
unfoldable pub part_text : List ℕ → List ℕ → List ℕ → List ℕ
part_text before after part =
    if length (trim part) == 0 then [] else before ++ visible_text part ++ after

-- what a line holds between its CR, part by part
unfoldable pub line_text : List ℕ → List ℕ → List ℕ → List ℕ
line_text before after line = flat_map (part_text before after) (slice_split (λ b. b == 13) line)

-- a text, whose lines end at LF and at CR, each line that isn't white space alone between two texts
unfoldable pub lines_text : List ℕ → List ℕ → List ℕ → List ℕ
lines_text before after text = flat_map (line_text before after) (slice_split (λ b. b == 10) text)

-- from when to when a subtitle is shown
unfoldable pub times_text : ℕ → List ℕ → Subtitle → List ℕ
times_text mark between t = clock_of mark t.from ++ between ++ clock_of mark t.to

-- A subtitle as SRT: its number, its times, the lines of its text that aren't white space alone, and an empty line.
unfoldable pub srt_of : ℕ → Subtitle → List ℕ
srt_of number t =
    decimal number ++ codes "\n" ++ times_text (byte ",") (codes " --> ") t ++ codes "\n"
    ++ lines_text [] (codes "\n") (string_bytes t.text) ++ codes "\n"

-- A subtitle as a line: its times, and the lines of its text that aren't white space alone, each after a space.
unfoldable pub line_of : Subtitle → List ℕ
line_of t = times_text (byte ".") (codes " - ") t ++ lines_text (codes " ") [] (string_bytes t.text) ++ codes "\n"
