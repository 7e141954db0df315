-- A text is cut at its first line feed.
use Rattle.std.proofs.Common.{◌≡◌, ℕ, ◌+◌, ◌-◌, ◌<◌, ◌≤◌, Bool, true, false, cond, eqb, not, List, [], ◌∷◌, length}
use Rattle.std.proofs.Common.{take, drop, refl, sym, ap, ◌∙◌, arith, length-drop}
use Rattle.std.specs.List.{position_or_len, slice_split, onto_first}
use Rattle.std.proofs.lemmas.List.{take_all}
use Rattle.std.proofs.lemmas.List.Sums.{prefix_len-le-length, count_by-le-length, position_or_len_is}
use Rattle.memchr.specs.Find.{Nowhere, NoneBefore, Passes}
use Rattle.std.proofs.lemmas.List.Splits.{slice_split_first, slice_split-cons_no, length-slice_split}
use Rattle.mp4_script.specs.Lines.{lines_of}

abbrev pub is_feed : ℕ → Bool
is_feed byte = eqb byte 10

never_true : (b : Bool) → (b ≡ true → ⊥) → b ≡ false
never_true true never = absurd (never refl)
never_true false never = refl

-- the first place that holds a line feed is the length of the first line
pub first_feed : (text : List ℕ) (place : ℕ) → NoneBefore (Passes is_feed text) 0 (length text) place
    → Passes is_feed text place → place ≡ position_or_len is_feed text
first_feed text place h feed =
    sym (position_or_len_is is_feed text place 0 (omega (arith, h.high))
    (λ k l. never_true _ (h.before k (omega arith) l)) (λ l. feed))

-- without one the text is the first line
pub no_feed : (text : List ℕ) → Nowhere (Passes is_feed text) 0 (length text)
    → length text ≡ position_or_len is_feed text
no_feed text none =
    sym (position_or_len_is is_feed text (length text) 0 (omega arith) (λ k l. never_true _ (none k (omega arith) l))
    (λ l. absurd (omega (arith, l))))

-- what is before a line feed is a line, and what is after it are the others
pub cut_line : (text : List ℕ) (end : ℕ) → end ≡ position_or_len is_feed text → end < length text
    → lines_of text ≡ take end text ∷ lines_of (take (length text - (end + 1)) (drop (end + 1) text))
unfolding lines_of
cut_line text end is within =
    let others = drop (end + 1) text in
    let all : length others ≤ length text - (end + 1) = omega (arith, length-drop (end + 1) text) in
    let rest_is : take (length text - (end + 1)) others ≡ others = take_all (length text - (end + 1)) others all in
    slice_split_first is_feed text 0 (omega (arith, is)) ∙ rw (← is, rest_is) refl

one_byte_more : (byte : ℕ) (bytes : List ℕ) (b : Bool) → is_feed byte ≡ b
    → cond (not b) (1 + position_or_len is_feed bytes) 0 ≡ length (byte ∷ bytes)
    → (position_or_len is_feed bytes ≡ length bytes → slice_split is_feed bytes ≡ bytes ∷ [])
    → slice_split is_feed (byte ∷ bytes) ≡ (byte ∷ bytes) ∷ []
one_byte_more byte bytes true is h others = absurd (omega (arith, h))
one_byte_more byte bytes false is h others =
    slice_split-cons_no is_feed byte bytes is
    ∙ ap (onto_first byte) (others (omega (arith, h)))

last-line : (text : List ℕ) → position_or_len is_feed text ≡ length text → slice_split is_feed text ≡ text ∷ []
last-line [] e = refl
last-line (byte ∷ bytes) e = one_byte_more byte bytes (is_feed byte) refl e (last-line bytes)

-- a text without a line feed is one line
pub whole_line : (text : List ℕ) (end : ℕ) → end ≡ position_or_len is_feed text → length text ≤ end
    → lines_of text ≡ text ∷ []
unfolding lines_of
whole_line text end is past =
    let within = prefix_len-le-length (λ byte. not (is_feed byte)) text in
    last-line text (omega (arith, is, past, within))

-- a text has at most one line more than bytes
pub count-lines : (text : List ℕ) → length (lines_of text) ≤ length text + 1
unfolding lines_of
count-lines text = omega (arith, length-slice_split is_feed text, count_by-le-length is_feed text)
