-- A text that is cut into lines part by part.
use Rattle.std.proofs.Common.{◌≡◌, ℕ, ◌≤◌, Bool, true, false, List, [], ◌∷◌, ◌++◌, length, refl, sym, ap, ◌∙◌, arith}
use Rattle.std.proofs.Common.{append-nil, length-append}
use Rattle.std.specs.List.{slice_split, onto_first}
use Rattle.std.proofs.lemmas.List.{append_cancel_left}
use Rattle.std.proofs.lemmas.List.Splits.{slice_split-cons_yes, slice_split-cons_no, length-slice_split}
use Rattle.mp4_script.specs.Lines.{lines_of}
use Rattle.mp4_script.proofs.Cutting.{is_feed}

abbrev cut : List ℕ → List (List ℕ)
cut text = slice_split is_feed text

first : List (List ℕ) → List ℕ
first [] = []
first (line ∷ lines) = line

others : List (List ℕ) → List (List ℕ)
others [] = []
others (line ∷ lines) = lines

bytes_after : List ℕ → List ℕ
bytes_after [] = []
bytes_after (byte ∷ bytes) = bytes

some_line : (text : List ℕ) → cut text ≡ [] → ⊥
some_line text none = omega (arith, ap length none, length-slice_split is_feed text)

-- What the lines of a text and more are, if they are known of the text without its first byte.
module _ (byte : ℕ) (text more : List ℕ)
    (rest : (lines : List (List ℕ)) (kept : List ℕ) → cut text ≡ lines ++ kept ∷ []
    → cut (text ++ more) ≡ lines ++ cut (kept ++ more))
  where
    after_feed : is_feed byte ≡ true → (lines : List (List ℕ)) (kept : List ℕ)
        → [] ∷ cut text ≡ lines ++ kept ∷ [] → cut (byte ∷ text ++ more) ≡ lines ++ cut (kept ++ more)
    unfolding first others
    after_feed feed [] kept is = absurd (some_line text (ap others is))
    after_feed feed (line ∷ lines) kept is =
        let empty : [] ≡ line = ap first is in
        slice_split-cons_yes is_feed byte (text ++ more) feed
        ∙ ap (λ (ls : List (List ℕ)). [] ∷ ls) (rest lines kept (ap others is))
        ∙ ap (λ (l : List ℕ). l ∷ lines ++ cut (kept ++ more)) empty

    after_other : is_feed byte ≡ false → (ls lines : List (List ℕ)) (kept : List ℕ) → cut text ≡ ls
        → onto_first byte ls ≡ lines ++ kept ∷ [] → cut (byte ∷ text ++ more) ≡ lines ++ cut (kept ++ more)
    unfolding first others
    after_other other [] lines kept none is = absurd (some_line text none)
    after_other other (l ∷ ls) [] kept lines_are is =
        let one : cut text ≡ l ∷ [] = lines_are ∙ ap (λ (xs : List (List ℕ)). l ∷ xs) (ap others is) in
        slice_split-cons_no is_feed byte (text ++ more) other
        ∙ ap (onto_first byte) (rest [] l one)
        ∙ sym (slice_split-cons_no is_feed byte (l ++ more) other)
        ∙ ap (λ (k : List ℕ). cut (k ++ more)) (ap first is)
    after_other other (l ∷ ls) (line ∷ lines) kept lines_are is =
        let same : cut text ≡ (l ∷ lines) ++ kept ∷ [] =
        lines_are ∙ ap (λ (xs : List (List ℕ)). l ∷ xs) (ap others is) in
        slice_split-cons_no is_feed byte (text ++ more) other
        ∙ ap (onto_first byte) (rest (l ∷ lines) kept same)
        ∙ ap (λ (x : List ℕ). x ∷ lines ++ cut (kept ++ more)) (ap first is)

    one_byte_more : (b : Bool) → is_feed byte ≡ b → (lines : List (List ℕ)) (kept : List ℕ)
        → cut (byte ∷ text) ≡ lines ++ kept ∷ [] → cut (byte ∷ text ++ more) ≡ lines ++ cut (kept ++ more)
    one_byte_more true feed lines kept is =
        after_feed feed lines kept (sym (slice_split-cons_yes is_feed byte text feed) ∙ is)
    one_byte_more false other lines kept is =
        after_other other (cut text) lines kept refl (sym (slice_split-cons_no is_feed byte text other) ∙ is)

goes_on : (text more : List ℕ) (lines : List (List ℕ)) (kept : List ℕ) → cut text ≡ lines ++ kept ∷ []
    → cut (text ++ more) ≡ lines ++ cut (kept ++ more)
unfolding first
goes_on [] more [] kept is = ap (λ (k : List ℕ). cut (k ++ more)) (ap first is)
goes_on [] more (line ∷ lines) kept is = absurd (omega (arith, ap length is, length-append lines (kept ∷ [])))
goes_on (byte ∷ text) more lines kept is =
    one_byte_more byte text more (goes_on text more) (is_feed byte) refl lines kept is

-- The lines of a text that goes on are those that end in it, and then those of what is after the last line feed and the
-- rest.
pub lines_go_on : (text more : List ℕ) (lines : List (List ℕ)) (kept : List ℕ) → lines_of text ≡ lines ++ kept ∷ []
    → lines_of (text ++ more) ≡ lines ++ lines_of (kept ++ more)
unfolding lines_of
lines_go_on text more lines kept is = goes_on text more lines kept is

-- what is after the last line feed has none
pub is_unended : (text : List ℕ) (lines : List (List ℕ)) (kept : List ℕ) → lines_of text ≡ lines ++ kept ∷ []
    → lines_of kept ≡ kept ∷ []
is_unended text lines kept is =
    let whole : text ++ [] ≡ text = append-nil text in
    let same : kept ++ [] ≡ kept = append-nil kept in
    let both : lines ++ kept ∷ [] ≡ lines ++ lines_of kept =
    sym is ∙ ap lines_of (sym whole) ∙ lines_go_on text [] lines kept is
    ∙ ap (λ (k : List ℕ). lines ++ lines_of k) same in
    sym (append_cancel_left lines (kept ∷ []) (lines_of kept) both)

-- The first line of what begins so.
module _ (byte : ℕ) (kept text line : List ℕ) (lines : List (List ℕ))
    (rest : cut kept ≡ kept ∷ [] → cut (kept ++ text) ≡ (kept ++ line) ∷ lines)
  where
    joined_by : is_feed byte ≡ false → (ls : List (List ℕ)) → cut kept ≡ ls
        → onto_first byte ls ≡ (byte ∷ kept) ∷ [] → cut (byte ∷ kept ++ text) ≡ (byte ∷ kept ++ line) ∷ lines
    unfolding first others bytes_after
    joined_by other [] none is = absurd (some_line kept none)
    joined_by other (l ∷ ls) lines_are is =
        let one : l ≡ kept = ap bytes_after (ap first is) in
        let alone : cut kept ≡ kept ∷ [] =
        lines_are ∙ ap (λ (xs : List (List ℕ)). l ∷ xs) (ap others is) ∙ ap (λ (x : List ℕ). x ∷ []) one in
        slice_split-cons_no is_feed byte (kept ++ text) other ∙ ap (onto_first byte) (rest alone)

    joined : (b : Bool) → is_feed byte ≡ b → cut (byte ∷ kept) ≡ (byte ∷ kept) ∷ []
        → cut (byte ∷ kept ++ text) ≡ (byte ∷ kept ++ line) ∷ lines
    unfolding first
    joined true feed is =
        let empty : [] ≡ byte ∷ kept = ap first (sym (slice_split-cons_yes is_feed byte kept feed) ∙ is) in
        absurd (omega (arith, ap length empty))
    joined false other is = joined_by other (cut kept) refl (sym (slice_split-cons_no is_feed byte kept other) ∙ is)

first_joins : (kept text line : List ℕ) (lines : List (List ℕ)) → cut kept ≡ kept ∷ [] → cut text ≡ line ∷ lines
    → cut (kept ++ text) ≡ (kept ++ line) ∷ lines
first_joins [] text line lines unended is = is
first_joins (byte ∷ kept) text line lines unended is =
    joined byte kept text line lines (λ alone. first_joins kept text line lines alone is) (is_feed byte) refl unended

-- what begins a line is its front
pub first_line_joins : (kept text line : List ℕ) (lines : List (List ℕ)) → lines_of kept ≡ kept ∷ []
    → lines_of text ≡ line ∷ lines → lines_of (kept ++ text) ≡ (kept ++ line) ∷ lines
unfolding lines_of
first_line_joins kept text line lines unended is = first_joins kept text line lines unended is

-- each text has a line
pub some-lines : (text : List ℕ) → 1 ≤ length (lines_of text)
unfolding lines_of
some-lines text = omega (arith, length-slice_split is_feed text)
