-- The bytes of a file with its movie box in front, as pieces make them.
use Rattle.std.proofs.Common.{◌≡◌, ◌∙◌, ℕ, ◌-◌, ◌≤◌, List, [], ◌++◌, length, take, drop, refl, sym, ap, arith}
use Rattle.std.proofs.Common.{append_assoc}
use Rattle.std.proofs.Common.{◌⊎◌, inl, inr, ◌+◌, ◌*◌, ◌^◌, ◌<◌, ◌∷◌, min, max, take_all, Option, None, Some, IfSome}
use Rattle.std.proofs.lemmas.List.{append-nil}
use Rattle.mp4_media.specs.FileGrammar.{between}
use Rattle.mp4_remux.specs.declared.piece.Piece.{Piece}
use Rattle.mp4_remux.specs.declared.top_level.TopBox.{TopBox}
use Rattle.mp4_remux.specs.declared.piece.Origin.{Origin}
use Rattle.mp4_remux.specs.declared.piece.Origin.TheVariants.{Kept, Made}
use Rattle.mp4_remux.specs.declared.layout.Layout.{Layout}
use Rattle.mp4_remux.specs.Front.{AreApart, in_front, IsMoved, IsMovieFirst, WritesFront, as_it_is, moved}
use Rattle.mp4_remux.specs.declared.made.Made.TheVariants.{Offsets}
use Rattle.mp4_remux.specs.Remuxed.{IsRemuxed, WritesRemuxed, ids_of}
use Rattle.std.proofs.Common.{Result, Ok, Err, OnOk, subst}
use Rattle.mp4_source.specs.Sink.{IsAppended}
use Rattle.mp4_media.specs.FileBoxes.{OpenedFile}
use Rattle.mp4_remux.specs.declared.error.RemuxError.{RemuxError}
use Rattle.mp4_remux.specs.Splice.{Follow, of_origin, piece_bytes, spliced}

-- five parts, one added after the other
pub five_parts : {A B C D E F : List ℕ} (a b c d e : List ℕ) → A ≡ [] → B ≡ A ++ a → C ≡ B ++ b → D ≡ C ++ c
    → E ≡ D ++ d → F ≡ E ++ e → F ≡ a ++ (b ++ (c ++ (d ++ e)))
five_parts a b c d e none one two three four five =
    five ∙ ap (λ (xs : List ℕ). xs ++ e) (four ∙ ap (λ (xs : List ℕ). xs ++ d) (three
    ∙ ap (λ (xs : List ℕ). xs ++ c) (two ∙ ap (λ (xs : List ℕ). xs ++ b) (one
    ∙ ap (λ (xs : List ℕ). xs ++ a) none))))
    ∙ append_assoc (((a ++ b) ++ c)) d e ∙ append_assoc (a ++ b) c (d ++ e) ∙ append_assoc a b (c ++ (d ++ e))

-- all bytes, from the first to the last
pub whole : (xs : List ℕ) (n : ℕ) → length xs ≡ n → take (n - 0) (drop 0 xs) ≡ xs
whole xs n e = take_all (n - 0) xs (omega (arith, e))

-- a piece more
pub spliced_more : (source made : List ℕ) (ps : List Piece) (p : Piece)
    → spliced source made (ps ++ p ∷ []) ≡ spliced source made ps ++ piece_bytes source made p
unfolding spliced
spliced_more source made [] p = append-nil (piece_bytes source made p)
spliced_more source made (q ∷ qs) p =
    ap (λ (xs : List ℕ). piece_bytes source made q ++ xs) (spliced_more source made qs p)
    ∙ sym (append_assoc (piece_bytes source made q) (spliced source made qs) (piece_bytes source made p))

-- no bytes more
pub nothing_more : (xs : List ℕ) (place end : ℕ) (ys : List ℕ) → end ≤ place → ys ≡ ys ++ between xs place end
nothing_more xs place end ys le =
    let none : end - place ≡ 0 = omega (arith, le) in
    sym (ap (λ n. ys ++ take n (drop place xs)) none ∙ append-nil ys)

five_same : {a b c d e f g h : List ℕ} (z : List ℕ) → a ≡ b → c ≡ d → e ≡ f → g ≡ h
    → z ++ (a ++ (c ++ (e ++ g))) ≡ z ++ (b ++ (d ++ (f ++ h)))
five_same z ab cd ef gh = rw (ab, cd, ef, gh) refl

-- the pieces of a file with its movie box in front have the bytes of that
pub front_bytes : {A B C D E F : List ℕ} (source made : List ℕ) (one other : TopBox)
    (first middle second after len made_len : ℕ) → first ≡ min one.place other.place → middle ≡ min one.end other.end
    → second ≡ max one.place other.place → after ≡ max one.end other.end → length source ≡ len → length made ≡ made_len
    → A ≡ [] → B ≡ A ++ between source one.place one.end → C ≡ B ++ between made 0 made_len
    → D ≡ C ++ between source 0 first → E ≡ D ++ between source middle second → F ≡ E ++ between source after len
    → F ≡ in_front source one other made
front_bytes source made one other first middle second after len made_len is_first is_middle is_second is_after long
    made_long none a b c d e =
    five_parts (between source one.place one.end) (between made 0 made_len) (between source 0 first)
    (between source middle second) (between source after len) none a b c d e
    ∙ five_same (between source one.place one.end) (whole made made_len made_long)
    (ap (λ n. between source 0 n) is_first)
    (ap (λ n. between source n second) is_middle
    ∙ ap (λ n. between source (min one.end other.end) n) is_second)
    (ap (λ n. between source n len) is_after ∙ ap (λ n. between source (max one.end other.end) n) (sym long))

-- no pieces have no bytes
pub no_pieces : (source made : List ℕ) (ps : List Piece) → ps ≡ [] → spliced source made ps ≡ []
unfolding spliced
no_pieces source made ps none = rw none refl

-- WHERE THE PIECES ARE

-- no pieces end where they begin
pub none_follow : (source_len made_len : ℕ) (ps : List Piece) → ps ≡ [] → Follow source_len made_len 0 ps 0
unfolding Follow
none_follow source_len made_len ps none = rw none refl

-- pieces with these bytes more follow each other where they did before
abbrev pub Pushes : List Piece → List Piece → Origin → ℕ → ℕ → Type 0
Pushes before after origin place end = (source_len made_len stop : ℕ)
    → end ≤ of_origin origin source_len made_len → stop + (end - place) < 2 ^ 64
    → Follow source_len made_len 0 before stop → Follow source_len made_len 0 after (stop + (end - place))

-- how many bytes the pieces have, where the two boxes are in one order or the other
abbrev all_of : ℕ → ℕ → ℕ → ℕ → ℕ → ℕ → ℕ → ℕ → ℕ
all_of place end made_len first middle second after len =
    0 + (end - place) + (made_len - 0) + (first - 0) + (second - middle) + (len - after)

few_bytes : (one other : TopBox) (made_len first middle second after len : ℕ) → first ≡ min one.place other.place
    → middle ≡ min one.end other.end → second ≡ max one.place other.place → after ≡ max one.end other.end
    → AreApart len one other → len < 2 ^ 63 → made_len ≤ 2 * (other.end - other.place)
    → all_of one.place one.end made_len first middle second after len < 2 ^ 64
few_bytes one other made_len first middle second after len is_first is_middle is_second is_after boxes small twice =
    by boxes.apart
  where
    by : (one.end ≤ other.place) ⊎ (other.end ≤ one.place)
        → all_of one.place one.end made_len first middle second after len < 2 ^ 64
    by (inl before) =
        let f : first ≡ one.place = omega (arith, is_first, before, boxes.first) in
        let m : middle ≡ one.end = omega (arith, is_middle, before, boxes.second) in
        let s : second ≡ other.place = omega (arith, is_second, before, boxes.first) in
        let a : after ≡ other.end = omega (arith, is_after, before, boxes.second) in
        omega (arith, f, m, s, a, before, boxes.first, boxes.second, boxes.also, small, twice)
    by (inr before) =
        let f : first ≡ other.place = omega (arith, is_first, before, boxes.second) in
        let m : middle ≡ other.end = omega (arith, is_middle, before, boxes.first) in
        let s : second ≡ one.place = omega (arith, is_second, before, boxes.second) in
        let a : after ≡ one.end = omega (arith, is_after, before, boxes.first) in
        omega (arith, f, m, s, a, before, boxes.first, boxes.second, boxes.within, small, twice)

-- five pieces, one after the other
five_end : (A B C D E F : List Piece) (place end made_len first middle second after len : ℕ) → A ≡ []
    → Pushes A B Kept place end → Pushes B C Made 0 made_len → Pushes C D Kept 0 first → Pushes D E Kept middle second
    → Pushes E F Kept after len → end ≤ len → first ≤ len → second ≤ len
    → all_of place end made_len first middle second after len < 2 ^ 64
    → Follow len made_len 0 F (all_of place end made_len first middle second after len)
five_end A B C D E F place end made_len first middle second after len none a b c d e one two three small =
    e len made_len _ (omega arith) small
    (d len made_len _ three (omega (arith, small))
    (c len made_len _ two (omega (arith, small))
    (b len made_len _ (omega arith) (omega (arith, small))
    (a len made_len 0 one (omega (arith, small)) (none_follow len made_len A none)))))

-- the pieces of a file with its movie box in front follow each other
pub front_follow : (A B C D E F : List Piece) (one other : TopBox) (made_len first middle second after len : ℕ)
    → first ≡ min one.place other.place → middle ≡ min one.end other.end → second ≡ max one.place other.place
    → after ≡ max one.end other.end → A ≡ [] → Pushes A B Kept one.place one.end → Pushes B C Made 0 made_len
    → Pushes C D Kept 0 first → Pushes D E Kept middle second → Pushes E F Kept after len → AreApart len one other
    → len < 2 ^ 63 → made_len ≤ 2 * (other.end - other.place)
    → (end : ℕ) × ((end < 2 ^ 64) × Follow len made_len 0 F end)
front_follow A B C D E F one other made_len first middle second after len is_first is_middle is_second is_after none a b
    c d e boxes small twice =
    let few = few_bytes one other made_len first middle second after len is_first is_middle is_second is_after boxes
    small twice in (
      all_of one.place one.end made_len first middle second after len,
      (
        few,
        five_end A B C D E F one.place one.end made_len first middle second after len none a b c d e boxes.within
            (omega (arith, is_first, boxes.first, boxes.within))
            (omega (arith, is_second, boxes.first, boxes.within, boxes.second, boxes.also)) few,
      ),
    )

-- a file whose movie box comes before its data is written as it is
pub writes_as_it_is : (known had has : Option (List ℕ)) (r : Result (Unit {0}) RemuxError)
    → OnOk r (IfSome known (λ xs. IsAppended had has xs)) → IfSome known IsMovieFirst
    → OnOk r (IfSome known (λ xs. WritesFront xs had has))
writes_as_it_is known had has (Err e) a f = tt
writes_as_it_is None had has (Ok u) a f = tt
writes_as_it_is (Some xs) had has (Ok u) a f = (xs, (a, as_it_is f refl))

-- a file with its movie box in front is written
pub writes_moved : (known had has : Option (List ℕ)) (r : Result (Unit {0}) RemuxError) (l : Layout)
    (opened : OpenedFile) (ids : List ℕ)
    → OnOk r (IfSome known (λ xs. WritesRemuxed xs (spliced xs l.made.items l.pieces.items) opened Offsets ids had
    has))
    → IfSome known (λ xs. IsMoved xs (spliced xs l.made.items l.pieces.items)) → ids ≡ ids_of opened.moov
    → OnOk r (IfSome known (λ xs. WritesFront xs had has))
writes_moved known had has (Err e) l opened ids w m is = tt
writes_moved None had has (Ok u) l opened ids w m is = tt
writes_moved (Some xs) had has (Ok u) l opened ids w m is =
    let ys = spliced xs l.made.items l.pieces.items in (
      ys,
      (w.0, moved opened w.1.0 m (subst (λ (kept : List ℕ). IsRemuxed xs ys opened w.1.0 kept) is w.1.1.0)),
    )
