-- All boxes of a file, one after the other.
use Rattle.std.proofs.Common.{◌≡◌, ◌+◌, ◌<◌, ◌++◌, ◌∷◌, [], ℕ, List, Option, None, Some, IfSome, arith, subst, sym}
use Rattle.std.proofs.Common.{refl}
use Rattle.std.proofs.Common.{◌≤◌, Bool, true, false, IsTrue, nat_lt}
use Rattle.std.proofs.lemmas.Bool.{ltb-true, ltb-false}
use Rattle.std.proofs.Common.{append_assoc}
use Rattle.std.proofs.Common.{Result, Ok, Err, length, ap, ◌∙◌}
use Rattle.std.proofs.lemmas.List.{append-nil, length-drop}
use Rattle.mp4_codec.specs.Cause.{Cause}
use Rattle.mp4_codec.specs.Cursor.{Cursor, here, header_at}
use Rattle.mp4_codec.specs.FramingLaws.{says_cut_short}
use Rattle.mp4_codec.specs.declared.box_type.BoxType.{BoxType}
use Rattle.mp4_codec.specs.declared.box_type.BoxType.TheVariants.{MoovBox}
use Rattle.mp4_codec.specs.declared.header.BoxHeader.{BoxHeader}
use Rattle.mp4_source.specs.Answers.{IsLength}
use Rattle.mp4_remux.specs.declared.top_level.TopBox.{TopBox}
use Rattle.mp4_remux.specs.Front.{AreBoxes, HasNoHeader, IsMovieLater, IsTopBox, NoMovieAfterData, top_end}

-- one box more is there, and the others begin after it
pub one_more : (known : Option (List ℕ)) (boxes : List TopBox) (b : TopBox) (place : ℕ)
    → IfSome known (λ xs. (bs : List TopBox) → AreBoxes xs place bs → AreBoxes xs 0 (boxes ++ bs))
    → b.place ≡ place → IfSome known (λ xs. IsTopBox xs b)
    → IfSome known (λ xs. (bs : List TopBox) → AreBoxes xs b.end bs → AreBoxes xs 0 ((boxes ++ b ∷ []) ++ bs))
unfolding AreBoxes
one_more None boxes b place all there top = tt
one_more (Some xs) boxes b place all there top = λ bs after.
    subst (λ (list : List TopBox). AreBoxes xs 0 list) (sym (append_assoc boxes (b ∷ []) bs))
    (all (b ∷ bs) (there, (top, after)))

-- what isn't within is past the end
pub past_end : (n len : ℕ) (fits : Bool) → fits ≡ false → (n ≤ len → IsTrue fits) → len < n
past_end n len fits isnt within = by (nat_lt len n) refl
  where
    by : (b : Bool) → nat_lt len n ≡ b → len < n
    by true is = ltb-true len n is
    by false is = let t : IsTrue false = subst IsTrue isnt (within (ltb-false len n is)) in absurd cc

-- where no header has room any more, all boxes are there
pub all_boxes : (known : Option (List ℕ)) (len place : ℕ) (boxes : List TopBox) → IsLength known len → len < place + 8
    → IfSome known (λ xs. (bs : List TopBox) → AreBoxes xs place bs → AreBoxes xs 0 (boxes ++ bs))
    → IfSome known (λ xs. AreBoxes xs 0 boxes)
unfolding AreBoxes
all_boxes None len place boxes measured end all = tt
all_boxes (Some xs) len place boxes measured end all =
    subst (λ (list : List TopBox). AreBoxes xs 0 list) (append-nil boxes) (all [] (omega (arith, measured, end)))

-- THE BOXES OF A FILE ARE NO OTHERS

name_in : Result (BoxHeader × Cursor) Cause → BoxType
name_in (Ok x) = x.0.name
name_in (Err c) = MoovBox

size_in : Result (BoxHeader × Cursor) Cause → ℕ
size_in (Ok x) = x.0.size
size_in (Err c) = 0

place_in : Result (BoxHeader × Cursor) Cause → ℕ
place_in (Ok x) = x.1.position
place_in (Err c) = 0

abbrev top : BoxType → ℕ → ℕ → TopBox
top name place end = record { name = name; place = place; end = end }

same_top : (xs : List ℕ) (b c : TopBox) → b.place ≡ c.place → IsTopBox xs b → IsTopBox xs c → b ≡ c
unfolding name_in size_in place_in
same_top xs b c at s t =
    let both = sym s.head ∙ ap (λ p. header_at (here xs p)) at ∙ t.head in
    let name : b.name ≡ c.name = ap name_in both in
    let size : s.size ≡ t.size = ap size_in both in
    let from : s.from ≡ t.from = ap place_in both in
    let end : b.end ≡ c.end =
    s.end ∙ ap (λ n. top_end n s.from (length xs)) size ∙ ap (λ n. top_end t.size n (length xs)) from ∙ sym t.end in
    ap (λ n. top n b.place b.end) name ∙ ap (λ p. top c.name p b.end) at ∙ ap (λ e. top c.name c.place e) end

ok_or_err : (r : Result (BoxHeader × Cursor) Cause) (x : BoxHeader × Cursor) (c : Cause) → r ≡ Ok x → r ≡ Err c → ⊥
ok_or_err r x c is isnt = absurd cc

-- no header has room
pub none_past : (xs : List ℕ) (place : ℕ) → length xs < place + 8 → (x : BoxHeader × Cursor)
    → header_at (here xs place) ≡ Ok x → ⊥
none_past xs place past x is =
    ok_or_err (header_at (here xs place)) x _ is
    (says_cut_short (here xs place) (omega (arith, length-drop place xs, past)))

pub same_boxes : (xs : List ℕ) (place : ℕ) (bs cs : List TopBox) → AreBoxes xs place bs → AreBoxes xs place cs → bs ≡ cs
unfolding AreBoxes
same_boxes xs place [] [] are also = refl
same_boxes xs place [] (c ∷ cs) past (there, (top, after)) =
    absurd (none_past xs c.place (omega (arith, past, there)) _ top.head)
same_boxes xs place (b ∷ bs) [] (there, (top, after)) past =
    absurd (none_past xs b.place (omega (arith, past, there)) _ top.head)
same_boxes xs place (b ∷ bs) (c ∷ cs) (there, (one, after)) (also, (other, rest)) =
    let same : b ≡ c = same_top xs b c (there ∙ sym also) one other in
    let tail : bs ≡ cs = same_boxes xs c.end bs cs (subst (λ (d : TopBox). AreBoxes xs d.end bs) same after) rest in
    ap (λ (d : TopBox). d ∷ bs) same ∙ ap (λ (ds : List TopBox). c ∷ ds) tail

-- where all boxes of a file are these, and a movie box of them comes after data, it is so whatever the boxes
pub movie_later : (known : Option (List ℕ)) (boxes : List TopBox) → IfSome known (λ xs. AreBoxes xs 0 boxes)
    → (NoMovieAfterData boxes → ⊥) → IsMovieLater known
movie_later None boxes are later = tt
movie_later (Some xs) boxes are later = λ first.
    later (subst (λ (list : List TopBox). NoMovieAfterData list) (same_boxes xs 0 first.boxes boxes first.are are)
    first.first)

-- bytes that aren't boxes have no movie box before data
pub no_boxes_at_all : (known : Option (List ℕ)) → IfSome known (λ xs. (bs : List TopBox) → AreBoxes xs 0 bs → ⊥)
    → IsMovieLater known
no_boxes_at_all None none = tt
no_boxes_at_all (Some xs) none = λ first. none first.boxes first.are

-- whatever boxes a file has, some are left from a place on
abbrev pub AreLeft : List ℕ → ℕ → Type 0
AreLeft xs place = (bs : List TopBox) → AreBoxes xs 0 bs → (rest : List TopBox) × AreBoxes xs place rest

next_left : (xs : List ℕ) (place : ℕ) (b : TopBox) → place + 8 ≤ length xs → b.place ≡ place → IsTopBox xs b
    → (rest : List TopBox) → AreBoxes xs place rest → (rest : List TopBox) × AreBoxes xs b.end rest
unfolding AreBoxes
next_left xs place b within at one [] past = absurd (omega (arith, within, past))
next_left xs place b within at one (c ∷ cs) (there, (other, after)) =
    (cs, subst (λ (d : TopBox). AreBoxes xs d.end cs) (same_top xs c b (there ∙ sym at) other one) after)

pub one_less : (known : Option (List ℕ)) (len place : ℕ) (b : TopBox) → IsLength known len → place + 8 ≤ len
    → b.place ≡ place → IfSome known (λ xs. IsTopBox xs b) → IfSome known (λ xs. AreLeft xs place)
    → IfSome known (λ xs. AreLeft xs b.end)
one_less None len place b is within at one rest = tt
one_less (Some xs) len place b is within at one rest = λ bs are.
    let r = rest bs are in next_left xs place b (omega (arith, is, within)) at one r.0 r.1

header_of_next : (xs : List ℕ) (place : ℕ) → place + 8 ≤ length xs
    → ((x : BoxHeader × Cursor) → header_at (here xs place) ≡ Ok x → ⊥) → (rest : List TopBox)
    → AreBoxes xs place rest → ⊥
unfolding AreBoxes
header_of_next xs place within none [] past = omega (arith, within, past)
header_of_next xs place within none (c ∷ cs) (there, (one, after)) =
    none _ (ap (λ p. header_at (here xs p)) (sym there) ∙ one.head)

-- where no header is, the bytes aren't boxes
pub no_boxes : (known : Option (List ℕ)) (len place : ℕ) → IsLength known len → place + 8 ≤ len
    → HasNoHeader known place → IfSome known (λ xs. AreLeft xs place)
    → IfSome known (λ xs. (bs : List TopBox) → AreBoxes xs 0 bs → ⊥)
no_boxes None len place is within none rest = tt
no_boxes (Some xs) len place is within none rest = λ bs are.
    let r = rest bs are in header_of_next xs place (omega (arith, is, within)) none r.0 r.1
