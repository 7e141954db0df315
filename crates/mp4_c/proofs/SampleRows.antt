-- The rows of a walk, one after the other.
use Rattle.std.proofs.Common.{◌≡◌, ℕ, zero, suc, ◌+◌, ◌<◌, ◌≤◌, List, [], ◌∷◌, ◌++◌, length, take, drop}
use Rattle.std.proofs.Common.{Some, None, Result, Ok, Err, refl, ap, sym, ◌∙◌, append_assoc, arith}
use Rattle.std.proofs.Math.ListN.{set}
use Rattle.std.proofs.lemmas.Grind.{common_steps}
use Rattle.std.proofs.lemmas.List.{take_more_set, drop-drop, drop-set-lt}
use Rattle.mp4_codec.specs.Cause.{Cause}
use Rattle.mp4_samples.specs.declared.sample.Place.{Place}
use Rattle.mp4_c.specs.Rooms.{over}
use Rattle.mp4_c.specs.Samples.{refusal_in, row_of, rows_of}

abbrev pub Walk : Type 0
Walk = List (Result Place Cause)

-- an end of a walk gives no row: there is no sample, the next is refused, or there is no room
pub none_left : (id room : ℕ) (left : Walk) → left ≡ [] → rows_of id room left ≡ []
unfolding rows_of
none_left id room left e = ap (rows_of id room) e ∙ none room
  where
    none : (room : ℕ) → rows_of id room [] ≡ []
    none zero = refl
    none (suc room) = refl

pub refused_next : (id room : ℕ) (left rest : Walk) (c : Cause) → left ≡ Err c ∷ rest → rows_of id room left ≡ []
unfolding rows_of
refused_next id room left rest c e = ap (rows_of id room) e ∙ none room
  where
    none : (room : ℕ) → rows_of id room (Err c ∷ rest) ≡ []
    none zero = refl
    none (suc room) = refl

pub no_room : (id room : ℕ) (left : Walk) → room ≡ 0 → rows_of id room left ≡ []
unfolding rows_of
no_room id room left e = ap (λ n. rows_of id n left) e ∙ none
  where
    none : rows_of id 0 left ≡ []
    none = refl

-- why it ended
pub none_left_refusal : (room : ℕ) (left : Walk) → left ≡ [] → refusal_in room left ≡ None
unfolding refusal_in
none_left_refusal room left e = ap (refusal_in room) e ∙ none room
  where
    none : (room : ℕ) → refusal_in room [] ≡ None
    none zero = refl
    none (suc room) = refl

pub refused_next_refusal : (room more : ℕ) (left rest : Walk) (c : Cause) → left ≡ Err c ∷ rest → room ≡ suc more
    → refusal_in room left ≡ Some c
unfolding refusal_in
refused_next_refusal room more left rest c e some =
    ap (λ n. refusal_in n left) some ∙ ap (refusal_in (suc more)) e ∙ one
  where
    one : refusal_in (suc more) (Err c ∷ rest) ≡ Some c
    one = refl

pub no_room_refusal : (room : ℕ) (left : Walk) → room ≡ 0 → refusal_in room left ≡ None
unfolding refusal_in
no_room_refusal room left e = ap (λ n. refusal_in n left) e ∙ none
  where
    none : refusal_in 0 left ≡ None
    none = refl

-- a sample more
pub row_next : (id room more : ℕ) (left rest : Walk) (p : Place) → left ≡ Ok p ∷ rest → room ≡ suc more
    → rows_of id room left ≡ row_of id p ∷ rows_of id more rest
unfolding rows_of
row_next id room more left rest p e some = ap (λ n. rows_of id n left) some ∙ ap (rows_of id (suc more)) e ∙ one
  where
    one : rows_of id (suc more) (Ok p ∷ rest) ≡ row_of id p ∷ rows_of id more rest
    one = refl

pub row_next_refusal : (room more : ℕ) (left rest : Walk) (p : Place) → left ≡ Ok p ∷ rest → room ≡ suc more
    → refusal_in room left ≡ refusal_in more rest
unfolding refusal_in
row_next_refusal room more left rest p e some = ap (λ n. refusal_in n left) some ∙ ap (refusal_in (suc more)) e ∙ one
  where
    one : refusal_in (suc more) (Ok p ∷ rest) ≡ refusal_in more rest
    one = refl

-- the rows that were filled in are all rows
pub ended_rows : {T : Type 0} (rows old all tail : List T) (k : ℕ) → all ≡ take k rows ++ tail → tail ≡ []
    → drop k rows ≡ drop k old → k ≤ length rows → rows ≡ over all old
ended_rows rows old all tail k front none rest within = grind (arith, common_steps)

pub ended_count : {T : Type 0} (rows all tail : List T) (k : ℕ) → all ≡ take k rows ++ tail → tail ≡ []
    → k ≤ length rows → k ≡ length all
ended_count rows all tail k front none within = grind (arith, common_steps)

-- a row more was filled in
pub next_front : {T : Type 0} (rows all tail rest : List T) (k : ℕ) (x row : T) → all ≡ take k rows ++ tail
    → tail ≡ row ∷ rest → x ≡ row → k < length rows → all ≡ take (k + 1) (set rows k x) ++ rest
next_front rows all tail rest k x row front next same within =
    front ∙ ap (λ l. take k rows ++ l) (next ∙ ap (λ r. r ∷ rest) (sym same))
    ∙ sym (ap (λ l. l ++ rest) (take_more_set rows k x within) ∙ append_assoc (take k rows) (x ∷ []) rest)

drop_one_more : {T : Type 0} (l : List T) (n : ℕ) → drop (n + 1) l ≡ drop 1 (drop n l)
drop_one_more l n = sym (drop-drop 1 n l)

pub next_rest : {T : Type 0} (rows old : List T) (k : ℕ) (x : T) → drop k rows ≡ drop k old
    → drop (k + 1) (set rows k x) ≡ drop (k + 1) old
next_rest rows old k x same =
    drop-set-lt (k + 1) rows k x (omega arith)
    ∙ drop_one_more rows k ∙ ap (λ l. drop 1 l) same ∙ sym (drop_one_more old k)
