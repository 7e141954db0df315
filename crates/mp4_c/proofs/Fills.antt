-- Lists whose front is filled in, one element after the other.
use Rattle.std.proofs.Common.{◌≡◌, ℕ, ◌+◌, ◌<◌, ◌≤◌, List, [], ◌∷◌, ◌++◌, length, take, drop, map, get_or, suc}
use Rattle.std.proofs.Common.{ap, sym, ◌∙◌, append_assoc, add-one, arith}
use Rattle.std.proofs.Math.ListN.{set}
use Rattle.std.proofs.Math.Seq.{set-append_seam, drop-cons}
use Rattle.std.proofs.lemmas.Grind.{common_steps}
use Rattle.std.proofs.lemmas.List.{take-map}
use Rattle.mp4_c.specs.Rooms.{filled}

-- the next element of a room, whose front is filled in
pub fill_next : {T : Type 0} (done room : List T) (i : ℕ) (x : T) → length done ≡ i → i < length room
    → set (done ++ drop i room) i x ≡ (done ++ x ∷ []) ++ drop (i + 1) room
fill_next done room i x at here =
    ap (λ l. set (done ++ l) i x) (drop-cons room i x here)
    ∙ ap (λ n. set (done ++ (get_or room i x ∷ drop (suc i) room)) n x) (sym at)
    ∙ set-append_seam done (get_or room i x) (drop (suc i) room) x
    ∙ ap (λ n. done ++ x ∷ drop n room) (sym (add-one i))
    ∙ sym (append_assoc done (x ∷ []) (drop (i + 1) room))

-- a room that is full
pub fills_all : {T U : Type 0} (f : T → U) (items : List T) (room : List U) (i : ℕ) → length room ≤ i
    → i ≤ length room → i ≤ length items
    → map f (take i items) ++ drop i room ≡ filled (map f items) room
fills_all f items room i low high within = grind (arith, common_steps, take-map)

-- one element more was taken
pub take_next : {T U : Type 0} (f : T → U) (items : List T) (i : ℕ) (d : T) → i < length items
    → map f (take (i + 1) items) ≡ map f (take i items) ++ f (get_or items i d) ∷ []
take_next f items i d here = grind (arith, common_steps)

-- the next element of a list is filled in
pub fill_more : {T U : Type 0} (f : T → U) (items : List T) (room rows : List U) (i : ℕ) (d : T)
    → rows ≡ map f (take i items) ++ drop i room → i < length items → i < length room
    → set rows i (f (get_or items i d)) ≡ map f (take (i + 1) items) ++ drop (i + 1) room
fill_more f items room rows i d front there within =
    let long : length (map f (take i items)) ≡ i = grind (arith, common_steps) in
    ap (λ l. set l i (f (get_or items i d))) front
    ∙ fill_next (map f (take i items)) room i (f (get_or items i d)) long within
    ∙ ap (λ l. l ++ drop (i + 1) room) (sym (take_next f items i d there))
