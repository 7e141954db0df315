-- Where bytes are when they are closed up.
use Rattle.std.proofs.Common.{◌≡◌, ◌∙◌, ℕ, zero, suc, ◌+◌, ◌-◌, ◌^◌, ◌<◌, ◌≤◌, min, leb, List, [], ◌∷◌, ◌++◌}
use Rattle.std.proofs.Common.{length, take}
use Rattle.std.proofs.Common.{refl, sym, ap, arith, subst, true, false}
use Rattle.std.specs.Prelude.{slice_index_or}
use Rattle.std.specs.List.Sorted.{IsNonDecreasingBy, IsPartitionPoint}
use Rattle.std.proofs.lemmas.Bool.{leb-true, leb-false}
use Rattle.std.proofs.lemmas.List.{take_more}
use Rattle.std.proofs.lemmas.List.Sums.{sum_by-cons}
use Rattle.mp4_remux.specs.declared.data.Extent.{Extent}
use Rattle.mp4_remux.specs.declared.moves.Move.{Move}
use Rattle.mp4_remux.specs.declared.moves.Moves.TheVariants.{Listed}
use Rattle.mp4_remux.specs.Moved.{IsBy}
use Rattle.std.specs.Borrow.{Bor}
use Rattle.mp4_remux.specs.Data.{AreApartFrom, AreClosedUp, closed_moves, closed_place, data_len}

-- THE LIST OF MOVES

-- one more is after those before
pub closed_more : (before : ℕ) (es : List Extent) (e : Extent) → closed_moves before (es ++ e ∷ [])
    ≡ closed_moves before es
    ++ record { from = e.place; end = e.end; to = min (2 ^ 64 - 1) (before + data_len es) } ∷ []
unfolding closed_moves
closed_more before [] e =
    ap (λ n. record { from = e.place; end = e.end; to = min (2 ^ 64 - 1) n } ∷ []) (omega arith)
closed_more before (d ∷ es) e =
    let all : before + (d.end - d.place) + data_len es ≡ before + data_len (d ∷ es) =
    omega (arith, sum_by-cons (λ (x : Extent). x.end - x.place) d es) in
    ap (λ (ms : List Move). record { from = d.place; end = d.end; to = min (2 ^ 64 - 1) before } ∷ ms)
    (closed_more (before + (d.end - d.place)) es e
    ∙ ap (λ n. closed_moves (before + (d.end - d.place)) es
    ++ record { from = e.place; end = e.end; to = min (2 ^ 64 - 1) n } ∷ []) all)

pub closed_step : (es : List Extent) (i : ℕ) (d : Extent) (before after : List Move) (to : ℕ) → i < length es
    → before ≡ closed_moves 0 (take i es) → to ≡ min (2 ^ 64 - 1) (data_len (take i es))
    → after ≡ before
    ++ record { from = (slice_index_or es i d).place; end = (slice_index_or es i d).end; to = to } ∷ []
    → after ≡ closed_moves 0 (take (i + 1) es)
closed_step es i d before after to lt upto sum more =
    let e : Extent = slice_index_or es i d in
    let same : to ≡ min (2 ^ 64 - 1) (0 + data_len (take i es)) = omega (arith, sum) in
    more ∙ ap (λ (ms : List Move). ms ++ record { from = e.place; end = e.end; to = to } ∷ []) upto
    ∙ ap (λ n. closed_moves 0 (take i es) ++ record { from = e.place; end = e.end; to = n } ∷ []) same
    ∙ sym (closed_more 0 (take i es) e)
    ∙ ap (closed_moves 0) (sym (take_more es i d lt))

pub none_closed : closed_moves 0 [] ≡ []
unfolding closed_moves
none_closed = refl

-- THE PLACE BY THEM

-- none of them come before a place before all
none_before : (start place : ℕ) (es : List Extent) → AreApartFrom start es → place ≤ start → closed_place es place ≡ 0
unfolding AreApartFrom
none_before start place [] apart before = refl
none_before start place (e ∷ es) apart before =
    omega (
      arith,
      sum_by-cons (λ (x : Extent). min place x.end - min place x.place) e es,
      none_before (e.end + 1) place es apart.1.1 (omega (arith, apart.0, apart.1.0, before)),
      apart.0,
      apart.1.0,
      before,
    )

-- a place is so many bytes after a move's, at most as many as it has
abbrev pub after_move : Move → ℕ → ℕ
after_move m place = min (2 ^ 64 - 1) (m.to + (min place m.end - m.from))

-- the last move that begins at a place or before says where it is
pub last_says : (start before place n : ℕ) (es : List Extent) (d : Move) → AreApartFrom start es
    → suc n ≤ length (closed_moves before es)
    → ((k : ℕ) → k < suc n → (slice_index_or (closed_moves before es) k d).from ≤ place)
    → ((k : ℕ) → suc n ≤ k → k < length (closed_moves before es)
    → place < (slice_index_or (closed_moves before es) k d).from)
    → after_move (slice_index_or (closed_moves before es) n d) place
    ≡ min (2 ^ 64 - 1) (before + closed_place es place)
unfolding AreApartFrom closed_moves
last_says start before place n [] d apart some at past = absurd (omega (arith, some))
last_says start before place zero (e ∷ []) d apart some at past =
    omega (arith, at 0 (omega arith), apart.1.0)
last_says start before place zero (e ∷ f ∷ es) d apart some at past =
    let none : closed_place (f ∷ es) place ≡ 0 =
    none_before f.place place (f ∷ es) (omega arith, apart.1.1.1)
    (omega (arith, past 1 (omega arith) (omega arith))) in
    omega (
      arith,
      sum_by-cons (λ (x : Extent). min place x.end - min place x.place) e (f ∷ es),
      none,
      at 0 (omega arith),
      apart.1.0,
    )
last_says start before place (suc n) (e ∷ []) d apart some at past = absurd (omega (arith, some))
last_says start before place (suc n) (e ∷ f ∷ es) d apart some at past =
    last_says (e.end + 1) (before + (e.end - e.place)) place n (f ∷ es) d apart.1.1 (omega (arith, some))
    (λ k lt. at (suc k) (omega (arith, lt)))
    (λ k le lt. past (suc k) (omega (arith, le)) (omega (arith, lt)))
    ∙ omega (
      arith,
      sum_by-cons (λ (x : Extent). min place x.end - min place x.place) e (f ∷ es),
      at 1 (omega arith),
      apart.1.0,
      apart.1.1.0,
    )

-- THE LIST IS IN THE ORDER OF THE FILE

from_at_least : (start before j : ℕ) (es : List Extent) (d : Move) → AreApartFrom start es
    → j < length (closed_moves before es) → start ≤ (slice_index_or (closed_moves before es) j d).from
unfolding AreApartFrom closed_moves
from_at_least start before j [] d apart lt = absurd (omega (arith, lt))
from_at_least start before zero (e ∷ es) d apart lt = apart.0
from_at_least start before (suc j) (e ∷ es) d apart lt =
    omega (
      arith,
      from_at_least (e.end + 1) (before + (e.end - e.place)) j es d apart.1.1 (omega (arith, lt)),
      apart.0,
      apart.1.0,
    )

in_order : (start before i j : ℕ) (es : List Extent) (d : Move) → AreApartFrom start es → i ≤ j
    → j < length (closed_moves before es)
    → (slice_index_or (closed_moves before es) i d).from ≤ (slice_index_or (closed_moves before es) j d).from
unfolding AreApartFrom closed_moves
in_order start before i j [] d apart le lt = absurd (omega (arith, lt))
in_order start before zero zero (e ∷ es) d apart le lt = omega arith
in_order start before zero (suc j) (e ∷ es) d apart le lt =
    omega (
      arith,
      from_at_least (e.end + 1) (before + (e.end - e.place)) j es d apart.1.1 (omega (arith, lt)),
      apart.1.0,
    )
in_order start before (suc i) zero (e ∷ es) d apart le lt = absurd (omega (arith, le))
in_order start before (suc i) (suc j) (e ∷ es) d apart le lt =
    in_order (e.end + 1) (before + (e.end - e.place)) i j es d apart.1.1 (omega (arith, le)) (omega (arith, lt))

pub moves_in_order : (es : List Extent) (ms : List Move) → AreApartFrom 0 es → ms ≡ closed_moves 0 es
    → IsNonDecreasingBy (λ (m : Move). m.from) ms
moves_in_order es ms apart are =
    subst (λ (xs : List Move). IsNonDecreasingBy (λ (m : Move). m.from) xs) (sym are)
    (λ i j d le lt. in_order 0 0 i j es d apart le lt)

-- THE POINT THAT IS FOUND

abbrev pub IsPointOf : ℕ → List Move → ℕ → Type 0
IsPointOf place ms after =
    IsPartitionPoint (λ (m : Move). leb m.from place ≡ true) (λ (m : Move). leb m.from place ≡ false) ms after

-- no move begins at the place or before
none_begins : (place : ℕ) (es : List Extent) → AreApartFrom 0 es → IsPointOf place (closed_moves 0 es) 0
    → closed_place es place ≡ 0
unfolding AreApartFrom closed_moves
none_begins place [] apart point = refl
none_begins place (e ∷ es) apart point =
    none_before e.place place (e ∷ es) (omega arith, apart.1)
    (omega (arith, leb-false _ _ (point.1 0 (record { from = 0; end = 0; to = 0 }) (omega arith) (omega arith))))

pub says_none : (place after : ℕ) (es : List Extent) (ms : List Move) → AreApartFrom 0 es → ms ≡ closed_moves 0 es
    → IsPointOf place ms after → after ≡ 0 → closed_place es place ≡ 0
says_none place after es ms apart are point none =
    none_begins place es apart
    (subst (λ (xs : List Move). IsPointOf place xs 0) are (subst (λ n. IsPointOf place ms n) none point))

some_begins : (place n after : ℕ) (es : List Extent) (d : Move) → AreApartFrom 0 es → after ≡ suc n
    → after ≤ length (closed_moves 0 es) → IsPointOf place (closed_moves 0 es) after
    → after_move (slice_index_or (closed_moves 0 es) n d) place ≡ min (2 ^ 64 - 1) (0 + closed_place es place)
some_begins place n after es d apart is bound point =
    last_says 0 0 place n es d apart (omega (arith, is, bound))
    (λ k lt. leb-true _ _ (point.0 k d (omega arith) (omega (arith, is, lt))))
    (λ k le lt. leb-false _ _ (point.1 k d (omega (arith, is, le)) lt))

pub says_one : (place after : ℕ) (es : List Extent) (ms : List Move) (d : Move) → AreApartFrom 0 es
    → ms ≡ closed_moves 0 es → after ≤ length ms → IsPointOf place ms after → 0 < after
    → after_move (slice_index_or ms (after - 1) d) place ≡ min (2 ^ 64 - 1) (closed_place es place)
says_one place after es ms d apart are bound point some =
    let says = some_begins place (after - 1) after es d apart (omega (arith, some))
    (subst (λ (xs : List Move). after ≤ length xs) are bound)
    (subst (λ (xs : List Move). IsPointOf place xs after) are point) in
    subst (λ (xs : List Move). after_move (slice_index_or xs (after - 1) d) place
    ≡ min (2 ^ 64 - 1) (0 + closed_place es place)) (sym are) says
    ∙ omega arith

-- moves that close up bytes are by where these are when they are closed up
pub closed_by : (extents : List Extent) (list : Bor (List Move)) (base : ℕ) → AreClosedUp extents list.now
    → IsBy (Listed list base) (λ place. min (2 ^ 64 - 1) (base + closed_place extents place))
closed_by extents list base closed = record { each = λ place new is. is extents closed }
