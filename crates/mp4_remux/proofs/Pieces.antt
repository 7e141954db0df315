-- Where the bytes of pieces are in their splice.
use Rattle.std.proofs.Common.{◌≡◌, ◌∙◌, ℕ, zero, suc, ◌+◌, ◌-◌, ◌<◌, ◌≤◌, List, [], ◌∷◌, ◌++◌, length, take, drop}
use Rattle.std.proofs.Common.{refl, sym, ap, subst, arith, take-add, take-take, take_all, drop-drop, Bool, true}
use Rattle.std.proofs.Common.{◌^◌, false, leb, nat_lt, slice_get}
use Rattle.std.proofs.Common.{Option, None, Some, option_map, IfSome}
use Rattle.std.proofs.lemmas.Bool.{leb-true, leb-false, ltb-true, ltb-false}
use Rattle.std.proofs.lemmas.List.{length-take, length-drop, length-append, drop-take, take-append-le, drop-append-le}
use Rattle.std.proofs.lemmas.Slice.{take-put_mid}
use lib.Seq.{drop-append-add}
use borrow.Rule.Slice.PartMut.{put_mid, post_of}
use Rattle.std.specs.Prelude.{slice_index_or}
use Rattle.std.specs.List.Sorted.{IsNonDecreasingBy, IsPartitionPoint}
use Rattle.mp4_source.specs.Answers.{IsLength}
use Rattle.mp4_source.specs.Source.{IsRefusal, IsPartOf}
use Rattle.mp4_remux.specs.declared.piece.Origin.{Origin}
use Rattle.mp4_remux.specs.declared.piece.Origin.TheVariants.{Kept, Made}
use Rattle.mp4_remux.specs.declared.piece.Piece.{Piece}
use Rattle.mp4_remux.specs.Splice.{of_origin, piece_bytes, spliced, Follow, IsPieceAt}
use Rattle.mp4_remux.proofs.Numbered.{at_index, drop_next}

-- what a piece is of has so many bytes
whole_length : (o : Origin) (source made : List ℕ) → length (of_origin o source made)
    ≡ of_origin o (length source) (length made)
whole_length Kept source made = refl
whole_length Made source made = refl

length-piece : (source made : List ℕ) (p : Piece)
    → p.place + p.len ≤ of_origin p.origin (length source) (length made) → length (piece_bytes source made p) ≡ p.len
length-piece source made p within =
    let long = whole_length p.origin source made in
    length-take p.len (drop p.place (of_origin p.origin source made))
    ∙ omega (arith, within, long, length-drop p.place (of_origin p.origin source made))

-- bytes of a piece that follow each other are bytes of what it is of
pub within_piece : (xs : List ℕ) (place len skipped n : ℕ) → skipped + n ≤ len
    → take n (drop skipped (take len (drop place xs))) ≡ take n (drop (place + skipped) xs)
within_piece xs place len skipped n fits =
    let rest = len - skipped in
    let whole : skipped + rest ≡ len = omega (arith, fits) in
    ap (λ k. take n (drop skipped (take k (drop place xs)))) (sym whole)
    ∙ ap (take n) (drop-take skipped rest (drop place xs))
    ∙ take-take n rest (drop skipped (drop place xs)) (omega (arith, fits))
    ∙ ap (take n) (drop-drop skipped place xs)

-- WHERE PIECES BEGIN

module _ (source_len made_len : ℕ) where
  -- each piece has a byte and lies in what it is of
  pub fits : (ps : List Piece) (start end i : ℕ) (d : Piece) → Follow source_len made_len start ps end → i < length ps
      → (0 < (slice_index_or ps i d).len) × ((slice_index_or ps i d).place + (slice_index_or ps i d).len
      ≤ of_origin (slice_index_or ps i d).origin source_len made_len)
  unfolding Follow
  fits [] start end i d f lt = absurd (omega (arith, lt))
  fits (p ∷ ps) start end zero d f lt = (f.1.0, f.1.1.0)
  fits (p ∷ ps) start end (suc i) d f lt = fits ps (start + p.len) end i d f.1.1.1 (omega (arith, lt))

  -- no piece begins before the first
  pub at_least : (ps : List Piece) (start end i : ℕ) (d : Piece) → Follow source_len made_len start ps end
      → i < length ps → start ≤ (slice_index_or ps i d).at
  unfolding Follow
  at_least [] start end i d f lt = absurd (omega (arith, lt))
  at_least (p ∷ ps) start end zero d f lt = omega (arith, f.0)
  at_least (p ∷ ps) start end (suc i) d f lt =
      omega (arith, at_least ps (start + p.len) end i d f.1.1.1 (omega (arith, lt)))

  -- they begin at places that rise
  pub rise : (ps : List Piece) (start end : ℕ) → Follow source_len made_len start ps end
      → IsNonDecreasingBy (λ (p : Piece). p.at) ps
  unfolding Follow
  rise [] start end f i j d le lt = absurd (omega (arith, lt))
  rise (p ∷ ps) start end f zero zero d le lt = omega arith
  rise (p ∷ ps) start end f zero (suc j) d le lt =
      omega (arith, f.0, at_least ps (start + p.len) end j d f.1.1.1 (omega (arith, lt)))
  rise (p ∷ ps) start end f (suc i) zero d le lt = absurd (omega (arith, le))
  rise (p ∷ ps) start end f (suc i) (suc j) d le lt =
      rise ps (start + p.len) end f.1.1.1 i j d (omega (arith, le)) (omega (arith, lt))

  -- the first begins where all begin, and where there is none, they end there
  pub first : (ps : List Piece) (start end : ℕ) (d : Piece) → Follow source_len made_len start ps end → start < end
      → (0 < length ps) × ((slice_index_or ps 0 d).at ≡ start)
  unfolding Follow
  first [] start end d f lt = absurd (omega (arith, f, lt))
  first (p ∷ ps) start end d f lt = (omega arith, f.0)

  -- the last ends where all end
  pub last_ends : (ps : List Piece) (start end i : ℕ) (d : Piece) → Follow source_len made_len start ps end
      → i + 1 ≡ length ps → (slice_index_or ps i d).at + (slice_index_or ps i d).len ≡ end
  unfolding Follow
  last_ends [] start end i d f is = absurd (omega (arith, is))
  last_ends (p ∷ []) start end zero d f is = omega (arith, f.0, f.1.1.1)
  last_ends (p ∷ q ∷ ps) start end zero d f is = absurd (omega (arith, is))
  last_ends (p ∷ ps) start end (suc i) d f is = last_ends ps (start + p.len) end i d f.1.1.1 (omega (arith, is))

  -- each of the others ends where the next one begins
  pub next_begins : (ps : List Piece) (start end i : ℕ) (d : Piece) → Follow source_len made_len start ps end
      → i + 1 < length ps
      → (slice_index_or ps i d).at + (slice_index_or ps i d).len ≡ (slice_index_or ps (i + 1) d).at
  unfolding Follow
  next_begins [] start end i d f lt = absurd (omega (arith, lt))
  next_begins (p ∷ []) start end i d f lt = absurd (omega (arith, lt))
  next_begins (p ∷ q ∷ ps) start end zero d f lt = omega (arith, f.0, f.1.1.1.0)
  next_begins (p ∷ q ∷ ps) start end (suc i) d f lt =
      let on : suc (i + 1) ≡ suc i + 1 = omega arith in
      next_begins (q ∷ ps) (start + p.len) end i d f.1.1.1 (omega (arith, lt))
      ∙ ap (λ k. (slice_index_or (p ∷ q ∷ ps) k d).at) on

-- one piece more
pub follow_more : (source_len made_len : ℕ) (ps : List Piece) (p : Piece) (start end : ℕ)
    → Follow source_len made_len start ps end → p.at ≡ end → 0 < p.len
    → p.place + p.len ≤ of_origin p.origin source_len made_len
    → Follow source_len made_len start (ps ++ p ∷ []) (end + p.len)
unfolding Follow
follow_more source_len made_len [] p start end f at some within =
    (omega (arith, at, f), (some, (within, omega (arith, f))))
follow_more source_len made_len (q ∷ qs) p start end f at some within =
    (f.0, (f.1.0, (f.1.1.0, follow_more source_len made_len qs p (start + q.len) end f.1.1.1 at some within)))

-- pieces end where they begin, or later
pub ends_later : (source_len made_len : ℕ) (ps : List Piece) (start end : ℕ)
    → Follow source_len made_len start ps end → start ≤ end
unfolding Follow
ends_later source_len made_len [] start end f = omega (arith, f)
ends_later source_len made_len (p ∷ ps) start end f =
    omega (arith, ends_later source_len made_len ps (start + p.len) end f.1.1.1)

-- the next of some pieces, and those after it
pub record IsNext (source_len made_len start : ℕ) (p : Piece) (ps : List Piece) (end : ℕ) : Type 0 where
  pub at : p.at ≡ start
  pub some : 0 < p.len
  pub within : p.place + p.len ≤ of_origin p.origin source_len made_len
  pub rest : Follow source_len made_len (start + p.len) ps end

pub is_next : (source_len made_len : ℕ) (ps : List Piece) (i n start end : ℕ) (d : Piece) → i < length ps → n ≡ suc i
    → Follow source_len made_len start (drop i ps) end
    → IsNext source_len made_len start (slice_index_or ps i d) (drop n ps) end
unfolding Follow
is_next source_len made_len ps i n start end d lt e f =
    let g = subst (λ (qs : List Piece). Follow source_len made_len start qs end) (drop_next ps i n d lt e) f in
    record { at = g.0; some = g.1.0; within = g.1.1.0; rest = g.1.1.1 }

-- no pieces end where they begin
pub none_end : (source_len made_len : ℕ) (ps : List Piece) (end : ℕ) → slice_get ps (length ps - 1) ≡ None
    → Follow source_len made_len 0 ps end → end ≡ 0
unfolding Follow
none_end source_len made_len [] end none f = omega (arith, f)
none_end source_len made_len (p ∷ ps) end none f =
    let there = at_index (p ∷ ps) (length (p ∷ ps) - 1) p (omega arith) in absurd cc

-- the others where the last of them ends
pub last_end : (source_len made_len : ℕ) (ps : List Piece) (end : ℕ) (p : Piece)
    → slice_get ps (length ps - 1) ≡ Some p → Follow source_len made_len 0 ps end → p.at + p.len ≡ end
last_end source_len made_len [] end p is f = absurd cc
last_end source_len made_len (q ∷ qs) end p is f =
    let i = length (q ∷ qs) - 1 in
    let there = at_index (q ∷ qs) i q (omega arith) in
    let same : slice_index_or (q ∷ qs) i q ≡ p = cc in
    subst (λ (r : Piece). r.at + r.len ≡ end) same
    (last_ends source_len made_len (q ∷ qs) 0 end i q f (omega arith))

-- one piece more, after those that end where it begins
pub pushed : (source_len made_len : ℕ) (ps qs : List Piece) (at place len end stop : ℕ) (origin : Origin)
    (small : place + len < 2 ^ 64)
    → qs ≡ ps ++ record { at = at; origin = origin; place = place; len = len; small = small } ∷ []
    → Follow source_len made_len 0 ps end → at ≡ end → 0 < len → place + len ≤ of_origin origin source_len made_len
    → stop ≡ end + len → Follow source_len made_len 0 qs stop
pushed source_len made_len ps qs at place len end stop origin small is f there some within e =
    rw (is, e) (follow_more source_len made_len ps
    (record { at = at; origin = origin; place = place; len = len; small = small }) 0 end f there some within)

-- THE BYTES FROM A PLACE ON

module _ (source made : List ℕ) where
  -- n bytes of a splice from a place in a piece on, where the piece has so many more
  pub piece_part : (ps : List Piece) (start end i : ℕ) (d : Piece)
      → Follow (length source) (length made) start ps end → i < length ps → (place skipped n : ℕ)
      → (slice_index_or ps i d).at + skipped ≡ place → skipped + n ≤ (slice_index_or ps i d).len
      → take n (drop (place - start) (spliced source made ps))
      ≡ take n (drop ((slice_index_or ps i d).place + skipped) (of_origin (slice_index_or ps i d).origin source made))
  unfolding Follow spliced
  piece_part [] start end i d f lt place skipped n there inside = absurd (omega (arith, lt))
  piece_part (p ∷ ps) start end zero d f lt place skipped n there inside =
      let bytes = piece_bytes source made p in
      let long = length-piece source made p f.1.1.0 in
      let on : place - start ≡ skipped = omega (arith, there, f.0) in
      ap (λ k. take n (drop k (bytes ++ spliced source made ps))) on
      ∙ ap (take n) (drop-append-le skipped bytes (spliced source made ps) (omega (arith, long, inside)))
      ∙ take-append-le n (drop skipped bytes) (spliced source made ps)
      (omega (arith, length-drop skipped bytes, long, inside))
      ∙ within_piece (of_origin p.origin source made) p.place p.len skipped n inside
  piece_part (p ∷ ps) start end (suc i) d f lt place skipped n there inside =
      let bytes = piece_bytes source made p in
      let long = length-piece source made p f.1.1.0 in
      let later = at_least (length source) (length made) ps (start + p.len) end i d f.1.1.1 (omega (arith, lt)) in
      let on : place - start ≡ length bytes + (place - (start + p.len)) = omega (arith, long, later, there) in
      ap (λ k. take n (drop k (bytes ++ spliced source made ps))) on
      ∙ ap (take n) (drop-append-add bytes (spliced source made ps) (place - (start + p.len)))
      ∙ piece_part ps (start + p.len) end i d f.1.1.1 (omega (arith, lt)) place skipped n there inside

  -- a splice has as many bytes as its pieces
  pub length-spliced : (ps : List Piece) (start end : ℕ) → Follow (length source) (length made) start ps end
      → start + length (spliced source made ps) ≡ end
  unfolding Follow spliced
  length-spliced [] start end f = omega (arith, f)
  length-spliced (p ∷ ps) start end f =
      let long = length-piece source made p f.1.1.0 in
      omega (
        arith,
        length-append (piece_bytes source made p) (spliced source made ps),
        long,
        length-spliced ps (start + p.len) end f.1.1.1,
      )

-- what a splice says of its length, where its bytes are known
pub counted : (known : Option (List ℕ)) (made : List ℕ) (ps : List Piece) (source_len end : ℕ)
    → IsLength known source_len
    → Follow source_len (length made) 0 ps end
    → IfSome (option_map (λ xs. spliced xs made ps) known) (λ xs. end ≡ length xs)
counted None made ps source_len end measured f = tt
counted (Some xs) made ps source_len end measured f =
    let whole = length-spliced xs made ps 0 end (subst (λ n. Follow n (length made) 0 ps end) measured f) in
    omega (arith, whole)

-- READING

-- a part that passes the end of a splice is none that it has
pub past_end : (known : Option (List ℕ)) (made : List ℕ) (ps : List Piece) (source_len end place n : ℕ)
    (can_refuse : Bool) → IsLength known source_len → Follow source_len (length made) 0 ps end → end < place + n
    → IsRefusal (option_map (λ xs. spliced xs made ps) known) place n can_refuse
past_end None made ps source_len end place n can_refuse measured f past = tt
past_end (Some xs) made ps source_len end place n can_refuse measured f past = λ fits.
    absurd (omega (arith, fits, past, counted (Some xs) made ps source_len end measured f))

-- more of a list that is filled from its front on
pub filled_more : (filled count k : ℕ) (before part xs : List ℕ) → filled ≤ length before → length part ≡ count
    → take filled before ≡ take filled xs → part ≡ take count (drop filled xs)
    → take (filled + count) (put_mid filled k before part) ≡ take (filled + count) xs
filled_more filled count k before part xs fits long front is =
    take-put_mid filled k before part (filled + count) (omega (arith, long)) fits
    ∙ ap (λ (ys : List ℕ). ys ++ part) front
    ∙ ap (λ (ys : List ℕ). take filled xs ++ ys) is
    ∙ sym (take-add filled count xs)

-- it has as many as before
pub length_kept : (filled count : ℕ) (before part : List ℕ) → filled + count ≤ length before → length part ≡ count
    → length (put_mid filled (filled + count - filled) before part) ≡ length before
length_kept filled count before part fits long =
    let k = filled + count - filled in
    omega (
      arith,
      fits,
      long,
      length-append (take filled before) (part ++ post_of filled k before),
      length-append part (post_of filled k before),
      length-take filled before,
      length-drop k (drop filled before),
      length-drop filled before,
    )

-- the bytes from a place on, with those of a piece more
pub more_bytes : (known : Option (List ℕ)) (made : List ℕ) (ps : List Piece) (source_len end place filled count k m : ℕ)
    (p : Piece) (skipped : ℕ) (before part : List ℕ) → IsLength known source_len
    → IsPieceAt source_len (length made) ps (place + filled) p skipped → skipped + count ≤ p.len
    → filled ≤ length before → length part ≡ count → m ≡ count
    → IfSome known (λ xs. part ≡ take m (drop (p.place + skipped) (of_origin p.origin xs made)))
    → IfSome known (λ xs. take filled before ≡ take filled (drop place (spliced xs made ps)))
    → IfSome known (λ xs. take (filled + count) (put_mid filled k before part)
    ≡ take (filled + count) (drop place (spliced xs made ps)))
more_bytes None made ps source_len end place filled count k m p skipped before part measured at short fits long all read
    front = tt
more_bytes (Some xs) made ps source_len end place filled count k m p skipped before part measured at short fits long all
    read front =
    let bytes = spliced xs made ps in
    let next : part ≡ take count (drop filled (drop place bytes)) =
    read ∙ ap (λ n. take n (drop (p.place + skipped) (of_origin p.origin xs made))) all
    ∙ sym (at.bytes xs made count (sym measured) refl short)
    ∙ ap (take count) (sym (drop-drop filled place bytes)) in
    filled_more filled count k before part (drop place bytes) fits long front next

-- all of them
pub all_bytes : (known : Option (List ℕ)) (made : List ℕ) (ps : List Piece) (source_len end place filled n : ℕ)
    (buffer : List ℕ) → IsLength known source_len → Follow source_len (length made) 0 ps end → place + n ≤ end
    → n ≡ length buffer → filled ≡ n
    → IfSome known (λ xs. take filled buffer ≡ take filled (drop place (spliced xs made ps)))
    → IsPartOf (option_map (λ xs. spliced xs made ps) known) place n buffer
all_bytes None made ps source_len end place filled n buffer measured f fits whole all front = tt
all_bytes (Some xs) made ps source_len end place filled n buffer measured f fits whole all front = (
  omega (arith, fits, counted (Some xs) made ps source_len end measured f),
  sym (take_all filled buffer (omega (arith, whole, all))) ∙ front
      ∙ ap (λ k. take k (drop place (spliced xs made ps))) all,
)

-- THE PIECE OF A PLACE

-- a piece, where any will do
some_piece : Piece
some_piece = record { at = 0; origin = Kept; place = 0; len = 0; small = omega arith }

module _ (source_len made_len : ℕ) (ps : List Piece) (end place after : ℕ) (f : Follow source_len made_len 0 ps end)
    (inside : place < end) (bound : after ≤ length ps)
    (point : IsPartitionPoint (λ (p : Piece). leb p.at place ≡ true) (λ (p : Piece). leb p.at place ≡ false) ps after)
  where
    -- the first piece begins at or before each place
    pub some_before : 0 < after
    some_before = by after refl
      where
        by : (n : ℕ) → after ≡ n → 0 < after
        by (suc n) is = omega (arith, is)
        by zero is =
            let one = first source_len made_len ps 0 end some_piece f (omega (arith, inside)) in
            let later = leb-false _ _ (point.1 0 some_piece (omega (arith, is)) one.0) in
            absurd (omega (arith, later, one.1))

    pub last_before : after - 1 < length ps
    last_before = omega (arith, some_before, bound)

    module _ (d : Piece) where
      pub begins : (slice_index_or ps (after - 1) d).at ≤ place
      begins = leb-true _ _ (point.0 (after - 1) d (omega arith) (omega (arith, some_before)))

      -- it ends after the place
      pub ends_after : place < (slice_index_or ps (after - 1) d).at + (slice_index_or ps (after - 1) d).len
      ends_after = by (nat_lt after (length ps)) refl
        where
          there : after - 1 + 1 ≡ after
          there = omega (arith, some_before)

          by : (b : Bool) → nat_lt after (length ps) ≡ b
              → place < (slice_index_or ps (after - 1) d).at + (slice_index_or ps (after - 1) d).len
          by true is =
              let lt = ltb-true after (length ps) is in
              let later = leb-false _ _ (point.1 after d (omega arith) lt) in
              let next = next_begins source_len made_len ps 0 end (after - 1) d f (omega (arith, there, lt)) in
              let same = ap (λ k. (slice_index_or ps k d).at) there in
              omega (arith, later, next, same)
          by false is =
              let le = ltb-false after (length ps) is in
              let last = last_ends source_len made_len ps 0 end (after - 1) d f (omega (arith, there, le, bound)) in
              omega (arith, last, inside)

      pub is_piece : IsPieceAt source_len made_len ps place (slice_index_or ps (after - 1) d)
          (place - (slice_index_or ps (after - 1) d).at)
      is_piece = record {
        there = omega (arith, begins);
        inside = omega (arith, ends_after, begins);
        within = (fits source_len made_len ps 0 end (after - 1) d f last_before).1;
        bytes = λ source made n long_source long_made short.
            let f_here = subst (λ k. Follow (length source) k 0 ps end) (sym long_made)
            (subst (λ k. Follow k made_len 0 ps end) (sym long_source) f) in
            let whole : place ≡ place - 0 = omega arith in
            ap (λ k. take n (drop k (spliced source made ps))) whole
            ∙ piece_part source made ps 0 end (after - 1) d f_here last_before place
            (place - (slice_index_or ps (after - 1) d).at) n (omega (arith, begins)) short;
      }
