-- Boxes that are edited: bytes that may not be there, and boxes around them.
use Rattle.std.proofs.Common.{◌≡◌, ◌∙◌, inl, inr, ℕ, zero, suc, ◌+◌, ◌-◌, ◌^◌, ◌≤◌, ◌<◌, List, [], ◌∷◌, ◌++◌}
use Rattle.std.proofs.Common.{length, take, drop, Option, None, Some, Bool, true, false, if◌then◌else◌, nat_lt}
use Rattle.std.proofs.Common.{refl, sym, ap, append_assoc, arith}
use Rattle.std.proofs.lemmas.Bool.{lt-ltb, le-ltb, ltb-true}
use Rattle.std.proofs.lemmas.List.{length-append, take_at}
use Rattle.byteorder.specs.Endian.{big_number}
use Rattle.mp4_codec.specs.declared.box_type.BoxType.{BoxType}
use Rattle.mp4_codec.specs.declared.error.Error.{Error}
use Rattle.mp4_codec.specs.declared.error.Error.TheVariants.{TooLarge}
use Rattle.mp4_codec.specs.declared.error.Limit.TheVariants.{BoxSize}
use Rattle.mp4_remux.specs.Kept.{IsFirstBox}
use Rattle.mp4_remux.specs.Edit.{box_and, box_of, box_unless_empty, boxes_after, each_box, joined, references_to}
use Rattle.mp4_remux.specs.Edit.{sized_box, tables_at}
use Rattle.mp4_remux.specs.ChunkTable.{chunk_places, offsets_box}
use Rattle.mp4_remux.specs.declared.track_tables.MadeTables.{MadeTables}
use Rattle.mp4_remux.specs.Edited.{EndsSized, IsHeader, IsWhyNone}
use Rattle.mp4_remux.specs.Moved.{size_width, sized}
use Rattle.mp4_remux.specs.References.{Part, contains_id, first_part}
use Rattle.mp4_remux.proofs.Referring.{after_is, first_is, part_of}

-- BYTES AFTER OTHERS

-- two pieces are added
pub both_more : (old mid new a b : List ℕ) → mid ≡ old ++ a → new ≡ mid ++ b → new ≡ old ++ (a ++ b)
both_more old mid new a b first second = second ∙ ap (λ (xs : List ℕ). xs ++ b) first ∙ append_assoc old a b

-- bytes were added that were there
pub record WasAdded (made : Option (List ℕ)) (old new : List ℕ) : Type 0 where
  pub piece : List ℕ
  pub there : made ≡ Some piece
  pub is : new ≡ old ++ piece

pub same_some : (a b : List ℕ) → Some a ≡ Some b → b ≡ a
same_some a b e = cc

pub was_added : (made : Option (List ℕ)) (old new : List ℕ) → joined (Some old) made ≡ Some new
    → WasAdded made old new
was_added None old new e = absurd cc
was_added (Some p) old new e = record { piece = p; there = refl; is = same_some (old ++ p) new e }

pub is_added : (made : Option (List ℕ)) (old new piece : List ℕ) → made ≡ Some piece → new ≡ old ++ piece
    → joined (Some old) made ≡ Some new
is_added made old new piece there is = ap (joined (Some old)) there ∙ ap (λ (xs : List ℕ). Some xs) (sym is)

-- none are there before which others are none
pub none_after : (made : Option (List ℕ)) (old : List ℕ) → joined (Some old) made ≡ None → made ≡ None
none_after None old e = refl
none_after (Some p) old e = absurd cc

pub some_not_none : {X : Type 0} (made : Option X) (piece : X) → made ≡ Some piece → made ≡ None → ⊥
some_not_none made piece some none = absurd cc

-- where these bytes aren't there, those aren't
pub why_none : (made other : Option (List ℕ)) (e : Error) → (made ≡ None → other ≡ None) → IsWhyNone made e
    → IsWhyNone other e
why_none made other e so (inl memory) = inl memory
why_none made other e so (inr (large, none)) = inr (large, so none)

assoc : (a b : List ℕ) (m : Option (List ℕ)) → joined (Some (a ++ b)) m ≡ joined (Some a) (joined (Some b) m)
assoc a b None = refl
assoc a b (Some c) = ap (λ (xs : List ℕ). Some xs) (append_assoc a b c)

-- BOXES WITH THEIR SIZE

-- the size was put
pub ended : (old head payload new : List ℕ) → EndsSized old head payload new
    → joined (Some old) (sized_box head payload) ≡ Some new
ended old head payload new (room, is) =
    rw (lt-ltb (length head + length payload) (256 ^ size_width head) room) (ap (λ (xs : List ℕ). Some xs) (sym is))

-- it can't be said
pub no_size : (head payload : List ℕ) → length head < 16 → 2 ^ 32 ≤ length head + length payload
    → sized_box head payload ≡ None
no_size head payload short large =
    rw (lt-ltb (length head) 16 short, le-ltb (length head + length payload) (2 ^ 32) large) refl

-- a box with its size has room for it
pub sized_is : (head payload made : List ℕ) → sized_box head payload ≡ Some made → EndsSized [] head payload made
sized_is head payload made is = by (nat_lt (length head + length payload) (256 ^ size_width head)) refl is
  where
    by : (b : Bool) → nat_lt (length head + length payload) (256 ^ size_width head) ≡ b
        → (if b then Some (sized head (length payload) ++ payload) else None) ≡ Some made
        → EndsSized [] head payload made
    by true room is = (
      ltb-true (length head + length payload) (256 ^ size_width head) room,
      same_some (sized head (length payload) ++ payload) made is,
    )
    by false room is = absurd cc

module _ (old head base mid : List ℕ) (start : ℕ) (made : Option (List ℕ)) (header : IsHeader head (length head))
    (starts : start ≡ length old) (begun : base ≡ old ++ head) (adds : joined (Some base) made ≡ Some mid) where
  whole : (was : WasAdded made base mid) → mid ≡ old ++ (head ++ was.piece)
  whole was = both_more old base mid head was.piece begun was.is

  -- a box gets its size
  pub box_added : (new : List ℕ)
      → ((before h p : List ℕ) → length before ≡ start → IsHeader h (length head) → mid ≡ before ++ (h ++ p)
      → EndsSized before h p new) → joined (Some old) (box_of head made) ≡ Some new
  box_added new ends =
      let was = was_added made base mid adds in
      ap (λ (m : Option (List ℕ)). joined (Some old) (box_of head m)) was.there
      ∙ ended old head was.piece new (ends old head was.piece (sym starts) header (whole was))

  large_box : (e : Error) → (was : WasAdded made base mid) → start + 2 ^ 32 ≤ length mid
      → 2 ^ 32 ≤ length head + length was.piece
  large_box e was large =
      omega (
        arith,
        starts,
        large,
        ap length (whole was),
        length-append old (head ++ was.piece),
        length-append head was.piece,
      )

  -- or it is too large
  pub box_refused : (e : Error) → (e ≡ TooLarge BoxSize) × ((length head < 16) × (start + 2 ^ 32 ≤ length mid))
      → IsWhyNone (box_of head made) e
  box_refused e (is, (short, large)) =
      let was = was_added made base mid adds in
      inr (inl is, ap (box_of head) was.there ∙ no_size head was.piece short (large_box e was large))

  -- the same of a box that is left out where it is empty
  pub full_added : (new : List ℕ)
      → ((before h p : List ℕ) → length before ≡ start → IsHeader h (length head) → mid ≡ before ++ (h ++ p)
      → joined (Some before) (box_unless_empty h (Some p)) ≡ Some new)
      → joined (Some old) (box_unless_empty head made) ≡ Some new
  full_added new ends =
      let was = was_added made base mid adds in
      ap (λ (m : Option (List ℕ)). joined (Some old) (box_unless_empty head m)) was.there
      ∙ ends old head was.piece (sym starts) header (whole was)

  pub full_refused : (e : Error) → (e ≡ TooLarge BoxSize) × ((length head < 16) × (start + 2 ^ 32 ≤ length mid))
      → IsWhyNone (box_unless_empty head made) e
  full_refused e (is, (short, large)) =
      let was = was_added made base mid adds in
      inr (
        inl is,
        ap (box_unless_empty head) was.there ∙ by was.piece short (large_box e was large),
      )
    where
      by : (p : List ℕ) → length head < 16 → 2 ^ 32 ≤ length head + length p → box_unless_empty head (Some p) ≡ None
      by [] short large = absurd (omega (arith, short, large))
      by (x ∷ xs) short large = no_size head (x ∷ xs) short large

-- TABLES AFTER A BOX

-- they fit
pub tables_fit : (old one mid new box : List ℕ) (base : ℕ) (tables : MadeTables)
    → length (offsets_box (chunk_places base tables.chunks.items)) < 2 ^ 32 → one ≡ old ++ box
    → mid ≡ one ++ tables.bytes.items → new ≡ mid ++ offsets_box (chunk_places base tables.chunks.items)
    → joined (Some old) (joined (Some box) (tables_at base tables)) ≡ Some new
tables_fit old one mid new box base tables fits first second third =
    let table : List ℕ = offsets_box (chunk_places base tables.chunks.items) in
    rw (lt-ltb (length table) (2 ^ 32) fits) (ap (λ (xs : List ℕ). Some xs)
    (sym (both_more old one new box (tables.bytes.items ++ table) first
    (both_more one mid new tables.bytes.items table second third))))

-- BOX AFTER BOX

module _ (change : BoxType → List ℕ → List ℕ → Option (List ℕ)) (last : List ℕ → List ℕ) where
  passed : (n : ℕ) (xs : List ℕ) → boxes_after change last n xs ≡ each_box change last (drop n xs)
  unfolding boxes_after
  passed zero xs = refl
  passed (suc n) [] = refl
  passed (suc n) (x ∷ xs) = passed n xs

  from_first : (xs : List ℕ) (p : Part) (n : ℕ) → 0 < length xs → first_part xs ≡ Some p → p.size ≡ suc n
      → each_box change last xs
      ≡ joined (change p.name (take (p.size - length p.payload) xs) p.payload) (each_box change last (drop p.size xs))
  unfolding boxes_after
  from_first [] p n some is e = absurd (omega (arith, some))
  from_first (x ∷ xs) p n some is e =
      ap (λ (o : Option Part). box_and change last (x ∷ xs) o (λ k. boxes_after change last k xs)) is
      ∙ ap (joined (change p.name (take (p.size - length p.payload) (x ∷ xs)) p.payload))
      (ap (λ k. boxes_after change last k xs) (omega (arith, e)) ∙ passed n xs
      ∙ ap (λ k. each_box change last (drop k (x ∷ xs))) (sym e))

  -- bytes that begin with none
  pub each_end : (bytes : List ℕ) → first_part bytes ≡ None → each_box change last bytes ≡ Some (last bytes)
  unfolding boxes_after
  each_end [] none = refl
  each_end (x ∷ xs) none =
      ap (λ (o : Option Part). box_and change last (x ∷ xs) o (λ k. boxes_after change last k xs)) none

  module _ (bytes : List ℕ) (name : BoxType) (header payload rest : List ℕ) (many : 8 ≤ length header)
      (first : IsFirstBox bytes name header payload rest) where
    -- bytes that begin with a box
    pub each_next : each_box change last bytes ≡ joined (change name header payload) (each_box change last rest)
    each_next =
        let long : length bytes ≡ length header + length (payload ++ rest) =
        ap (λ (xs : List ℕ). length xs) first.all ∙ length-append header (payload ++ rest) in
        let front : take (length header + length payload - length payload) bytes ≡ header =
        ap (λ n. take n bytes) (omega arith) ∙ ap (take (length header)) first.all
        ∙ take_at header (payload ++ rest) (length header) refl in
        from_first bytes (part_of name header payload) (length header + length payload - 1)
        (omega (arith, many, long)) (first_is bytes name header payload rest first) (omega (arith, many))
        ∙ ap (λ (h : List ℕ). joined (change name h payload)
        (each_box change last (drop (length header + length payload) bytes))) front
        ∙ ap (λ (xs : List ℕ). joined (change name header payload) (each_box change last xs))
        (after_is bytes name header payload rest first)

    -- one box more was added
    pub each_more : (old new : List ℕ) → joined (Some old) (change name header payload) ≡ Some new
        → joined (Some new) (each_box change last rest) ≡ joined (Some old) (each_box change last bytes)
    each_more old new adds =
        let was = was_added (change name header payload) old new adds in
        ap (λ (xs : List ℕ). joined (Some xs) (each_box change last rest)) was.is
        ∙ assoc old was.piece (each_box change last rest)
        ∙ sym (ap (joined (Some old)) (each_next ∙ ap (λ (m : Option (List ℕ)). joined m (each_box change last rest))
        was.there))

    -- or it couldn't be
    pub each_none : change name header payload ≡ None → each_box change last bytes ≡ None
    each_none none = each_next ∙ ap (λ (m : Option (List ℕ)). joined m (each_box change last rest)) none

-- REFERENCES

pub references_next : (ids xs : List ℕ) → 4 ≤ length xs
    → references_to ids xs ≡ (if contains_id ids (big_number 4 xs) then take 4 xs ++ references_to ids (drop 4 xs)
    else references_to ids (drop 4 xs))
unfolding references_to
references_next ids [] le = absurd (omega (arith, le))
references_next ids (a ∷ []) le = absurd (omega (arith, le))
references_next ids (a ∷ b ∷ []) le = absurd (omega (arith, le))
references_next ids (a ∷ b ∷ c ∷ []) le = absurd (omega (arith, le))
references_next ids (a ∷ b ∷ c ∷ d ∷ rest) le = refl

pub references_end : (ids xs : List ℕ) → length xs < 4 → references_to ids xs ≡ []
unfolding references_to
references_end ids [] lt = refl
references_end ids (a ∷ []) lt = refl
references_end ids (a ∷ b ∷ []) lt = refl
references_end ids (a ∷ b ∷ c ∷ []) lt = refl
references_end ids (a ∷ b ∷ c ∷ d ∷ rest) lt = absurd (omega (arith, lt))

module _ (ids xs old all : List ℕ) (le : 4 ≤ length xs) (upto : old ++ references_to ids xs ≡ all) where
  -- one more is to one of these tracks
  pub reference_more : (new : List ℕ) → contains_id ids (big_number 4 xs) ≡ true → new ≡ old ++ take 4 xs
      → new ++ references_to ids (drop 4 xs) ≡ all
  reference_more new there is =
      ap (λ (ys : List ℕ). ys ++ references_to ids (drop 4 xs)) is
      ∙ append_assoc old (take 4 xs) (references_to ids (drop 4 xs))
      ∙ ap (λ (ys : List ℕ). old ++ ys) (sym (references_next ids xs le ∙ rw there refl)) ∙ upto

  -- one isn't
  pub reference_less : contains_id ids (big_number 4 xs) ≡ false → old ++ references_to ids (drop 4 xs) ≡ all
  reference_less none = ap (λ (ys : List ℕ). old ++ ys) (sym (references_next ids xs le ∙ rw none refl)) ∙ upto
