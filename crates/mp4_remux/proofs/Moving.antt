-- Movie boxes with other chunk offsets.
use Rattle.std.proofs.Common.{◌≡◌, ◌∙◌, ◌⊎◌, inl, inr, ℕ, ◌+◌, ◌^◌, ◌≤◌, ◌<◌, List, [], ◌++◌, length, take, drop}
use Rattle.std.proofs.Common.{Some, Bool, true, false, if◌then◌else◌, nat_lt, refl, sym, ap, subst}
use Rattle.std.proofs.Common.{append_assoc, arith}
use Rattle.std.proofs.lemmas.List.{drop_at, length-append, length-take, take_at as take_front}
use Rattle.byteorder.specs.Endian.{big_bytes, big_number}
use Rattle.byteorder.specs.Numbers.{big_from-append, big_from-take}
use Rattle.mp4_codec.specs.BoxType.{box_type, code_of}
use Rattle.mp4_codec.specs.declared.error.Error.{Error}
use Rattle.mp4_codec.specs.declared.error.Error.TheVariants.{TooLarge}
use Rattle.mp4_codec.specs.declared.error.Limit.TheVariants.{BoxSize}
use Rattle.mp4_codec.specs.declared.box_type.BoxType.{BoxType}
use Rattle.mp4_codec.specs.declared.box_type.BoxType.TheVariants.{MoovBox, TrakBox, MdiaBox, MinfBox, StblBox}
use Rattle.mp4_codec.specs.declared.box_type.BoxType.TheVariants.{StcoBox, Co64Box}
use Rattle.mp4_remux.specs.Kept.{IsAmong, IsFirstBox, IsKept, entered, offsets, same, next, inside, other, more}
use Rattle.mp4_remux.specs.declared.chunk_offsets.OffsetWidth.{OffsetWidth}
use Rattle.mp4_remux.specs.declared.chunk_offsets.OffsetWidth.TheVariants.{Narrow, Wide}
use Rattle.mp4_remux.specs.Edited.{IsHeader}
use Rattle.mp4_remux.specs.Moved.{HasRoom, IsMovedAt, IsUpToTwice, IsWhyNotMoved, as_it_is, entry_size, is_wide}
use Rattle.mp4_remux.specs.Moved.{level_of, moved_payload, moved_table, no_box, of_offsets, on_the_way}
use Rattle.mp4_remux.specs.Moved.{size_of, sized, wide_header}
use Rattle.mp4_remux.proofs.Offsets.{length-wide_header, payload_length, table_header}
use Rattle.mp4_remux.proofs.Sizing.{SaysType, first_again, is_header, length-sized, says_type, sized_first}

-- a table has entries of one of two sizes
pub width_is : (name : BoxType) (size : ℕ) → entry_size name ≡ Some size
    → (width : OffsetWidth) × (size ≡ size_of width)
width_is StcoBox size is = (Narrow, cc)
width_is Co64Box size is = (Wide, cc)
width_is _ size is = absurd cc

-- LENGTHS

pub first_length : (bytes : List ℕ) (name : BoxType) (header payload rest : List ℕ)
    → IsFirstBox bytes name header payload rest → length bytes ≡ length header + (length payload + length rest)
first_length bytes name header payload rest first =
    ap (λ (xs : List ℕ). length xs) first.all ∙ length-append header (payload ++ rest)
    ∙ ap (λ n. length header + n) (length-append payload rest)

own_header : (head : List ℕ) (n : ℕ) → IsHeader head n → IsHeader head (length head)
own_header head n (is, inl short) = (refl, inl (is ∙ short))
own_header head n (is, inr long) = (refl, inr (is ∙ long))

-- a table has as many bytes as before or more, and at most twice as many
table_length : (to : ℕ → ℕ) (width : OffsetWidth) (header payload : List ℕ) → IsHeader header (length header)
    → IsUpToTwice (header ++ payload) (moved_table to (size_of width) header payload)
table_length to width header payload is =
    let size : ℕ = size_of width in
    let wide = is_wide to size payload in
    let head : List ℕ = wide_header wide header in
    let made : List ℕ = moved_payload to size payload in
    let same : IsHeader head (length header) = table_header to size header payload is in
    let long : length (sized head (length made)) ≡ length header =
    length-sized head (length made) (own_header head (length header) same) ∙ same.0 in
    let whole : length (sized head (length made) ++ made) ≡ length (sized head (length made)) + length made =
    length-append (sized head (length made)) made in
    let before : length (header ++ payload) ≡ length header + length payload = length-append header payload in
    let payloads = payload_length to width payload in
    (omega (arith, long, whole, before, payloads.0), omega (arith, long, whole, before, payloads.1))

-- what is added for a box, and what comes after it
piece_length : (piece after ys : List ℕ) → ys ≡ piece ++ after → length ys ≡ length piece + length after
piece_length piece after ys is = ap (λ (zs : List ℕ). length zs) is ∙ length-append piece after

-- moved bytes are as many as before or more, and at most twice as many
pub moved_length : (to : ℕ → ℕ) (level : ℕ) (xs ys : List ℕ) → IsMovedAt to level xs ys → IsUpToTwice xs ys
moved_length to level xs ys (no_box _ _ none) = (omega arith, omega arith)
moved_length to level xs ys
    (on_the_way _ _ _ rest rest_after name header payload payload_after first way within room others is) =
    let inner = moved_length to (level + 1) payload payload_after within in
    let later = moved_length to level rest rest_after others in
    let long = first_length xs name header payload rest first in
    let sizes = length-sized header (length payload_after) (is_header xs name header payload rest first) in
    let whole = piece_length (sized header (length payload_after)) (payload_after ++ rest_after) ys is in
    let parts = length-append payload_after rest_after in (
      omega (arith, inner.0, later.0, long, sizes, whole, parts),
      omega (arith, inner.1, later.1, long, sizes, whole, parts),
    )
moved_length to level xs ys
    (of_offsets _ _ _ rest rest_after name header payload size first five table room others is) =
    let w = width_is name size table in
    let later = moved_length to level rest rest_after others in
    let long = first_length xs name header payload rest first in
    let made : List ℕ = moved_table to (size_of w.0) header payload in
    let tables = table_length to w.0 header payload (is_header xs name header payload rest first) in
    let same : ys ≡ made ++ rest_after = is ∙ ap (λ n. moved_table to n header payload ++ rest_after) w.1 in
    let whole = piece_length made rest_after ys same in
    let before = length-append header payload in (
      omega (arith, tables.0, later.0, long, whole, before),
      omega (arith, tables.1, later.1, long, whole, before),
    )
moved_length to level xs ys
    (as_it_is _ _ _ rest rest_after name header payload first no_way no_table others is) =
    let later = moved_length to level rest rest_after others in
    let long = first_length xs name header payload rest first in
    let whole = piece_length header (payload ++ rest_after) ys is in
    let parts = length-append payload rest_after in
    (omega (arith, later.0, long, whole, parts), omega (arith, later.1, long, whole, parts))

-- KEPT

at_least : (header : List ℕ) → IsHeader header (length header) → 8 ≤ length header
at_least header (is, inl short) = omega (arith, short)
at_least header (is, inr long) = omega (arith, long)

-- the boxes on the way are those that are entered
way_entered : (name : BoxType) (level : ℕ) → level_of name ≡ Some level → IsAmong entered name
way_entered MoovBox level is = refl
way_entered TrakBox level is = refl
way_entered MdiaBox level is = refl
way_entered MinfBox level is = refl
way_entered StblBox level is = refl
way_entered _ level is = absurd cc

-- a table is one of those that may be others
pub table_among : (name : BoxType) (size : ℕ) → entry_size name ≡ Some size → IsAmong offsets name
table_among StcoBox size is = refl
table_among Co64Box size is = refl
table_among _ size is = absurd cc

-- the header of a table of 64 bits says so
wide_says : (header : List ℕ) (name : BoxType) → 8 ≤ length header → SaysType header name
    → SaysType (wide_header true header) Co64Box
unfolding box_type
wide_says header name many says =
    record { type_is = ap (λ (xs : List ℕ). box_type (big_number 4 xs)) type; kind = by says.kind }
  where
    four : length (take 4 header) ≡ 4
    four = omega (arith, length-take 4 header, many)

    front : take 8 (wide_header true header) ≡ take 4 header ++ big_bytes 4 (code_of Co64Box)
    front =
        ap (take 8) (sym (append_assoc (take 4 header) (big_bytes 4 (code_of Co64Box)) (drop 8 header)))
        ∙ take_front (take 4 header ++ big_bytes 4 (code_of Co64Box)) (drop 8 header) 8
        (length-append (take 4 header) (big_bytes 4 (code_of Co64Box)) ∙ omega (arith, four))

    type : drop 4 (take 8 (wide_header true header)) ≡ big_bytes 4 (code_of Co64Box)
    type = ap (drop 4) front ∙ drop_at (take 4 header) (big_bytes 4 (code_of Co64Box)) 4 four

    size : big_number 4 (take 8 (wide_header true header)) ≡ big_number 4 (take 8 header)
    size =
        big_from-take 0 4 8 (wide_header true header) (omega arith)
        ∙ big_from-append 4 (take 4 header) (big_bytes 4 (code_of Co64Box) ++ drop 8 header) (omega (arith, four))
        ∙ big_from-take 0 4 4 header (omega arith) ∙ sym (big_from-take 0 4 8 header (omega arith))

    by : (length header ≡ 8) ⊎ ((length header ≡ 16) × (big_number 4 (take 8 header) ≡ 1))
        → (length (wide_header true header) ≡ 8)
        ⊎ ((length (wide_header true header) ≡ 16) × (big_number 4 (take 8 (wide_header true header)) ≡ 1))
    by (inl short) = inl (length-wide_header true header many ∙ short)
    by (inr long) = inr (length-wide_header true header many ∙ long.0, size ∙ long.1)

-- the header of a table that was moved says that it is one
pub record SaysTable (header : List ℕ) : Type 0 where
  pub name : BoxType
  pub says : SaysType header name
  pub among : IsAmong offsets name

pub table_says : (wide : Bool) (header : List ℕ) (name : BoxType) → 8 ≤ length header → SaysType header name
    → IsAmong offsets name → SaysTable (wide_header wide header)
table_says false header name many says among = record { name = name; says = says; among = among }
table_says true header name many says among =
    record { name = Co64Box; says = wide_says header name many says; among = refl }

-- a movie box with other chunk offsets is as it was but for those
pub moved_is_kept : (to : ℕ → ℕ) (level : ℕ) (xs ys : List ℕ) → IsMovedAt to level xs ys → IsKept offsets [] xs ys
moved_is_kept to level xs ys (no_box _ _ none) = same xs
moved_is_kept to level xs ys
    (on_the_way _ _ _ rest rest_after name header payload payload_after first way within room others is) =
    let says = says_type xs name header payload rest first in
    subst (λ (zs : List ℕ). IsKept offsets [] xs zs) (sym is)
    (inside xs _ rest rest_after name header (sized header (length payload_after)) payload payload_after first
    (sized_first name header payload_after rest_after says room) (way_entered name level way)
    (moved_is_kept to (level + 1) payload payload_after within) (moved_is_kept to level rest rest_after others))
moved_is_kept to level xs ys
    (of_offsets _ _ _ rest rest_after name header payload size first five table room others is) =
    let among = table_among name size table in
    let made : List ℕ = moved_payload to size payload in
    let many : 8 ≤ length header = at_least header (is_header xs name header payload rest first) in
    let says = table_says (is_wide to size payload) header name many (says_type xs name header payload rest first)
    among in
    let head : List ℕ = wide_header (is_wide to size payload) header in
    let long : length header ≡ length head = sym (length-wide_header (is_wide to size payload) header many) in
    let fits : HasRoom head (length made) =
    subst (λ k. k + length made < 256 ^ (if nat_lt k 16 then 4 else 8)) long room in
    let whole : ys ≡ sized head (length made) ++ (made ++ rest_after) =
    is ∙ append_assoc (sized head (length made)) made rest_after in
    other xs ys rest name header payload first among
    (subst (λ (zs : List ℕ). IsKept offsets [] rest zs) (sym whole)
    (more rest _ rest_after says.name (sized head (length made)) made
    (sized_first says.name head made rest_after says.says fits) says.among
    (moved_is_kept to level rest rest_after others)))
moved_is_kept to level xs ys
    (as_it_is _ _ _ rest rest_after name header payload first no_way no_table others is) =
    subst (λ (zs : List ℕ). IsKept offsets [] xs zs) (sym is)
    (next xs (header ++ (payload ++ rest_after)) rest rest_after name header payload first
    (first_again xs name header payload rest first rest_after) (moved_is_kept to level rest rest_after others))

-- WHY NOT

-- bytes in which these are aren't moved for the same
pub not_moved : (xs bytes : List ℕ) (e : Error) → length xs ≤ length bytes → IsWhyNotMoved xs e → IsWhyNotMoved bytes e
not_moved xs bytes e le (inl memory) = inl memory
not_moved xs bytes e le (inr large) = inr (large.0, omega (arith, le, large.1))

module _ (bytes rest : List ℕ) (name : BoxType) (header payload rest' : List ℕ)
    (first : IsFirstBox rest name header payload rest') (less : length rest ≤ length bytes) (e : Error) where
  -- a box isn't added
  pub box_not_moved : IsWhyNotMoved (header ++ payload) e → IsWhyNotMoved bytes e
  box_not_moved why =
      let long = first_length rest name header payload rest' first in
      not_moved (header ++ payload) bytes e (omega (arith, long, less, length-append header payload)) why

  -- the size of a box on the way is too large
  pub way_not_moved : (to : ℕ → ℕ) (level start : ℕ) (now base new after : List ℕ) → start ≡ length now
      → base ≡ now ++ header → new ≡ base ++ after → IsMovedAt to level payload after
      → (e ≡ TooLarge BoxSize) × (start + 2 ^ 32 ≤ length new) → IsWhyNotMoved bytes e
  way_not_moved to level start now base new after begins begun is moved why =
      let long = first_length rest name header payload rest' first in
      let inner = moved_length to level payload after moved in
      let whole = piece_length base after new is in
      let before : length base ≡ length now + length header = ap (λ (xs : List ℕ). length xs) begun
      ∙ length-append now header in
      inr (why.0, omega (arith, long, less, begins, inner.1, whole, before, why.1))
