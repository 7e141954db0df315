-- Chunk offsets in a table, one after the other.
use Rattle.std.proofs.Common.{◌≡◌, ◌∙◌, ℕ, zero, suc, ◌+◌, ◌-◌, ◌*◌, ◌^◌, ◌≤◌, ◌<◌, Bool, true, false, ◌||◌}
use Rattle.std.proofs.Common.{List, [], ◌∷◌, ◌++◌, length, take, drop, min, refl, sym, ap, append_assoc, arith}
use Rattle.std.proofs.Common.{◌⊎◌, inl, inr}
use Rattle.std.proofs.lemmas.List.{length-append, length-take, drop-drop}
use Rattle.std.proofs.lemmas.Bool.{cases_lt}
use Rattle.std.proofs.lemmas.List.{length-drop, take_all, drop_all}
use Rattle.std.specs.List.{flat_map, list_any}
use Rattle.byteorder.specs.Endian.{big_bytes, big_number}
use Rattle.mp4_remux.specs.declared.chunk_offsets.OffsetWidth.{OffsetWidth}
use Rattle.mp4_remux.specs.declared.chunk_offsets.OffsetWidth.TheVariants.{Narrow, Wide}
use Rattle.mp4_codec.specs.BoxType.{code_of}
use Rattle.mp4_codec.specs.declared.box_type.BoxType.TheVariants.{Co64Box}
use Rattle.mp4_remux.specs.Edited.{IsHeader}
use Rattle.mp4_remux.specs.Moved.{IsUpToTwice, entry_count, is_wide, moved_payload, numbers_in, offsets_in, size_of}
use Rattle.mp4_remux.specs.Moved.{wide_bytes, wide_header, wide_payload}

-- some entries are one and those after it
pub numbers_next : (n size : ℕ) (bytes : List ℕ) → 0 < n
    → numbers_in n size bytes ≡ big_number size bytes ∷ numbers_in (n - 1) size (drop size bytes)
numbers_next zero size bytes some = absurd (omega (arith, some))
numbers_next (suc n) size bytes some =
    ap (λ k. big_number size bytes ∷ numbers_in k size (drop size bytes)) (omega arith)

-- their bytes are there, and so are those of the entries after the first
pub room_next : (n size : ℕ) (bytes : List ℕ) → 0 < n → n * size ≤ length bytes
    → (size ≤ length bytes) × ((n - 1) * size ≤ length (drop size bytes))
room_next zero size bytes some room = absurd (omega (arith, some))
room_next (suc n) size bytes some room =
    let whole : suc n * size ≡ n * size + size = omega arith in
    let less : (suc n - 1) * size ≡ n * size = ap (λ k. k * size) (omega arith) in
    (omega (arith, whole, room), omega (arith, whole, less, room, length-drop size bytes))

-- one passes, so some do
pub any_here : (f : ℕ → Bool) (n size : ℕ) (bytes : List ℕ) → 0 < n → f (big_number size bytes) ≡ true
    → list_any f (numbers_in n size bytes) ≡ true
any_here f n size bytes some is =
    ap (list_any f) (numbers_next n size bytes some)
    ∙ ap (λ b. b || list_any f (numbers_in (n - 1) size (drop size bytes))) is

-- one doesn't, so those after it decide
pub any_later : (f : ℕ → Bool) (n size : ℕ) (bytes : List ℕ) → 0 < n → f (big_number size bytes) ≡ false
    → list_any f (numbers_in n size bytes) ≡ list_any f (numbers_in (n - 1) size (drop size bytes))
any_later f n size bytes some is =
    ap (list_any f) (numbers_next n size bytes some)
    ∙ ap (λ b. b || list_any f (numbers_in (n - 1) size (drop size bytes))) is

-- what each of them becomes, and what those after it do
pub all_next : (f : ℕ → List ℕ) (n size : ℕ) (bytes : List ℕ) → 0 < n
    → flat_map f (numbers_in n size bytes)
    ≡ f (big_number size bytes) ++ flat_map f (numbers_in (n - 1) size (drop size bytes))
all_next f n size bytes some = ap (flat_map f) (numbers_next n size bytes some)

module _ (f : ℕ → List ℕ) (n size : ℕ) (bytes old new all : List ℕ) (some : 0 < n)
    (upto : old ++ flat_map f (numbers_in n size bytes) ≡ all) where
  -- one is added
  pub add_next : new ≡ old ++ f (big_number size bytes)
      → new ++ flat_map f (numbers_in (n - 1) size (drop size bytes)) ≡ all
  add_next more =
      ap (λ (xs : List ℕ). xs ++ flat_map f (numbers_in (n - 1) size (drop size bytes))) more
      ∙ append_assoc old (f (big_number size bytes)) (flat_map f (numbers_in (n - 1) size (drop size bytes)))
      ∙ ap (λ (xs : List ℕ). old ++ xs) (sym (all_next f n size bytes some)) ∙ upto

-- A TABLE

-- the first bytes are before the entries, and all others are those and what is after them
pub fields_are : (payload : List ℕ) → take (min (length payload) 8) payload ≡ take 8 payload
fields_are payload = by (cases_lt (length payload) 8)
  where
    by : (length payload < 8) ⊎ (8 ≤ length payload) → take (min (length payload) 8) payload ≡ take 8 payload
    by (inl few) =
        take_all (min (length payload) 8) payload (omega (arith, few))
        ∙ sym (take_all 8 payload (omega (arith, few)))
    by (inr many) = let is : min (length payload) 8 ≡ 8 = omega (arith, many) in ap (λ n. take n payload) is

pub entries_are : (payload : List ℕ) → drop (min (length payload) 8) payload ≡ drop 8 payload
entries_are payload = by (cases_lt (length payload) 8)
  where
    by : (length payload < 8) ⊎ (8 ≤ length payload) → drop (min (length payload) 8) payload ≡ drop 8 payload
    by (inl few) =
        drop_all (min (length payload) 8) payload (omega (arith, few))
        ∙ sym (drop_all 8 payload (omega (arith, few)))
    by (inr many) = let is : min (length payload) 8 ≡ 8 = omega (arith, many) in ap (λ n. drop n payload) is

-- four pieces are added
pub four_more : (a b c d old one two three four : List ℕ) → one ≡ old ++ a → two ≡ one ++ b → three ≡ two ++ c
    → four ≡ three ++ d → four ≡ old ++ (a ++ (b ++ (c ++ d)))
four_more a b c d old one two three four first second third fourth =
    fourth ∙ ap (λ (xs : List ℕ). xs ++ d) (third ∙ ap (λ (xs : List ℕ). xs ++ c)
    (second ∙ ap (λ (xs : List ℕ). xs ++ b) first))
    ∙ append_assoc ((old ++ a) ++ b) c d ∙ append_assoc (old ++ a) b (c ++ d) ∙ append_assoc old a (b ++ (c ++ d))

module _ (to : ℕ → ℕ) (size : ℕ) (payload : List ℕ) (wide : Bool) where
  -- the payload of the new table, where these are the fields before the entries, and all bytes after them
  pub payload_is : (fields entries : List ℕ) → wide ≡ is_wide to size payload
      → fields ≡ take (min (length payload) 8) payload → entries ≡ drop (min (length payload) 8) payload
      → fields ++ (flat_map (λ offset. wide_bytes wide (to offset)) (numbers_in (entry_count size payload) size entries)
      ++ drop (entry_count size payload * size) entries) ≡ moved_payload to size payload
  payload_is fields entries is first rest =
      rw (
        first,
        fields_are payload,
        rest,
        entries_are payload,
        drop-drop (entry_count size payload * size) 8 payload,
      ) (ap (λ b. wide_payload b to size payload) is)

-- LENGTHS

pub length-numbers : (n size : ℕ) (bytes : List ℕ) → length (numbers_in n size bytes) ≡ n
length-numbers zero size bytes = refl
length-numbers (suc n) size bytes = ap suc (length-numbers n size (drop size bytes))

-- so many offsets of 64 bits, or of either width
pub length-wide : (to : ℕ → ℕ) (offsets : List ℕ)
    → length (flat_map (λ offset. wide_bytes true (to offset)) offsets) ≡ 8 * length offsets
length-wide to [] = refl
length-wide to (x ∷ xs) =
    omega (
      arith,
      length-append (wide_bytes true (to x)) (flat_map (λ offset. wide_bytes true (to offset)) xs),
      length-wide to xs,
    )

pub length-narrow : (to : ℕ → ℕ) (offsets : List ℕ)
    → length (flat_map (λ offset. wide_bytes false (to offset)) offsets) ≡ 4 * length offsets
length-narrow to [] = refl
length-narrow to (x ∷ xs) =
    omega (
      arith,
      length-append (wide_bytes false (to x)) (flat_map (λ offset. wide_bytes false (to offset)) xs),
      length-narrow to xs,
    )

pub length-offsets : (wide : Bool) (to : ℕ → ℕ) (offsets : List ℕ)
    → (4 * length offsets ≤ length (flat_map (λ offset. wide_bytes wide (to offset)) offsets))
    × (length (flat_map (λ offset. wide_bytes wide (to offset)) offsets) ≤ 8 * length offsets)
length-offsets true to offsets = (omega (arith, length-wide to offsets), omega (arith, length-wide to offsets))
length-offsets false to offsets = (omega (arith, length-narrow to offsets), omega (arith, length-narrow to offsets))

-- the new payload has as many bytes as the old one or more, and at most twice as many
pub payload_length : (to : ℕ → ℕ) (width : OffsetWidth) (payload : List ℕ)
    → IsUpToTwice payload (moved_payload to (size_of width) payload)
payload_length to Wide payload =
    let all : List ℕ = flat_map (λ offset. wide_bytes true (to offset)) (offsets_in 8 payload) in
    let last : List ℕ = drop (8 + entry_count 8 payload * 8) payload in
    let whole : length (moved_payload to 8 payload) ≡ length (take 8 payload) + (length all + length last) =
    length-append (take 8 payload) (all ++ last) ∙ ap (λ n. length (take 8 payload) + n) (length-append all last) in
    let many : length all ≡ 8 * entry_count 8 payload = length-wide to (offsets_in 8 payload)
    ∙ ap (λ n. 8 * n) (length-numbers (entry_count 8 payload) 8 (drop 8 payload)) in
    let first = length-take 8 payload in
    let rest = length-drop (8 + entry_count 8 payload * 8) payload in
    (omega (arith, whole, many, first, rest), omega (arith, whole, many, first, rest))
payload_length to Narrow payload =
    let wide : Bool = is_wide to 4 payload in
    let all : List ℕ = flat_map (λ offset. wide_bytes wide (to offset)) (offsets_in 4 payload) in
    let last : List ℕ = drop (8 + entry_count 4 payload * 4) payload in
    let whole : length (moved_payload to 4 payload) ≡ length (take 8 payload) + (length all + length last) =
    length-append (take 8 payload) (all ++ last) ∙ ap (λ n. length (take 8 payload) + n) (length-append all last) in
    let count : length (offsets_in 4 payload) ≡ entry_count 4 payload =
    length-numbers (entry_count 4 payload) 4 (drop 8 payload) in
    let some = length-offsets wide to (offsets_in 4 payload) in
    let first = length-take 8 payload in
    let rest = length-drop (8 + entry_count 4 payload * 4) payload in
    (omega (arith, whole, count, some.0, some.1, first, rest), omega (arith, whole, count, some.0, some.1, first, rest))

-- the type in a header doesn't change how many bytes it has
pub length-wide_header : (wide : Bool) (header : List ℕ) → 8 ≤ length header
    → length (wide_header wide header) ≡ length header
length-wide_header false header many = refl
length-wide_header true header many =
    length-append (take 4 header) (big_bytes 4 (code_of Co64Box) ++ drop 8 header)
    ∙ omega (
      arith,
      many,
      length-take 4 header,
      length-drop 8 header,
      length-append (big_bytes 4 (code_of Co64Box)) (drop 8 header),
    )

-- THE BYTES OF A TABLE

module _ (to : ℕ → ℕ) (size : ℕ) (header payload : List ℕ) where
  -- what is added for a table is its new header and payload
  pub table_is : (wide : Bool) (fields entries old one two three four : List ℕ) → wide ≡ is_wide to size payload
      → fields ≡ take (min (length payload) 8) payload → entries ≡ drop (min (length payload) 8) payload
      → one ≡ old ++ wide_header wide header → two ≡ one ++ fields
      → three ≡ two ++ flat_map (λ offset. wide_bytes wide (to offset))
      (numbers_in (entry_count size payload) size entries)
      → four ≡ three ++ drop (entry_count size payload * size) entries
      → four ≡ old ++ (wide_header (is_wide to size payload) header ++ moved_payload to size payload)
  table_is wide fields entries old one two three four is first rest e1 e2 e3 e4 =
      four_more (wide_header wide header) fields _ _ old one two three four e1 e2 e3 e4
      ∙ ap (λ (xs : List ℕ). old ++ (wide_header wide header ++ xs))
      (payload_is to size payload wide fields entries is first rest)
      ∙ ap (λ b. old ++ (wide_header b header ++ moved_payload to size payload)) is

  -- a header is as long as before
  pub table_header : IsHeader header (length header)
      → IsHeader (wide_header (is_wide to size payload) header) (length header)
  table_header (is, inl short) =
      (length-wide_header (is_wide to size payload) header (omega (arith, short)), inl short)
  table_header (is, inr long) =
      (length-wide_header (is_wide to size payload) header (omega (arith, long)), inr long)

-- a table that would be too large has half as many bytes at least
pub too_large : (to : ℕ → ℕ) (width : OffsetWidth) (header payload old new : List ℕ) (start : ℕ) → 8 ≤ length header
    → new ≡ old ++ (wide_header (is_wide to (size_of width) payload) header ++ moved_payload to (size_of width) payload)
    → start ≡ length old → start + 2 ^ 32 ≤ length new → 2 ^ 31 ≤ length (header ++ payload)
too_large to width header payload old new start many is begins large =
    let made : List ℕ = moved_payload to (size_of width) payload in
    let head : List ℕ = wide_header (is_wide to (size_of width) payload) header in
    let whole : length new ≡ length old + (length head + length made) = ap (λ (xs : List ℕ). length xs) is
    ∙ length-append old (head ++ made) ∙ ap (λ n. length old + n) (length-append head made) in
    omega (
      arith,
      whole,
      begins,
      large,
      length-wide_header (is_wide to (size_of width) payload) header many,
      (payload_length to width payload).1,
      length-append header payload,
    )

-- and its size can't be said
pub past_32_bits : (to : ℕ → ℕ) (size : ℕ) (header payload old new : List ℕ) (start : ℕ) → 8 ≤ length header
    → new ≡ old ++ (wide_header (is_wide to size payload) header ++ moved_payload to size payload)
    → start ≡ length old → start + 2 ^ 32 ≤ length new
    → 2 ^ 32 ≤ length (wide_header (is_wide to size payload) header) + length (moved_payload to size payload)
past_32_bits to size header payload old new start many is begins large =
    let head : List ℕ = wide_header (is_wide to size payload) header in
    let whole : length new ≡ length old + (length head + length (moved_payload to size payload)) =
    ap (λ (xs : List ℕ). length xs) is ∙ length-append old (head ++ moved_payload to size payload)
    ∙ ap (λ n. length old + n) (length-append head (moved_payload to size payload)) in
    omega (arith, whole, begins, large)
