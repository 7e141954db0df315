-- A movie box whose chunk offsets are moved farther has no fewer bytes.
use Rattle.std.proofs.Common.{◌≡◌, ◌∙◌, ◌+◌, ◌-◌, ◌*◌, ◌^◌, ◌≤◌, ◌==◌, ◌||◌, ◌++◌}
use Rattle.std.proofs.Common.{ℕ, min, Bool, true, false, if◌then◌else◌, nat_lt, List, [], ◌∷◌, length, take, drop}
use Rattle.std.proofs.Common.{Option, None, Some, Result, Ok, Err, refl, sym, ap, subst, arith}
use Rattle.std.proofs.lemmas.Bool.{ltb-true, lt-ltb, le-ltb, ne_eqb}
use Rattle.std.proofs.lemmas.List.{length-append, length-drop, length-take, take_at, drop_at}
use Rattle.std.specs.List.{flat_map, list_any}
use Rattle.byteorder.specs.Endian.{big_bytes}
use Rattle.byteorder.specs.Numbers.{length-bytes_high_first}
use Rattle.mp4_codec.specs.BoxType.{code_of}
use Rattle.mp4_codec.specs.Cause.{Cause}
use Rattle.mp4_codec.specs.Cursor.{Cursor, here}
use Rattle.mp4_codec.specs.declared.box_type.BoxType.{BoxType}
use Rattle.mp4_codec.specs.declared.box_type.BoxType.TheVariants.{StcoBox, Co64Box}
use Rattle.mp4_codec.specs.declared.header.BoxHeader.{BoxHeader}
use Rattle.mp4_codec.proofs.HeadLaws.{header_read}
use Rattle.mp4_remux.specs.Kept.{IsFirstBox}
use Rattle.mp4_remux.specs.Moved.{IsMovedAt, entry_count, entry_size, is_wide, level_of, moved_payload}
use Rattle.mp4_remux.specs.Moved.{moved_table, offsets_in, passes, sized, wide_bytes, wide_header, wide_payload}
use Rattle.mp4_remux.specs.Moved.{no_box, on_the_way, of_offsets, as_it_is}
use Rattle.mp4_remux.specs.References.{first_part, part_after, part_with}

-- LENGTHS

pub length-big : (n x : ℕ) → length (big_bytes n x) ≡ n
length-big n x = length-bytes_high_first n x

-- a header with a size has as many bytes whatever the size is, and whatever header of that length it is
abbrev pub sized_len : ℕ → ℕ
sized_len n = if nat_lt n 16 then 4 + (n - 4) else min 8 n + 8

pub length-sized : (header : List ℕ) (n : ℕ) → length (sized header n) ≡ sized_len (length header)
length-sized header n = by (nat_lt (length header) 16) refl
  where
    by : (b : Bool) → nat_lt (length header) 16 ≡ b → length (sized header n) ≡ sized_len (length header)
    by true e =
        rw e (length-append (big_bytes 4 (length header + n)) (drop 4 header)
        ∙ omega (arith, length-big 4 (length header + n), length-drop 4 header))
    by false e =
        rw e (length-append (take 8 header) (big_bytes 8 (length header + n))
        ∙ omega (arith, length-big 8 (length header + n), length-take 8 header))

length-wide : (wide : Bool) (header : List ℕ) → 8 ≤ length header → length (wide_header wide header) ≡ length header
length-wide true header long =
    length-append (take 4 header) (big_bytes 4 (code_of Co64Box) ++ drop 8 header)
    ∙ omega (
      arith,
      length-append (big_bytes 4 (code_of Co64Box)) (drop 8 header),
      length-big 4 (code_of Co64Box),
      length-drop 8 header,
      length-take 4 header,
      long,
    )
length-wide false header long = refl

abbrev width : Bool → ℕ
width wide = if wide then 8 else 4

length-offset : (wide : Bool) (offset : ℕ) → length (wide_bytes wide offset) ≡ width wide
length-offset true offset = length-big 8 offset
length-offset false offset = length-big 4 offset

-- offsets of more bytes have more
flat_longer : (wide more : Bool) (to up : ℕ → ℕ) (offsets : List ℕ) → width wide ≤ width more
    → length (flat_map (λ offset. wide_bytes wide (to offset)) offsets)
    ≤ length (flat_map (λ offset. wide_bytes more (up offset)) offsets)
flat_longer wide more to up [] le = omega arith
flat_longer wide more to up (o ∷ os) le =
    omega (
      arith,
      length-append (wide_bytes wide (to o)) (flat_map (λ offset. wide_bytes wide (to offset)) os),
      length-append (wide_bytes more (up o)) (flat_map (λ offset. wide_bytes more (up offset)) os),
      length-offset wide (to o),
      length-offset more (up o),
      flat_longer wide more to up os le,
      le,
    )

payload_longer : (wide more : Bool) (to up : ℕ → ℕ) (size : ℕ) (payload : List ℕ) → width wide ≤ width more
    → length (wide_payload wide to size payload) ≤ length (wide_payload more up size payload)
payload_longer wide more to up size payload le =
    let os = offsets_in size payload in
    let rest = drop (8 + entry_count size payload * size) payload in
    let one = flat_map (λ offset. wide_bytes wide (to offset)) os in
    let two = flat_map (λ offset. wide_bytes more (up offset)) os in
    omega (
      arith,
      length-append (take 8 payload) (one ++ rest),
      length-append one rest,
      length-append (take 8 payload) (two ++ rest),
      length-append two rest,
      flat_longer wide more to up os le,
    )

-- OFFSETS THAT PASS 32 BITS

pub or_more : (a b c d : Bool) → (a ≡ true → c ≡ true) → (b ≡ true → d ≡ true) → (a || b) ≡ true → (c || d) ≡ true
or_more true b c d first second is = rw (first refl) refl
or_more false b true d first second is = refl
or_more false b false d first second is = second is

module _ (to up : ℕ → ℕ) (farther : (place : ℕ) → to place ≤ up place) where
  passes_too : (offsets : List ℕ) → list_any (passes to) offsets ≡ true → list_any (passes up) offsets ≡ true
  passes_too [] is = is
  passes_too (o ∷ os) is =
      or_more (passes to o) (list_any (passes to) os) (passes up o) (list_any (passes up) os)
      (λ past. lt-ltb (2 ^ 32 - 1) (up o) (omega (arith, ltb-true (2 ^ 32 - 1) (to o) past, farther o)))
      (passes_too os) is

  wide_too : (size : ℕ) (payload : List ℕ) → is_wide to size payload ≡ true → is_wide up size payload ≡ true
  wide_too size payload wide =
      or_more (size == 8) (list_any (passes to) (offsets_in size payload)) (size == 8)
      (list_any (passes up) (offsets_in size payload)) (λ e. e) (passes_too (offsets_in size payload)) wide

  wider : (size : ℕ) (payload : List ℕ) → width (is_wide to size payload) ≤ width (is_wide up size payload)
  wider size payload = by (is_wide to size payload) (is_wide up size payload) (wide_too size payload)
    where
      by : (wide more : Bool) → (wide ≡ true → more ≡ true) → width wide ≤ width more
      by true true too = omega arith
      by true false too = absurd (let no = too refl in absurd cc)
      by false true too = omega arith
      by false false too = omega arith

  -- a table has no fewer bytes
  pub table_longer : (size : ℕ) (header payload : List ℕ) → 8 ≤ length header
      → length (moved_table to size header payload) ≤ length (moved_table up size header payload)
  table_longer size header payload long =
      let wide = is_wide to size payload in
      let more = is_wide up size payload in
      let one = moved_payload to size payload in
      let two = moved_payload up size payload in
      let heads : length (sized (wide_header wide header) (length one))
      ≡ length (sized (wide_header more header) (length two)) =
      length-sized (wide_header wide header) (length one)
      ∙ ap sized_len (length-wide wide header long ∙ sym (length-wide more header long))
      ∙ sym (length-sized (wide_header more header) (length two)) in
      omega (
        arith,
        length-append (sized (wide_header wide header) (length one)) one,
        length-append (sized (wide_header more header) (length two)) two,
        heads,
        payload_longer wide more to up size payload (wider size payload),
      )

-- THE BOX WITH WHICH BYTES BEGIN

name_in : Result (BoxHeader × Cursor) Cause → BoxType → BoxType
name_in (Ok x) name = x.0.name
name_in (Err c) name = name

size_in : Result (BoxHeader × Cursor) Cause → ℕ
size_in (Ok x) = x.0.size
size_in (Err c) = 0

place_in : Result (BoxHeader × Cursor) Cause → ℕ
place_in (Ok x) = x.1.position
place_in (Err c) = 0

-- two boxes with which bytes begin are one
pub record AreSame (name other : BoxType) (header header_too payload payload_too rest rest_too : List ℕ) : Type 0 where
  pub names : name ≡ other
  pub headers : header ≡ header_too
  pub payloads : payload ≡ payload_too
  pub rests : rest ≡ rest_too

parts_of : (xs a b c d : List ℕ) → xs ≡ a ++ b → xs ≡ c ++ d → length a ≡ length c → (a ≡ c) × (b ≡ d)
parts_of xs a b c d one two long = (
  sym (take_at a b (length a) refl) ∙ ap (take (length a)) (sym one ∙ two)
      ∙ ap (λ n. take n (c ++ d)) long ∙ take_at c d (length c) refl,
  sym (drop_at a b (length a) refl) ∙ ap (drop (length a)) (sym one ∙ two)
      ∙ ap (λ n. drop n (c ++ d)) long ∙ drop_at c d (length c) refl,
)

pub same_first : (xs : List ℕ) (name other : BoxType) (header header_too payload payload_too rest rest_too : List ℕ)
    → IsFirstBox xs name header payload rest → IsFirstBox xs other header_too payload_too rest_too
    → AreSame name other header header_too payload payload_too rest rest_too
unfolding name_in size_in place_in
same_first xs name other header header_too payload payload_too rest rest_too first second =
    let both = sym first.head ∙ second.head in
    let size : 8 + length payload ≡ 8 + length payload_too = ap size_in both in
    let long : length header ≡ length header_too = ap place_in both in
    let one = parts_of xs header (payload ++ rest) header_too (payload_too ++ rest_too) first.all second.all long in
    let two = parts_of (payload ++ rest) payload rest payload_too rest_too refl one.1 (omega (arith, size)) in
    record { names = ap (λ r. name_in r name) both; headers = one.0; payloads = two.0; rests = two.1 }

-- the header of a box has 8 bytes or more
pub first_long : (xs : List ℕ) (name : BoxType) (header payload rest : List ℕ) → IsFirstBox xs name header payload rest
    → 8 ≤ length header
first_long xs name header payload rest first =
    omega (arith, (header_read (here xs 0) _ (here xs (length header)) first.head).moves)

-- bytes that begin with a box don't begin with none
pub begins : (xs : List ℕ) (name : BoxType) (header payload rest : List ℕ) → IsFirstBox xs name header payload rest
    → first_part xs ≡ None → ⊥
unfolding first_part
begins xs name header payload rest first none =
    let inside : nat_lt (length xs) (length header + (8 + length payload - 8)) ≡ false =
    le-ltb (length xs) (length header + (8 + length payload - 8)) (omega (
      arith,
      ap length first.all,
      length-append header (payload ++ rest),
      length-append payload rest,
    )) in
    let some : ((8 + length payload) == 0) ≡ false = ne_eqb (8 + length payload) 0 (λ e. omega (arith, e)) in
    let part : part_with xs (record { name = name; size = 8 + length payload }) (length header) ≡ None =
    sym (ap (part_after xs) first.head) ∙ none in
    let no = rw (some, inside) at part in absurd cc

-- WHAT BYTES BECOME

-- what a level's bytes become that begin with a box
pub data Becomes (up : ℕ → ℕ) (level : ℕ) (name : BoxType) (header payload rest zs : List ℕ) : Type 0 where
  way : (payload_after rest_after : List ℕ) → level_of name ≡ Some level
      → IsMovedAt up (level + 1) payload payload_after → IsMovedAt up level rest rest_after
      → zs ≡ sized header (length payload_after) ++ (payload_after ++ rest_after)
      → Becomes up level name header payload rest zs
  table : (rest_after : List ℕ) (size : ℕ) → level ≡ 5 → entry_size name ≡ Some size
      → IsMovedAt up level rest rest_after
      → zs ≡ moved_table up size header payload ++ rest_after → Becomes up level name header payload rest zs
  stays : (rest_after : List ℕ) → (level_of name ≡ Some level → ⊥) → (level ≡ 5 → entry_size name ≡ None)
      → IsMovedAt up level rest rest_after → zs ≡ header ++ (payload ++ rest_after)
      → Becomes up level name header payload rest zs

-- the same of a box that is another
becomes_too : (up : ℕ → ℕ) (level : ℕ) (name other : BoxType)
    (header header_too payload payload_too rest rest_too zs : List ℕ)
    → AreSame name other header header_too payload payload_too rest rest_too
    → Becomes up level name header payload rest zs → Becomes up level other header_too payload_too rest_too zs
becomes_too up level name other header header_too payload payload_too rest rest_too zs same becomes =
    subst (λ (r : List ℕ). Becomes up level other header_too payload_too r zs) same.rests
    (subst (λ (p : List ℕ). Becomes up level other header_too p rest zs) same.payloads
    (subst (λ (h : List ℕ). Becomes up level other h payload rest zs) same.headers
    (subst (λ (n : BoxType). Becomes up level n header payload rest zs) same.names becomes)))

pub becomes : (up : ℕ → ℕ) (level : ℕ) (xs zs : List ℕ) → IsMovedAt up level xs zs → (name : BoxType)
    (header payload rest : List ℕ) → IsFirstBox xs name header payload rest
    → Becomes up level name header payload rest zs
becomes up level xs zs (no_box l bytes none) name header payload rest first =
    absurd (begins xs name header payload rest first none)
becomes up level xs zs (on_the_way l before after r ra n h p pa own is inner room m e) name header payload rest first =
    becomes_too up level n name h header p payload r rest zs (same_first xs n name h header p payload r rest own first)
    (way pa ra is inner m e)
becomes up level xs zs (of_offsets l before after r ra n h p size own five is room m e) name header payload rest first =
    becomes_too up level n name h header p payload r rest zs (same_first xs n name h header p payload r rest own first)
    (table ra size five is m e)
becomes up level xs zs (as_it_is l before after r ra n h p own isnt none m e) name header payload rest first =
    becomes_too up level n name h header p payload r rest zs (same_first xs n name h header p payload r rest own first)
    (stays ra isnt none m e)

pub some_or_none : (size : ℕ) (o : Option ℕ) → o ≡ Some size → o ≡ None → ⊥
some_or_none size o is none = absurd cc

-- a box on the way is no table
pub no_table : (name : BoxType) (level size : ℕ) → level_of name ≡ Some level → entry_size name ≡ Some size → ⊥
no_table StcoBox level size on is = absurd cc
no_table Co64Box level size on is = absurd cc
no_table _ level size on is = absurd cc

pub three : (a b c : List ℕ) → length (a ++ (b ++ c)) ≡ length a + (length b + length c)
three a b c = omega (arith, length-append a (b ++ c), length-append b c)

module _ (to up : ℕ → ℕ) (farther : (place : ℕ) → to place ≤ up place) where
  way_longer : (level : ℕ) (name : BoxType) (header payload rest pa ra ys zs : List ℕ) → level_of name ≡ Some level
      → ((q : List ℕ) → IsMovedAt up (level + 1) payload q → length pa ≤ length q)
      → ((q : List ℕ) → IsMovedAt up level rest q → length ra ≤ length q)
      → ys ≡ sized header (length pa) ++ (pa ++ ra) → Becomes up level name header payload rest zs
      → length ys ≤ length zs
  way_longer level name header payload rest pa ra ys zs is inner others e (way pb rb also m rests f) =
      let heads = length-sized header (length pa) ∙ sym (length-sized header (length pb)) in
      omega (
        arith,
        ap length e ∙ three (sized header (length pa)) pa ra,
        ap length f ∙ three (sized header (length pb)) pb rb,
        heads,
        inner pb m,
        others rb rests,
      )
  way_longer level name header payload rest pa ra ys zs is inner others e (table rb size five entry rests f) =
      absurd (no_table name level size is entry)
  way_longer level name header payload rest pa ra ys zs is inner others e (stays rb isnt none rests f) =
      absurd (isnt is)

  offsets_longer : (level : ℕ) (name : BoxType) (header payload rest ra ys zs : List ℕ) (size : ℕ) → level ≡ 5
      → entry_size name ≡ Some size → 8 ≤ length header
      → ((q : List ℕ) → IsMovedAt up level rest q → length ra ≤ length q)
      → ys ≡ moved_table to size header payload ++ ra → Becomes up level name header payload rest zs
      → length ys ≤ length zs
  offsets_longer level name header payload rest ra ys zs size five is long others e (way pb rb way_is m rests f) =
      absurd (no_table name level size way_is is)
  offsets_longer level name header payload rest ra ys zs size five is long others e (table rb other six also rests f) =
      let same : other ≡ size = cc in
      let g : zs ≡ moved_table up size header payload ++ rb =
      f ∙ ap (λ n. moved_table up n header payload ++ rb) same in
      omega (
        arith,
        ap length e ∙ length-append (moved_table to size header payload) ra,
        ap length g ∙ length-append (moved_table up size header payload) rb,
        table_longer to up farther size header payload long,
        others rb rests,
      )
  offsets_longer level name header payload rest ra ys zs size five is long others e (stays rb isnt none rests f) =
      absurd (some_or_none size (entry_size name) is (none five))

  others_longer : (level : ℕ) (name : BoxType) (header payload rest ra ys zs : List ℕ)
      → (level_of name ≡ Some level → ⊥) → (level ≡ 5 → entry_size name ≡ None)
      → ((q : List ℕ) → IsMovedAt up level rest q → length ra ≤ length q)
      → ys ≡ header ++ (payload ++ ra) → Becomes up level name header payload rest zs → length ys ≤ length zs
  others_longer level name header payload rest ra ys zs isnt none others e (way pb rb is m rests f) = absurd (isnt is)
  others_longer level name header payload rest ra ys zs isnt none others e (table rb size five is rests f) =
      absurd (some_or_none size (entry_size name) is (none five))
  others_longer level name header payload rest ra ys zs isnt none others e (stays rb is_no is_none rests f) =
      omega (
        arith,
        ap length e ∙ three header payload ra,
        ap length f ∙ three header payload rb,
        others rb rests,
      )

  none_longer : (level : ℕ) (xs zs : List ℕ) → first_part xs ≡ None → IsMovedAt up level xs zs → length xs ≤ length zs
  none_longer level xs zs none (no_box l bytes also) = omega arith
  none_longer level xs zs none (on_the_way l before after r ra n h p pa own is inner room m e) =
      absurd (begins xs n h p r own none)
  none_longer level xs zs none (of_offsets l before after r ra n h p size own five is room m e) =
      absurd (begins xs n h p r own none)
  none_longer level xs zs none (as_it_is l before after r ra n h p own isnt none_is m e) =
      absurd (begins xs n h p r own none)

  -- bytes that are moved farther have no fewer bytes
  pub longer : (level : ℕ) (xs ys : List ℕ) → IsMovedAt to level xs ys → (zs : List ℕ) → IsMovedAt up level xs zs
      → length ys ≤ length zs
  longer level xs ys (no_box l bytes none) zs moved = none_longer level xs zs none moved
  longer level xs ys (on_the_way l before after rest ra name header payload pa own is inner room others e) zs moved =
      way_longer level name header payload rest pa ra ys zs is (longer (level + 1) payload pa inner)
      (longer level rest ra others) e (becomes up level xs zs moved name header payload rest own)
  longer level xs ys (of_offsets l before after rest ra name header payload size own five is room others e) zs moved =
      offsets_longer level name header payload rest ra ys zs size five is (first_long xs name header payload rest own)
      (longer level rest ra others) e (becomes up level xs zs moved name header payload rest own)
  longer level xs ys (as_it_is l before after rest ra name header payload own isnt none others e) zs moved =
      others_longer level name header payload rest ra ys zs isnt none (longer level rest ra others) e
      (becomes up level xs zs moved name header payload rest own)
