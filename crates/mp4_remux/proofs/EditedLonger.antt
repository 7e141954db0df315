-- A movie box that is edited where its data is moved farther has no fewer bytes.
use Rattle.std.proofs.Common.{◌≡◌, ◌∙◌, ℕ, ◌+◌, ◌-◌, ◌^◌, ◌≤◌, ◌*◌, ◌++◌, min, nat_lt, if◌then◌else◌}
use Rattle.std.proofs.Common.{Bool, true, false, List, [], ◌∷◌, length, Option, None, Some, refl, sym, ap, arith}
use Rattle.std.proofs.lemmas.Bool.{ltb-true, lt-ltb}
use Rattle.std.proofs.lemmas.List.{length-append, length-map}
use Rattle.mp4_codec.specs.Boxes.{box_bytes}
use Rattle.mp4_codec.specs.FramingLaws.{length-box_bytes}
use Rattle.mp4_codec.specs.declared.box_type.BoxType.{BoxType}
use Rattle.mp4_codec.specs.declared.box_type.BoxType.TheVariants.{StcoBox, Co64Box}
use Rattle.mp4_table.specs.Co64.{co64_payload}
use Rattle.mp4_table.specs.Co64Laws.{length-co64_payload}
use Rattle.mp4_table.specs.Stco.{stco_payload}
use Rattle.mp4_table.specs.StcoLaws.{length-stco_payload}
use Rattle.mp4_remux.specs.ChunkTable.{chunk_places, offsets_box}
use Rattle.mp4_remux.specs.Edit.{Change, IsEditedAt, change_of, changed, changed_box, entered, inside, joined, kept}
use Rattle.mp4_remux.specs.Edit.{left_out, moved, no_box, referring, shown, sized_box, tabled, tables_at}
use Rattle.mp4_remux.specs.Edit.{timed, track_after}
use Rattle.mp4_remux.specs.Moved.{is_wide, moved_payload, size_width, sized, wide_header}
use Rattle.mp4_remux.specs.References.{first_part}
use Rattle.mp4_mux.specs.SampleTables.{are_far}
use Rattle.mp4_remux.specs.declared.movie_box.MovieEdit.{MovieEdit}
use Rattle.mp4_remux.specs.declared.track_tables.MadeTables.{MadeTables}
use Rattle.mp4_remux.proofs.EditedOnce.{Becomes, becomes, never_entered, whole, within}
use Rattle.mp4_remux.proofs.Growing.{begins, first_long, length-sized, or_more, table_longer, three}

-- THE TABLE OF CHUNK OFFSETS

-- how many bytes it has
abbrev offset_size : Bool → ℕ
offset_size far = if far then 8 else 4

pub length-offsets_box : (offsets : List ℕ) → length (offsets_box offsets)
    ≡ 16 + length offsets * offset_size (are_far offsets)
unfolding offsets_box
length-offsets_box offsets = by (are_far offsets)
  where
    by : (far : Bool)
        → length (if far then box_bytes Co64Box (co64_payload (record { version = 0; flags = 0; entries = offsets }))
        else box_bytes StcoBox (stco_payload (record { version = 0; flags = 0; entries = offsets })))
        ≡ 16 + length offsets * offset_size far
    by true =
        omega (
          arith,
          length-box_bytes Co64Box (co64_payload (record { version = 0; flags = 0; entries = offsets })),
          length-co64_payload (record { version = 0; flags = 0; entries = offsets }),
        )
    by false =
        omega (
          arith,
          length-box_bytes StcoBox (stco_payload (record { version = 0; flags = 0; entries = offsets })),
          length-stco_payload (record { version = 0; flags = 0; entries = offsets }),
        )

far_too : (base base_too : ℕ) → base ≤ base_too → (chunks : List ℕ) → are_far (chunk_places base chunks) ≡ true
    → are_far (chunk_places base_too chunks) ≡ true
far_too base base_too le [] far = far
far_too base base_too le (c ∷ cs) far =
    or_more (nat_lt (2 ^ 32 - 1) (min (2 ^ 64 - 1) (base + c))) (are_far (chunk_places base cs))
    (nat_lt (2 ^ 32 - 1) (min (2 ^ 64 - 1) (base_too + c))) (are_far (chunk_places base_too cs))
    (λ past. lt-ltb (2 ^ 32 - 1) (min (2 ^ 64 - 1) (base_too + c))
    (omega (arith, ltb-true (2 ^ 32 - 1) (min (2 ^ 64 - 1) (base + c)) past, le)))
    (far_too base base_too le cs) far

wider_offsets : (far more : Bool) (n : ℕ) → (far ≡ true → more ≡ true) → n * offset_size far ≤ n * offset_size more
wider_offsets true true n too = omega arith
wider_offsets true false n too = absurd (let no = too refl in absurd cc)
wider_offsets false true n too = omega arith
wider_offsets false false n too = omega arith

offsets_longer : (base base_too : ℕ) → base ≤ base_too → (chunks : List ℕ)
    → length (offsets_box (chunk_places base chunks)) ≤ length (offsets_box (chunk_places base_too chunks))
offsets_longer base base_too le chunks =
    let places = chunk_places base chunks in
    let places_too = chunk_places base_too chunks in
    let one : length places ≡ length chunks = length-map chunks (λ (chunk : ℕ). min (2 ^ 64 - 1) (base + chunk)) in
    let two : length places_too ≡ length chunks =
    length-map chunks (λ (chunk : ℕ). min (2 ^ 64 - 1) (base_too + chunk)) in
    let wider = wider_offsets (are_far places) (are_far places_too) (length chunks) (far_too base base_too le chunks) in
    omega (
      arith,
      length-offsets_box places ∙ ap (λ n. 16 + n * offset_size (are_far places)) one,
      length-offsets_box places_too ∙ ap (λ n. 16 + n * offset_size (are_far places_too)) two,
      wider,
    )

-- WHAT A BOX BECOMES

-- a box with its size, where there is one
pub is_sized : (header payload out : List ℕ) → sized_box header payload ≡ Some out
    → out ≡ sized header (length payload) ++ payload
is_sized header payload out is = by (nat_lt (length header + length payload) (256 ^ size_width header)) is
  where
    by : (b : Bool) → (if b then Some (sized header (length payload) ++ payload) else None) ≡ Some out
        → out ≡ sized header (length payload) ++ payload
    by true is = cc
    by false is = absurd cc

pub is_tables : (base : ℕ) (tables : MadeTables) (out : List ℕ) → tables_at base tables ≡ Some out
    → out ≡ tables.bytes.items ++ offsets_box (chunk_places base tables.chunks.items)
is_tables base tables out is = by (nat_lt (length (offsets_box (chunk_places base tables.chunks.items))) (2 ^ 32)) is
  where
    by : (b : Bool)
        → (if b then Some (tables.bytes.items ++ offsets_box (chunk_places base tables.chunks.items)) else None)
        ≡ Some out → out ≡ tables.bytes.items ++ offsets_box (chunk_places base tables.chunks.items)
    by true is = cc
    by false is = absurd cc

pub is_joined : (a out : List ℕ) (b : Option (List ℕ)) → joined (Some a) b ≡ Some out
    → (rest : List ℕ) × ((b ≡ Some rest) × (out ≡ a ++ rest))
is_joined a out None is = absurd cc
is_joined a out (Some rest) is = (rest, (refl, cc))

module _ (to up : ℕ → ℕ) (base base_too : ℕ) (farther : (place : ℕ) → to place ≤ up place) (later : base ≤ base_too)
  where
    same_longer : (o : Option (List ℕ)) (one two : List ℕ) → o ≡ Some one → o ≡ Some two → length one ≤ length two
    same_longer o one two is also =
        let same : one ≡ two = cc in omega (arith, ap (λ (xs : List ℕ). length xs) same)

    changed_longer : (change : Change) (header payload one two : List ℕ) → 8 ≤ length header
        → changed_box to base change header payload ≡ Some one
        → changed_box up base_too change header payload ≡ Some two → length one ≤ length two
    unfolding changed_box
    changed_longer kept header payload one two long is also = same_longer _ one two is also
    changed_longer left_out header payload one two long is also = same_longer _ one two is also
    changed_longer entered header payload one two long is also = absurd cc
    changed_longer (moved size) header payload one two long is also =
        let a = is_sized (wide_header (is_wide to size payload) header) (moved_payload to size payload) one is in
        let b = is_sized (wide_header (is_wide up size payload) header) (moved_payload up size payload) two also in
        omega (
          arith,
          ap (λ (xs : List ℕ). length xs) a,
          ap (λ (xs : List ℕ). length xs) b,
          table_longer to up farther size header payload long,
        )
    changed_longer (timed more duration) header payload one two long is also = same_longer _ one two is also
    changed_longer (shown last) header payload one two long is also = same_longer _ one two is also
    changed_longer (referring ids) header payload one two long is also = same_longer _ one two is also
    changed_longer (tabled tables) header payload one two long is also =
        let a = is_joined (header ++ payload) one (tables_at base tables) is in
        let b = is_joined (header ++ payload) two (tables_at base_too tables) also in
        let c = is_tables base tables a.0 a.1.0 in
        let d = is_tables base_too tables b.0 b.1.0 in
        let table : List ℕ = offsets_box (chunk_places base tables.chunks.items) in
        let table_too : List ℕ = offsets_box (chunk_places base_too tables.chunks.items) in
        omega (
          arith,
          ap (λ (xs : List ℕ). length xs) a.1.1 ∙ length-append (header ++ payload) a.0,
          ap (λ (xs : List ℕ). length xs) b.1.1 ∙ length-append (header ++ payload) b.0,
          ap (λ (xs : List ℕ). length xs) c ∙ length-append tables.bytes.items table,
          ap (λ (xs : List ℕ). length xs) d ∙ length-append tables.bytes.items table_too,
          offsets_longer base base_too later tables.chunks.items,
        )

    -- WHAT BYTES BECOME

    module _ (edit : MovieEdit) where
      module _ (level track : ℕ) (name : BoxType) (header payload rest ra ys zs : List ℕ)
          (others : (q : List ℕ) → IsEditedAt edit up base_too level (track_after level name track) rest q
          → length ra ≤ length q)
        where
          within_longer : (pa : List ℕ) → change_of edit level name track ≡ entered
              → ((q : List ℕ) → IsEditedAt edit up base_too (level + 1) track payload q → length pa ≤ length q)
              → ys ≡ sized header (length pa) ++ (pa ++ ra)
              → Becomes edit up base_too level track name header payload rest zs → length ys ≤ length zs
          within_longer pa is inner e (within pb rb also m room o f) =
              let heads = length-sized header (length pa) ∙ sym (length-sized header (length pb)) in
              omega (
                arith,
                ap (λ (xs : List ℕ). length xs) e ∙ three (sized header (length pa)) pa ra,
                ap (λ (xs : List ℕ). length xs) f ∙ three (sized header (length pb)) pb rb,
                heads,
                inner pb m,
                others rb o,
              )
          within_longer pa is inner e (whole ba rb some o f) =
              absurd (never_entered up base_too (change_of edit level name track) header payload ba is some)

          whole_longer : (ba : List ℕ) → 8 ≤ length header
              → changed_box to base (change_of edit level name track) header payload ≡ Some ba
              → ys ≡ ba ++ ra → Becomes edit up base_too level track name header payload rest zs
              → length ys ≤ length zs
          whole_longer ba long some e (within pb rb is m room o f) =
              absurd (never_entered to base (change_of edit level name track) header payload ba is some)
          whole_longer ba long some e (whole bb rb also o f) =
              omega (
                arith,
                ap (λ (xs : List ℕ). length xs) e ∙ length-append ba ra,
                ap (λ (xs : List ℕ). length xs) f ∙ length-append bb rb,
                changed_longer (change_of edit level name track) header payload ba bb long some also,
                others rb o,
              )

      none_longer : (level track : ℕ) (xs zs : List ℕ) → first_part xs ≡ None
          → IsEditedAt edit up base_too level track xs zs → length xs ≤ length zs
      none_longer level track xs zs none (no_box l t bytes also) = omega arith
      none_longer level track xs zs none (inside l t before after r ra n h p pa own is m room o e) =
          absurd (begins xs n h p r own none)
      none_longer level track xs zs none (changed l t before after r ra n h p ba own is o e) =
          absurd (begins xs n h p r own none)

      -- moved farther, the same bytes become no fewer
      longer_edited : (level track : ℕ) (xs ys : List ℕ) → IsEditedAt edit to base level track xs ys
          → (zs : List ℕ) → IsEditedAt edit up base_too level track xs zs → length ys ≤ length zs
      longer_edited level track xs ys (no_box l t bytes none) zs m = none_longer level track xs zs none m
      longer_edited level track xs ys (inside l t before after r ra n h p pa own is inner room o e) zs m =
          within_longer level track n h p r ra ys zs (longer_edited level (track_after level n track) r ra o) pa is
          (longer_edited (level + 1) track p pa inner) e (becomes edit up base_too level track xs zs m n h p r own)
      longer_edited level track xs ys (changed l t before after r ra n h p ba own is o e) zs m =
          whole_longer level track n h p r ra ys zs (longer_edited level (track_after level n track) r ra o) ba
          (first_long xs n h p r own) is e (becomes edit up base_too level track xs zs m n h p r own)

-- the same of all that is said of an edit
pub edited_longer : (edit : MovieEdit) (to up : ℕ → ℕ) (base base_too : ℕ) → ((place : ℕ) → to place ≤ up place)
    → base ≤ base_too → (level track : ℕ) (xs ys zs : List ℕ) → IsEditedAt edit to base level track xs ys
    → IsEditedAt edit up base_too level track xs zs → length ys ≤ length zs
edited_longer edit to up base base_too farther later level track xs ys zs one two =
    longer_edited to up base base_too farther later edit level track xs ys one zs two
