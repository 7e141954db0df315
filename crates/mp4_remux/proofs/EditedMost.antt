-- How many bytes a movie box may have at most when it is edited, wherever its data is moved.
use Rattle.std.proofs.Common.{◌≡◌, ◌∙◌, ℕ, zero, suc, ◌+◌, ◌-◌, ◌*◌, ◌/◌, ◌^◌, ◌≤◌, ◌<◌, ◌==◌, ◌||◌, Bool, true, false}
use Rattle.std.proofs.Common.{nat_lt, min, if◌then◌else◌, List, [], ◌∷◌, ◌++◌, length, take, drop, Option, None, Some}
use Rattle.std.proofs.Common.{Result, Ok, Err, refl, ap, arith}
use Rattle.std.specs.Prelude.{option_map, slice_get, vec_items}
use Rattle.std.specs.List.{flat_map}
use Rattle.std.proofs.lemmas.Bool.{ltb-false}
use Rattle.std.proofs.lemmas.List.{length-append, length-drop, length-take, length-map}
use Rattle.std.proofs.lemmas.Nat.{mul-le}
use Rattle.byteorder.specs.Endian.{big_bytes, big_number}
use Rattle.mp4_codec.specs.BoxType.{code_of}
use Rattle.mp4_codec.specs.Cause.{Cause}
use Rattle.mp4_codec.specs.Cursor.{Cursor, here, header_at}
use Rattle.mp4_codec.specs.declared.box_type.BoxType.{BoxType}
use Rattle.mp4_codec.specs.declared.box_type.BoxType.TheVariants.{MoovBox, TrakBox, MdiaBox, MinfBox, StblBox}
use Rattle.mp4_codec.specs.declared.box_type.BoxType.TheVariants.{EdtsBox, ElstBox, MdhdBox, MvexBox, MvhdBox, TkhdBox}
use Rattle.mp4_codec.specs.declared.box_type.BoxType.TheVariants.{Co64Box, CttsBox, StcoBox, StscBox, StsdBox, StssBox}
use Rattle.mp4_codec.specs.declared.box_type.BoxType.TheVariants.{StszBox, SttsBox}
use Rattle.mp4_codec.specs.declared.header.BoxHeader.{BoxHeader}
use Rattle.mp4_mux.specs.SampleTables.{are_far}
use Rattle.mp4_remux.specs.ChunkTable.{chunk_places, offsets_box}
use Rattle.mp4_remux.specs.Edit.{Change, IsEditedAt, box_and, box_of, box_unless_empty, boxes_after, change_of, changed}
use Rattle.mp4_remux.specs.Edit.{changed_box, duration_place, each_box, edit_box, entered, inside, is_version_1, joined}
use Rattle.mp4_remux.specs.Edit.{kept, kept_or, last_edit_place, left_out, made_at, made_change, made_in, moved, no_box}
use Rattle.mp4_remux.specs.Edit.{reference_box, references_to, referring, shown, sized_box, tabled, tables_at}
use Rattle.mp4_remux.specs.Edit.{time_size}
use Rattle.mp4_remux.specs.Edit.{last_edit, timed, track_after, trak_change, tref_change, version_1, with_duration}
use Rattle.mp4_remux.specs.Edit.{file_change, media_change, minf_change, movie_change, track_change}
use Rattle.mp4_remux.specs.Edit.{table_change, with_edit_at, with_last_edit, with_number}
use Rattle.mp4_remux.specs.Moved.{entry_count, entry_size, is_wide, moved_payload, offsets_in, sized, wide_bytes}
use Rattle.mp4_remux.specs.Moved.{wide_header}
use Rattle.mp4_remux.specs.References.{Part, contains_id, first_part, part_after}
use Rattle.mp4_remux.specs.declared.movie_box.MadeTrack.{MadeTrack}
use Rattle.mp4_remux.specs.declared.movie_box.MovieEdit.{MovieEdit}
use Rattle.mp4_remux.specs.declared.movie_box.TrackEdit.{TrackEdit}
use Rattle.mp4_remux.specs.declared.movie_box.TrackEdit.TheVariants.{Dropped, Moved, Made}
use Rattle.mp4_remux.specs.declared.track_tables.MadeTables.{MadeTables}
use Rattle.mp4_remux.proofs.EditedLonger.{is_joined, is_sized, is_tables, length-offsets_box}
use Rattle.mp4_remux.proofs.Growing.{first_long, length-big, length-sized, sized_len, three}
use Rattle.mp4_remux.proofs.Moving.{first_length}
use Rattle.mp4_remux.proofs.Offsets.{length-numbers, length-offsets, length-wide_header}

-- TABLES THAT WERE MADE

-- how many bytes tables have at most, with that of their chunk offsets
abbrev pub tables_most : MadeTables → ℕ
tables_most tables = length tables.bytes.items + (16 + 8 * length tables.chunks.items)

abbrev pub track_most : TrackEdit → ℕ
track_most Dropped = 0
track_most Moved = 0
track_most (Made m) = tables_most m.tables

-- those of all tracks
unfoldable pub tracks_most : List TrackEdit → ℕ
tracks_most [] = 0
tracks_most (t ∷ ts) = track_most t + tracks_most ts

-- So many bytes a movie box has at most, of so many: each becomes at most 40, and the tables of all tracks.
abbrev pub most_edited : MovieEdit → ℕ → ℕ
most_edited edit n = (40 + tracks_most edit.tracks.items) * n

one_most : (ts : List TrackEdit) (i : ℕ) (m : MadeTrack) → slice_get ts i ≡ Some (Made m)
    → tables_most m.tables ≤ tracks_most ts
unfolding tracks_most
one_most [] i m is = absurd cc
one_most (t ∷ ts) zero m is =
    let same : t ≡ Made m = cc in
    omega (arith, ap (λ (x : TrackEdit). track_most x) same)
one_most (t ∷ ts) (suc i) m is = omega (arith, one_most ts i m is)

made_most : (o : Option TrackEdit) (m : MadeTrack) → made_in o ≡ Some m → o ≡ Some (Made m)
made_most None m is = absurd cc
made_most (Some Dropped) m is = absurd cc
made_most (Some Moved) m is = absurd cc
made_most (Some (Made n)) m is = let same : n ≡ m = cc in ap (λ (x : MadeTrack). Some (Made x)) same

-- how many bytes come after a box
abbrev extra : Change → ℕ
extra (tabled tables) = tables_most tables
extra _ = 0

none_or : {X : Type 0} (f : X → Change) → ((x : X) → extra (f x) ≡ 0) → (o : Option X)
    → extra (kept_or (option_map f o)) ≡ 0
none_or f none None = refl
none_or f none (Some x) = none x

no_extra : (b : Bool) (c : Change) → extra c ≡ 0 → extra (if b then c else kept) ≡ 0
no_extra true c none = none
no_extra false c none = refl

in_trak : (o : Option TrackEdit) → extra (trak_change o) ≡ 0
in_trak None = refl
in_trak (Some Dropped) = refl
in_trak (Some Moved) = refl
in_trak (Some (Made m)) = refl

in_tref : (o : Option (List ℕ)) (name : BoxType) → extra (tref_change o name) ≡ 0
in_tref None name = refl
in_tref (Some ids) name = no_extra (code_of name == 0x74726566) (referring ids) refl

in_made : (m : MadeTrack) (name : BoxType) → extra (made_change m name) ≤ tables_most m.tables
in_made m StsdBox = omega arith
in_made m SttsBox = omega arith
in_made m CttsBox = omega arith
in_made m StssBox = omega arith
in_made m StscBox = omega arith
in_made m StszBox = omega arith
in_made m StcoBox = omega arith
in_made m Co64Box = omega arith
in_made m name = omega (arith, no_extra (code_of name == 0x73747a32) left_out refl)

in_tables : (o : Option MadeTrack) (most : ℕ) → ((m : MadeTrack) → o ≡ Some m → tables_most m.tables ≤ most)
    → (name : BoxType) → extra (table_change o name) ≤ most
in_tables None most within name = omega (arith, none_or moved (λ size. refl) (entry_size name))
in_tables (Some m) most within name = omega (arith, in_made m name, within m refl)

in_file : (name : BoxType) → extra (file_change name) ≡ 0
in_file MoovBox = refl
in_file name = refl

in_minf : (name : BoxType) → extra (minf_change name) ≡ 0
in_minf StblBox = refl
in_minf name = refl

module _ (edit : MovieEdit) where
  in_movie : (name : BoxType) (track : ℕ) → extra (movie_change edit name track) ≡ 0
  in_movie MvhdBox track = none_or (timed 4) (λ d. refl) edit.duration
  in_movie MvexBox track = no_extra edit.is_gathered left_out refl
  in_movie TrakBox track = in_trak (slice_get edit.tracks.items track)
  in_movie name track = refl

  in_track : (name : BoxType) (track : ℕ) → extra (track_change edit name track) ≡ 0
  in_track MdiaBox track = refl
  in_track TkhdBox track = none_or (λ (m : MadeTrack). timed 8 m.shown.total) (λ m. refl) (made_at edit track)
  in_track EdtsBox track = none_or shown (λ l. refl) (last_edit (made_at edit track))
  in_track name track = in_tref (option_map vec_items edit.ids) name

  in_media : (name : BoxType) (track : ℕ) → extra (media_change edit name track) ≡ 0
  in_media MinfBox track = refl
  in_media MdhdBox track = none_or (λ (m : MadeTrack). timed 4 m.tables.duration) (λ m. refl) (made_at edit track)
  in_media name track = refl

  extra_most : (level : ℕ) (name : BoxType) (track : ℕ)
      → extra (change_of edit level name track) ≤ tracks_most edit.tracks.items
  unfolding change_of
  extra_most zero name track = omega (arith, in_file name)
  extra_most (suc zero) name track = omega (arith, in_movie name track)
  extra_most (suc (suc zero)) name track = omega (arith, in_track name track)
  extra_most (suc (suc (suc zero))) name track = omega (arith, in_media name track)
  extra_most (suc (suc (suc (suc zero)))) name track = omega (arith, in_minf name)
  extra_most (suc (suc (suc (suc (suc zero))))) name track =
      in_tables (made_at edit track) (tracks_most edit.tracks.items)
      (λ m is. one_most edit.tracks.items track m (made_most (slice_get edit.tracks.items track) m is)) name
  extra_most (suc (suc (suc (suc (suc (suc level)))))) name track = omega arith

-- LENGTHS OF PAYLOADS

length_of : (o : Option (List ℕ)) (one two : List ℕ) → o ≡ Some one → o ≡ Some two → length one ≡ length two
length_of o one two is also = let same : one ≡ two = cc in ap (λ (xs : List ℕ). length xs) same

-- a box with its size has few bytes more than its payload
sized_len_most : (n : ℕ) → sized_len n ≤ n + 16
sized_len_most n = by (nat_lt n 16)
  where
    by : (b : Bool) → (if b then 4 + (n - 4) else min 8 n + 8) ≤ n + 16
    by true = omega arith
    by false = omega arith

sized_most : (header payload out : List ℕ) → sized_box header payload ≡ Some out
    → length out ≤ length header + 16 + length payload
sized_most header payload out is =
    let e = is_sized header payload out is in
    omega (
      arith,
      ap (λ (xs : List ℕ). length xs) e ∙ length-append (sized header (length payload)) payload,
      length-sized header (length payload),
      sized_len_most (length header),
    )

number_most : (size place n : ℕ) (bytes : List ℕ) → length (with_number size place n bytes) ≤ length bytes + size
number_most size place n bytes =
    omega (
      arith,
      three (take place bytes) (big_bytes size n) (drop (place + size) bytes),
      length-big size n,
      length-take place bytes,
      length-drop (place + size) bytes,
    )

time_most : (payload : List ℕ) → time_size payload ≤ 8
time_most payload = by (is_version_1 payload) refl
  where
    by : (b : Bool) → is_version_1 payload ≡ b → time_size payload ≤ 8
    by true is = rw is (omega arith)
    by false is = rw is (omega arith)

version_most : (more duration : ℕ) (payload : List ℕ)
    → length (version_1 more duration payload) ≤ 28 + 2 * length payload
version_most more duration payload =
    let a : List ℕ = take 3 (drop 1 payload) in
    let b : List ℕ = big_bytes 8 (big_number 4 (drop 4 payload)) in
    let c : List ℕ = big_bytes 8 (big_number 4 (drop 8 payload)) in
    let d : List ℕ = take more (drop 12 payload) in
    let e : List ℕ = big_bytes 8 duration in
    let f : List ℕ = drop (16 + more) payload in
    omega (
      arith,
      length-append a (b ++ (c ++ (d ++ (e ++ f)))),
      length-append b (c ++ (d ++ (e ++ f))),
      length-append c (d ++ (e ++ f)),
      length-append d (e ++ f),
      length-append e f,
      length-take 3 (drop 1 payload),
      length-big 8 (big_number 4 (drop 4 payload)),
      length-big 8 (big_number 4 (drop 8 payload)),
      length-take more (drop 12 payload),
      length-drop 12 payload,
      length-big 8 duration,
      length-drop (16 + more) payload,
    )

duration_most : (more duration : ℕ) (payload : List ℕ)
    → length (with_duration more duration payload) ≤ 28 + 2 * length payload
unfolding with_duration
duration_most more duration payload =
    by (nat_lt (length payload) (duration_place more payload + time_size payload))
    (is_version_1 payload || nat_lt duration (2 ^ 32 - 1))
  where
    by : (short long : Bool) → length (if short then payload else
        if long then with_number (time_size payload) (duration_place more payload) duration payload
        else version_1 more duration payload) ≤ 28 + 2 * length payload
    by true long = omega arith
    by false true =
        omega (
          arith,
          number_most (time_size payload) (duration_place more payload) duration payload,
          time_most payload,
        )
    by false false = version_most more duration payload

last_most : (last : ℕ) (payload out : List ℕ) → with_last_edit last payload ≡ Some out
    → length out ≤ length payload + 8
unfolding with_last_edit
last_most last payload out is = at (last_edit_place payload) is
  where
    when : (place : ℕ) (b : Bool) → (if b then Some (with_number (time_size payload) place last payload) else None)
        ≡ Some out → length out ≤ length payload + 8
    when place true is =
        omega (
          arith,
          length_of _ (with_number (time_size payload) place last payload) out refl is,
          number_most (time_size payload) place last payload,
          time_most payload,
        )
    when place false is = absurd cc

    at : (o : Option ℕ) → with_edit_at o last payload ≡ Some out → length out ≤ length payload + 8
    at None is = omega (arith, length_of _ payload out refl is)
    at (Some place) is = when place (is_version_1 payload || nat_lt last (2 ^ 32)) is

box_most : (header : List ℕ) (o : Option (List ℕ)) (out : List ℕ) (most : ℕ) → box_of header o ≡ Some out
    → ((payload : List ℕ) → o ≡ Some payload → length payload ≤ most) → length out ≤ length header + 16 + most
box_most header None out most is within = absurd cc
box_most header (Some payload) out most is within =
    omega (arith, sized_most header payload out is, within payload refl)

full_most : (header : List ℕ) (o : Option (List ℕ)) (out : List ℕ) (most : ℕ) → box_unless_empty header o ≡ Some out
    → ((payload : List ℕ) → o ≡ Some payload → length payload ≤ most) → length out ≤ length header + 16 + most
full_most header None out most is within = absurd cc
full_most header (Some []) out most is within = omega (arith, length_of _ [] out refl is)
full_most header (Some (x ∷ xs)) out most is within =
    omega (arith, sized_most header (x ∷ xs) out is, within (x ∷ xs) refl)

edit_most : (last : ℕ) (name : BoxType) (header payload out : List ℕ) → edit_box last name header payload ≡ Some out
    → length out ≤ length header + (length payload + 24)
edit_most last ElstBox header payload out is =
    omega (
      arith,
      box_most header (with_last_edit last payload) out (length payload + 8) is (last_most last payload),
    )
edit_most last name header payload out is =
    omega (arith, length_of _ (header ++ payload) out refl is, length-append header payload)

references_most : (ids payload : List ℕ) → length (references_to ids payload) ≤ length payload
unfolding references_to
references_most ids (a ∷ b ∷ c ∷ d ∷ rest) =
    by (contains_id ids (big_number 4 (a ∷ b ∷ c ∷ d ∷ rest))) (references_most ids rest)
  where
    by : (there : Bool) → length (references_to ids rest) ≤ length rest
        → length (if there then a ∷ b ∷ c ∷ d ∷ references_to ids rest else references_to ids rest)
        ≤ length (a ∷ b ∷ c ∷ d ∷ rest)
    by true le = omega (arith, le)
    by false le = omega (arith, le)
references_most ids [] = omega arith
references_most ids (a ∷ []) = omega arith
references_most ids (a ∷ b ∷ []) = omega arith
references_most ids (a ∷ b ∷ c ∷ []) = omega arith

kinds_most : (ids : List ℕ) (name : BoxType) (header payload out : List ℕ)
    → reference_box ids name header payload ≡ Some out → length out ≤ length header + (length payload + 24)
kinds_most ids name header payload out is =
    omega (
      arith,
      full_most header (Some (references_to ids payload)) out (length payload) is
          (λ p same. omega (arith, length_of _ (references_to ids payload) p refl same, references_most ids payload)),
    )

-- BOX AFTER BOX

-- a box with which bytes begin is within them
record IsPartOf (bytes : List ℕ) (p : Part) : Type 0 where
  inside_it : length p.payload ≤ p.size
  within_them : p.size ≤ length bytes

part_within : (bytes : List ℕ) (p : Part) → first_part bytes ≡ Some p → IsPartOf bytes p
unfolding first_part
part_within bytes p is = by (header_at (here bytes 0)) is
  where
    when : (head : BoxHeader) (from : ℕ) (open_end past : Bool) → nat_lt (length bytes) (from + (head.size - 8)) ≡ past
        → (if open_end || past then None else
        Some (record {
          name = head.name;
          payload = take (head.size - 8) (drop from bytes);
          size = from + (head.size - 8);
        }))
        ≡ Some p → IsPartOf bytes p
    when head from true past at is = absurd cc
    when head from false true at is = absurd cc
    when head from false false at is =
        let same : p ≡ record {
          name = head.name;
          payload = take (head.size - 8) (drop from bytes);
          size = from + (head.size - 8);
        } = cc in
        record {
          inside_it = omega (
            arith,
            ap (λ (q : Part). length q.payload) same,
            ap (λ (q : Part). q.size) same,
            length-take (head.size - 8) (drop from bytes),
          );
          within_them = omega (
            arith,
            ap (λ (q : Part). q.size) same,
            ltb-false (length bytes) (from + (head.size - 8)) at,
          );
        }

    by : (r : Result (BoxHeader × Cursor) Cause) → part_after bytes r ≡ Some p → IsPartOf bytes p
    by (Err c) is = absurd cc
    by (Ok h) is =
        when h.0 h.1.position (h.0.size == 0) (nat_lt (length bytes) (h.1.position + (h.0.size - 8))) refl is

module _ (change : BoxType → List ℕ → List ℕ → Option (List ℕ)) (last : List ℕ → List ℕ)
    (most : (name : BoxType) (header payload out : List ℕ) → change name header payload ≡ Some out
    → length out ≤ length header + (length payload + 24))
    (last_within : (bytes : List ℕ) → length (last bytes) ≤ length bytes)
  where
    first_most : (bytes : List ℕ) (o : Option Part) (others : ℕ → Option (List ℕ)) (ys : List ℕ)
        → first_part bytes ≡ o → box_and change last bytes o others ≡ Some ys
        → ((n : ℕ) (zs : List ℕ) → others n ≡ Some zs → n < length bytes
        → length zs ≤ 32 * (length bytes - 1 - n)) → 0 < length bytes → length ys ≤ 32 * length bytes
    first_most bytes None others ys part is rest some =
        omega (arith, length_of _ (last bytes) ys refl is, last_within bytes)
    first_most bytes (Some p) others ys part is rest some =
        by (change p.name (take (p.size - length p.payload) bytes) p.payload) (others (p.size - 1)) refl refl is
      where
        by : (a b : Option (List ℕ)) → change p.name (take (p.size - length p.payload) bytes) p.payload ≡ a
            → others (p.size - 1) ≡ b → joined a b ≡ Some ys → length ys ≤ 32 * length bytes
        by None b one two is = absurd cc
        by (Some x) None one two is = absurd cc
        by (Some x) (Some y) one two is =
            let w = part_within bytes p part in
            omega (
              arith,
              length_of _ (x ++ y) ys refl is,
              length-append x y,
              most p.name (take (p.size - length p.payload) bytes) p.payload x one,
              length-take (p.size - length p.payload) bytes,
              rest (p.size - 1) y two (omega (arith, w.within_them, some)),
              w.inside_it,
              w.within_them,
              some,
            )

    after_most : (n : ℕ) (xs ys : List ℕ) → boxes_after change last n xs ≡ Some ys → length ys ≤ 32 * (length xs - n)
    unfolding boxes_after
    after_most n [] ys is = omega (arith, length_of _ (last []) ys refl is, last_within [])
    after_most (suc n) (x ∷ xs) ys is = omega (arith, after_most n xs ys is)
    after_most zero (x ∷ xs) ys is =
        omega (
          arith,
          first_most (x ∷ xs) (first_part (x ∷ xs)) (λ n. boxes_after change last n xs) ys refl is
              (λ n zs more lt. omega (arith, after_most n xs zs more)) (omega arith),
        )

    each_most : (bytes ys : List ℕ) → each_box change last bytes ≡ Some ys → length ys ≤ 32 * length bytes
    each_most bytes ys is = omega (arith, after_most 0 bytes ys is)

-- WHAT A BOX BECOMES

count_most : (n size : ℕ) → n / size ≤ n
count_most n size = omega arith

moved_most : (to : ℕ → ℕ) (size : ℕ) (payload : List ℕ)
    → length (moved_payload to size payload) ≤ 8 + 9 * length payload
moved_most to size payload =
    let wide = is_wide to size payload in
    let os = offsets_in size payload in
    let all : List ℕ = flat_map (λ offset. wide_bytes wide (to offset)) os in
    let rest : List ℕ = drop (8 + entry_count size payload * size) payload in
    omega (
      arith,
      three (take 8 payload) all rest,
      length-take 8 payload,
      (length-offsets wide to os).1,
      length-numbers (entry_count size payload) size (drop 8 payload),
      count_most (length payload - 8) size,
      length-drop (8 + entry_count size payload * size) payload,
    )

offsets_most : (offsets : List ℕ) → length (offsets_box offsets) ≤ 16 + 8 * length offsets
offsets_most offsets = omega (arith, length-offsets_box offsets, by (are_far offsets))
  where
    by : (far : Bool) → length offsets * (if far then 8 else 4) ≤ 8 * length offsets
    by true = omega arith
    by false = omega arith

change_most : (to : ℕ → ℕ) (base : ℕ) (change : Change) (header payload out : List ℕ) → 8 ≤ length header
    → changed_box to base change header payload ≡ Some out
    → length out ≤ 40 * (length header + length payload) + extra change
unfolding changed_box
change_most to base kept header payload out long is =
    omega (arith, length_of _ (header ++ payload) out refl is, length-append header payload)
change_most to base left_out header payload out long is = omega (arith, length_of _ [] out refl is)
change_most to base entered header payload out long is = absurd cc
change_most to base (moved size) header payload out long is =
    omega (
      arith,
      sized_most (wide_header (is_wide to size payload) header) (moved_payload to size payload) out is,
      length-wide_header (is_wide to size payload) header long,
      moved_most to size payload,
      long,
    )
change_most to base (timed more duration) header payload out long is =
    omega (
      arith,
      sized_most header (with_duration more duration payload) out is,
      duration_most more duration payload,
      long,
    )
change_most to base (shown last) header payload out long is =
    omega (
      arith,
      box_most header (each_box (edit_box last) (λ rest. rest) payload) out (32 * length payload) is
          (each_most (edit_box last) (λ rest. rest) (edit_most last) (λ bytes. omega arith) payload),
      long,
    )
change_most to base (referring ids) header payload out long is =
    omega (
      arith,
      full_most header (each_box (reference_box ids) (λ rest. []) payload) out (32 * length payload) is
          (each_most (reference_box ids) (λ rest. []) (kinds_most ids) (λ bytes. omega arith) payload),
      long,
    )
change_most to base (tabled tables) header payload out long is =
    let a = is_joined (header ++ payload) out (tables_at base tables) is in
    let c = is_tables base tables a.0 a.1.0 in
    let table : List ℕ = offsets_box (chunk_places base tables.chunks.items) in
    omega (
      arith,
      ap (λ (xs : List ℕ). length xs) a.1.1 ∙ length-append (header ++ payload) a.0,
      length-append header payload,
      ap (λ (xs : List ℕ). length xs) c ∙ length-append tables.bytes.items table,
      offsets_most (chunk_places base tables.chunks.items),
      length-map tables.chunks.items (λ (chunk : ℕ). min (2 ^ 64 - 1) (base + chunk)),
    )

-- WHAT ALL BECOMES

scaled : (w n r a b : ℕ) → 1 ≤ n → a ≤ 40 * n + w → b ≤ (40 + w) * r → a + b ≤ (40 + w) * (n + r)
scaled w n r a b some one two = omega (arith, mul-le w 1 w n (omega arith) some, some, one, two)

module _ (edit : MovieEdit) (to : ℕ → ℕ) (base : ℕ) where
  -- edited bytes have at most so many, wherever the data is moved
  pub edited_most : (level track : ℕ) (xs ys : List ℕ) → IsEditedAt edit to base level track xs ys
      → length ys ≤ most_edited edit (length xs)
  edited_most level track xs ys (no_box l t bytes none) =
      omega (arith, mul-le 1 (length xs) (40 + tracks_most edit.tracks.items) (length xs) (omega arith) (omega arith))
  edited_most level track xs ys (inside l t before after r ra n h p pa own is m room o e) =
      let w = tracks_most edit.tracks.items in
      let long = first_long xs n h p r own in
      let inner : length pa ≤ (40 + w) * length p = edited_most (level + 1) track p pa m in
      let later : length ra ≤ (40 + w) * length r = edited_most level (track_after level n track) r ra o in
      let many = scaled w (length h) (length p + length r) (length h + 16) (length pa + length ra)
      (omega (arith, long)) (omega (arith, long)) (omega (arith, inner, later)) in
      omega (
        arith,
        ap (λ (xs : List ℕ). length xs) e ∙ three (sized h (length pa)) pa ra,
        length-sized h (length pa),
        sized_len_most (length h),
        ap (λ k. (40 + w) * k) (first_length xs n h p r own),
        many,
      )
  edited_most level track xs ys (changed l t before after r ra n h p ba own is o e) =
      let w = tracks_most edit.tracks.items in
      let long = first_long xs n h p r own in
      let later : length ra ≤ (40 + w) * length r = edited_most level (track_after level n track) r ra o in
      let one : length ba ≤ 40 * (length h + length p) + w =
      omega (
        arith,
        change_most to base (change_of edit level n track) h p ba long is,
        extra_most edit level n track,
      ) in
      let many = scaled w (length h + length p) (length r) (length ba) (length ra) (omega (arith, long)) one later in
      let same : length xs ≡ length h + length p + length r = omega (arith, first_length xs n h p r own) in
      omega (
        arith,
        ap (λ (xs : List ℕ). length xs) e ∙ length-append ba ra,
        ap (λ k. (40 + w) * k) same,
        many,
      )
