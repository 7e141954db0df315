-- A movie box that is edited is as it was, but for the boxes that may be others where that is made anew.
use Rattle.std.proofs.Common.{◌≡◌, ◌∙◌, ◌⊎◌, inl, inr, ℕ, zero, suc, ◌+◌, ◌^◌, ◌≤◌, ◌<◌, ◌==◌, Bool, true, false}
use Rattle.std.proofs.Common.{nat_lt, if◌then◌else◌, List, [], ◌∷◌, ◌++◌, length, take, drop, Option, None, Some, Ok}
use Rattle.std.proofs.Common.{refl, sym, ap, subst, arith, append_assoc, lit<}
use Rattle.std.specs.Prelude.{⊤, option_map, slice_get, vec_items}
use Rattle.std.specs.List.{list_any}
use Rattle.std.proofs.lemmas.Bool.{eqb-true, ltb-true, or_right}
use Rattle.std.proofs.lemmas.List.{append-nil, length-drop, length-take, take-append-drop, take-append-le, take_all}
use Rattle.std.proofs.lemmas.List.{drop-append-le}
use Rattle.mp4_codec.specs.BoxType.{box_type, code_of}
use Rattle.mp4_codec.specs.Boxes.{box_bytes}
use Rattle.mp4_codec.specs.Cursor.{Cursor, here}
use Rattle.mp4_codec.specs.Framing.{IsBox, IsEncodable, short}
use Rattle.mp4_codec.specs.FramingLaws.{length-box_bytes, reads_as_box}
use Rattle.mp4_codec.specs.declared.box_type.BoxType.{BoxType}
use Rattle.mp4_codec.specs.declared.box_type.BoxType.TheVariants.{MoovBox, TrakBox, MdiaBox, MinfBox, StblBox}
use Rattle.mp4_codec.specs.declared.box_type.BoxType.TheVariants.{EdtsBox, MdhdBox, MvexBox, MvhdBox, TkhdBox}
use Rattle.mp4_codec.specs.declared.box_type.BoxType.TheVariants.{Co64Box, CttsBox, StcoBox, StscBox, StsdBox, StssBox}
use Rattle.mp4_codec.specs.declared.box_type.BoxType.TheVariants.{StszBox, SttsBox}
use Rattle.mp4_codec.proofs.HeadLaws.{was_taken}
use Rattle.mp4_mux.specs.SampleTables.{are_far}
use Rattle.mp4_table.specs.Co64.{co64_payload}
use Rattle.mp4_table.specs.Stco.{stco_payload}
use Rattle.mp4_remux.specs.ChunkTable.{chunk_places, offsets_box}
use Rattle.mp4_remux.specs.Edit.{Change, IsEditedAt, box_of, box_unless_empty, change_of, changed, changed_box}
use Rattle.mp4_remux.specs.Edit.{each_box}
use Rattle.mp4_remux.specs.Edit.{edit_box, entered, file_change, inside, kept, kept_or, last_edit, left_out, made_at}
use Rattle.mp4_remux.specs.Edit.{made_change, media_change, minf_change, moved, movie_change, no_box, reference_box}
use Rattle.mp4_remux.specs.Edit.{referring, shown, sized_box, table_change, tabled, tables_at, timed, track_after}
use Rattle.mp4_remux.specs.Edit.{track_change, trak_change, tref_change, with_duration}
use Rattle.mp4_remux.specs.Headers.{changed_by}
use Rattle.mp4_remux.specs.Kept.{IsAmong, IsFirstBox, IsKept, entered as entered_boxes, gone, more}
use Rattle.mp4_remux.specs.Kept.{inside as inside_too}
use Rattle.mp4_remux.specs.Kept.{next, of_tables, of_tracks, offsets, other, same, tracks}
use Rattle.mp4_remux.specs.Moved.{entry_size, is_wide, moved_payload, sized, wide_header}
use Rattle.mp4_remux.specs.declared.made.Made.{Made as Anew}
use Rattle.mp4_remux.specs.declared.made.Made.TheVariants.{Offsets, Tables, Tracks}
use Rattle.mp4_remux.specs.declared.movie_box.MadeTrack.{MadeTrack}
use Rattle.mp4_remux.specs.declared.movie_box.MovieEdit.{MovieEdit}
use Rattle.mp4_remux.specs.declared.movie_box.TrackEdit.{TrackEdit}
use Rattle.mp4_remux.specs.declared.movie_box.TrackEdit.TheVariants.{Dropped, Moved, Made}
use Rattle.mp4_remux.specs.declared.track_tables.MadeTables.{MadeTables}
use Rattle.mp4_remux.proofs.EditedLonger.{is_joined, is_tables}
use Rattle.mp4_remux.proofs.Editing.{same_some, sized_is}
use Rattle.mp4_remux.proofs.Growing.{first_long}
use Rattle.mp4_remux.proofs.Moving.{table_among, table_says}
use Rattle.mp4_remux.proofs.Sizing.{first_again, says_type, sized_first}

-- BOXES THAT ARE MORE

-- these bytes are boxes with some of these codes, one after the other
pub data AreBoxesAmong (codes : List ℕ) : List ℕ → Type 0 where
  none : AreBoxesAmong codes []
  one_more : (name : BoxType) (payload one rest : List ℕ) → IsBox name payload one → IsAmong codes name
      → AreBoxesAmong codes rest → AreBoxesAmong codes (one ++ rest)

-- some and others
pub among_both : (codes a b : List ℕ) → AreBoxesAmong codes a → AreBoxesAmong codes b → AreBoxesAmong codes (a ++ b)
among_both codes a b none more_of = more_of
among_both codes a b (one_more name payload one rest box among others) more_of =
    subst (λ (xs : List ℕ). AreBoxesAmong codes xs) (sym (append_assoc one rest b))
    (one_more name payload one (rest ++ b) box among (among_both codes rest b others more_of))

-- one alone
pub among_one : (codes : List ℕ) (name : BoxType) (payload : List ℕ) → IsEncodable name → IsAmong codes name
    → length (box_bytes name payload) < 2 ^ 32 → AreBoxesAmong codes (box_bytes name payload)
among_one codes name payload encodable among fits =
    subst (λ (xs : List ℕ). AreBoxesAmong codes xs) (append-nil (box_bytes name payload))
    (one_more name payload (box_bytes name payload) []
    (short encodable (omega (arith, fits, length-box_bytes name payload)) refl) among none)

-- bytes that begin with a box
box_first : (name : BoxType) (payload one after : List ℕ) → IsBox name payload one
    → (header : List ℕ) × IsFirstBox (one ++ after) name header payload after
box_first name payload one after box =
    let r = reads_as_box name payload [] one after box in
    let k : ℕ = 0 + r.header in
    let t = was_taken (length payload) (here (one ++ after) k) _ r.body in
    let few : k ≤ length one = omega (arith, r.whole) in
    let left : length (drop k one) ≡ length payload = omega (arith, r.whole, length-drop k one) in
    let is : payload ≡ drop k one =
    sym (ap (λ (x : List ℕ × Cursor). x.0) t.1) ∙ ap (take (length payload)) (drop-append-le k one after few)
    ∙ take-append-le (length payload) (drop k one) after (omega (arith, left))
    ∙ take_all (length payload) (drop k one) (omega (arith, left)) in
    let whole : one ++ after ≡ take k one ++ (payload ++ after) =
    ap (λ (xs : List ℕ). xs ++ after)
    (sym (take-append-drop k one) ∙ ap (λ (xs : List ℕ). take k one ++ xs) (sym is))
    ∙ append_assoc (take k one) payload after in
    let long : length (take k one) ≡ k = omega (arith, length-take k one, few) in (
      take k one,
      record {
        head = r.head
            ∙ ap (λ n. Ok (record { name = name; size = 8 + length payload }, here (one ++ after) n)) (sym long);
        all = whole;
      },
    )

module _ (codes changing going : List ℕ) (may : (name : BoxType) → IsAmong codes name → IsAmong changing name) where
  more_boxes : (bytes before after : List ℕ) → AreBoxesAmong codes bytes → IsKept changing going before after
      → IsKept changing going before (bytes ++ after)
  more_boxes bytes before after none k = k
  more_boxes bytes before after (one_more name payload one rest box among others) k =
      let first = box_first name payload one (rest ++ after) box in
      subst (λ (xs : List ℕ). IsKept changing going before xs) (sym (append_assoc one rest after))
      (more before (one ++ (rest ++ after)) (rest ++ after) name first.0 payload first.1 (may name among)
      (more_boxes rest before after others k))

-- a table of chunk offsets is one
encodable_stco : IsEncodable StcoBox
unfolding box_type
encodable_stco = record { named = refl; code = lit< tt }

encodable_co64 : IsEncodable Co64Box
unfolding box_type
encodable_co64 = record { named = refl; code = lit< tt }

offsets_among : (places : List ℕ) → length (offsets_box places) < 2 ^ 32 → AreBoxesAmong offsets (offsets_box places)
unfolding offsets_box
offsets_among places fits = by (are_far places) fits
  where
    by : (far : Bool)
        → length (if far then box_bytes Co64Box (co64_payload (record { version = 0; flags = 0; entries = places }))
        else box_bytes StcoBox (stco_payload (record { version = 0; flags = 0; entries = places }))) < 2 ^ 32
        → AreBoxesAmong offsets (if far
        then box_bytes Co64Box (co64_payload (record { version = 0; flags = 0; entries = places }))
        else box_bytes StcoBox (stco_payload (record { version = 0; flags = 0; entries = places })))
    by true fits = among_one offsets Co64Box _ encodable_co64 refl fits
    by false fits = among_one offsets StcoBox _ encodable_stco refl fits

-- WHICH BOXES MAY BE OTHERS

-- An edit is one where this is made anew: not chunk offsets alone; nothing is said of fragments any more, and tables
-- are made, where all tables are; and those are tables.
pub record IsEditOf (what : Anew) (edit : MovieEdit) : Type 0 where
  pub some : what ≡ Offsets → ⊥
  pub gathered : edit.is_gathered ≡ true → what ≡ Tables
  pub tables : (track : ℕ) (m : MadeTrack) → made_at edit track ≡ Some m
      → (what ≡ Tables) × AreBoxesAmong of_tables m.tables.bytes.items

among_after : (front codes : List ℕ) (name : BoxType) → IsAmong codes name → IsAmong (front ++ codes) name
among_after [] codes name is = is
among_after (c ∷ cs) codes name is =
    or_right (c == code_of name) (list_any (λ k. k == code_of name) (cs ++ codes)) (among_after cs codes name is)

of_tables_too : (name : BoxType) → IsAmong of_tracks name → IsAmong of_tables name
of_tables_too name is =
    among_after (code_of EdtsBox ∷ code_of MvexBox ∷ code_of TkhdBox ∷ code_of MdhdBox ∷ code_of SttsBox
    ∷ code_of CttsBox ∷ code_of StssBox ∷ code_of StscBox ∷ code_of StszBox ∷ 0x73747a32 ∷ []) of_tracks name is

of_tracks_too : (name : BoxType) → IsAmong offsets name → IsAmong of_tracks name
of_tracks_too name is = among_after (code_of MvhdBox ∷ 0x74726566 ∷ []) offsets name is

tracks_may : (what : Anew) → (what ≡ Offsets → ⊥) → (name : BoxType) → IsAmong of_tracks name
    → IsAmong (changed_by what) name
tracks_may Offsets some name is = absurd (some refl)
tracks_may Tracks some name is = is
tracks_may Tables some name is = of_tables_too name is

tables_may : (what : Anew) → what ≡ Tables → (name : BoxType) → IsAmong of_tables name → IsAmong (changed_by what) name
tables_may Offsets is name among = absurd cc
tables_may Tracks is name among = absurd cc
tables_may Tables is name among = among

-- which boxes become so
abbrev MayBecome : List ℕ → BoxType → Change → Type 0
MayBecome changing name kept = ⊤
MayBecome changing name left_out = IsAmong changing name ⊎ IsAmong tracks name
MayBecome changing name entered = IsAmong entered_boxes name
MayBecome changing name (moved size) = IsAmong offsets name
MayBecome changing name (timed beside duration) = IsAmong changing name
MayBecome changing name (shown last) = IsAmong changing name
MayBecome changing name (referring ids) = IsAmong changing name
MayBecome changing name (tabled tables) =
    ((name : BoxType) → IsAmong of_tables name → IsAmong changing name) × AreBoxesAmong of_tables tables.bytes.items

may_or : {X : Type 0} (changing : List ℕ) (name : BoxType) (f : X → Change) (o : Option X)
    → ((x : X) → o ≡ Some x → MayBecome changing name (f x)) → MayBecome changing name (kept_or (option_map f o))
may_or changing name f None each = tt
may_or changing name f (Some x) each = each x refl

may_if : (changing : List ℕ) (name : BoxType) (b : Bool) (c : Change) → (b ≡ true → MayBecome changing name c)
    → MayBecome changing name (if b then c else kept)
may_if changing name true c each = each refl
may_if changing name false c each = tt

last_made : (o : Option MadeTrack) (last : ℕ) → last_edit o ≡ Some last → (m : MadeTrack) × (o ≡ Some m)
last_made None last is = absurd cc
last_made (Some m) last is = (m, refl)

module _ (what : Anew) (edit : MovieEdit) (is_of : IsEditOf what edit) where
  abbrev May : BoxType → Change → Type 0
  May name change = MayBecome (changed_by what) name change

  in_file : (name : BoxType) → May name (file_change name)
  in_file MoovBox = refl
  in_file name = tt

  in_trak : (o : Option TrackEdit) → May TrakBox (trak_change o)
  in_trak None = refl
  in_trak (Some Dropped) = inr refl
  in_trak (Some Moved) = refl
  in_trak (Some (Made m)) = refl

  in_movie : (name : BoxType) (track : ℕ) → May name (movie_change edit name track)
  in_movie MvhdBox track =
      may_or (changed_by what) MvhdBox (timed 4) edit.duration (λ d e. tracks_may what is_of.some MvhdBox refl)
  in_movie MvexBox track =
      may_if (changed_by what) MvexBox edit.is_gathered left_out
      (λ e. inl (tables_may what (is_of.gathered e) MvexBox refl))
  in_movie TrakBox track = in_trak (slice_get edit.tracks.items track)
  in_movie name track = tt

  in_tref : (o : Option (List ℕ)) (name : BoxType) → May name (tref_change o name)
  in_tref None name = tt
  in_tref (Some ids) name =
      may_if (changed_by what) name (code_of name == 0x74726566) (referring ids) (λ e.
      tracks_may what is_of.some name (tref_among name (eqb-true (code_of name) 0x74726566 e)))
    where
      tref_among : (name : BoxType) → code_of name ≡ 0x74726566 → IsAmong of_tracks name
      tref_among name e = rw e refl

  in_track : (name : BoxType) (track : ℕ) → May name (track_change edit name track)
  in_track MdiaBox track = refl
  in_track TkhdBox track =
      may_or (changed_by what) TkhdBox (λ (m : MadeTrack). timed 8 m.shown.total) (made_at edit track)
      (λ m e. tables_may what (is_of.tables track m e).0 TkhdBox refl)
  in_track EdtsBox track =
      may_or (changed_by what) EdtsBox shown (last_edit (made_at edit track))
      (λ l e. let m = last_made (made_at edit track) l e in tables_may what (is_of.tables track m.0 m.1).0 EdtsBox refl)
  in_track name track = in_tref (option_map vec_items edit.ids) name

  in_media : (name : BoxType) (track : ℕ) → May name (media_change edit name track)
  in_media MinfBox track = refl
  in_media MdhdBox track =
      may_or (changed_by what) MdhdBox (λ (m : MadeTrack). timed 4 m.tables.duration) (made_at edit track)
      (λ m e. tables_may what (is_of.tables track m e).0 MdhdBox refl)
  in_media name track = tt

  in_minf : (name : BoxType) → May name (minf_change name)
  in_minf StblBox = refl
  in_minf name = tt

  in_made : (m : MadeTrack) → what ≡ Tables → AreBoxesAmong of_tables m.tables.bytes.items → (name : BoxType)
      → May name (made_change m name)
  in_made m is boxes StsdBox = (tables_may what is, boxes)
  in_made m is boxes SttsBox = inl (tables_may what is SttsBox refl)
  in_made m is boxes CttsBox = inl (tables_may what is CttsBox refl)
  in_made m is boxes StssBox = inl (tables_may what is StssBox refl)
  in_made m is boxes StscBox = inl (tables_may what is StscBox refl)
  in_made m is boxes StszBox = inl (tables_may what is StszBox refl)
  in_made m is boxes StcoBox = inl (tables_may what is StcoBox refl)
  in_made m is boxes Co64Box = inl (tables_may what is Co64Box refl)
  in_made m is boxes name =
      may_if (changed_by what) name (code_of name == 0x73747a32) left_out
      (λ e. inl (tables_may what is name (compact_among name (eqb-true (code_of name) 0x73747a32 e))))
    where
      compact_among : (name : BoxType) → code_of name ≡ 0x73747a32 → IsAmong of_tables name
      compact_among name e = rw e refl

  in_tables : (o : Option MadeTrack) → ((m : MadeTrack) → o ≡ Some m
      → (what ≡ Tables) × AreBoxesAmong of_tables m.tables.bytes.items) → (name : BoxType)
      → May name (table_change o name)
  in_tables None each name =
      may_or (changed_by what) name moved (entry_size name) (λ size e. table_among name size e)
  in_tables (Some m) each name = let e = each m refl in in_made m e.0 e.1 name

  may_become : (level : ℕ) (name : BoxType) (track : ℕ) → May name (change_of edit level name track)
  unfolding change_of
  may_become zero name track = in_file name
  may_become (suc zero) name track = in_movie name track
  may_become (suc (suc zero)) name track = in_track name track
  may_become (suc (suc (suc zero))) name track = in_media name track
  may_become (suc (suc (suc (suc zero)))) name track = in_minf name
  may_become (suc (suc (suc (suc (suc zero))))) name track =
      in_tables (made_at edit track) (λ m e. is_of.tables track m e) name
  may_become (suc (suc (suc (suc (suc (suc level)))))) name track = tt

-- WHAT IS KEPT

tables_fit : (base : ℕ) (tables : MadeTables) (out : List ℕ) → tables_at base tables ≡ Some out
    → length (offsets_box (chunk_places base tables.chunks.items)) < 2 ^ 32
tables_fit base tables out is =
    by (nat_lt (length (offsets_box (chunk_places base tables.chunks.items))) (2 ^ 32)) refl is
  where
    by : (b : Bool) → nat_lt (length (offsets_box (chunk_places base tables.chunks.items))) (2 ^ 32) ≡ b
        → (if b then Some (tables.bytes.items ++ offsets_box (chunk_places base tables.chunks.items)) else None)
        ≡ Some out → length (offsets_box (chunk_places base tables.chunks.items)) < 2 ^ 32
    by true fits is = ltb-true _ _ fits
    by false fits is = absurd cc

module _ (changing : List ℕ) (before rest ra : List ℕ) (name : BoxType) (header payload : List ℕ)
    (first : IsFirstBox before name header payload rest) (later : IsKept changing tracks rest ra) where
  -- another box takes its place
  replaced : (new out : List ℕ) → IsAmong changing name → sized_box header new ≡ Some out
      → IsKept changing tracks before (out ++ ra)
  replaced new out among is =
      let ends = sized_is header new out is in
      let whole : out ++ ra ≡ sized header (length new) ++ (new ++ ra) =
      ap (λ (xs : List ℕ). xs ++ ra) ends.1 ∙ append_assoc (sized header (length new)) new ra in
      other before (out ++ ra) rest name header payload first among
      (subst (λ (zs : List ℕ). IsKept changing tracks rest zs) (sym whole)
      (more rest _ ra name (sized header (length new)) new
      (sized_first name header new ra (says_type before name header payload rest first) ends.0) among later))

  replaced_by : (o : Option (List ℕ)) (out : List ℕ) → IsAmong changing name → box_of header o ≡ Some out
      → IsKept changing tracks before (out ++ ra)
  replaced_by None out among is = absurd cc
  replaced_by (Some new) out among is = replaced new out among is

  replaced_unless_empty : (o : Option (List ℕ)) (out : List ℕ) → IsAmong changing name
      → box_unless_empty header o ≡ Some out → IsKept changing tracks before (out ++ ra)
  replaced_unless_empty None out among is = absurd cc
  replaced_unless_empty (Some []) out among is =
      subst (λ (xs : List ℕ). IsKept changing tracks before (xs ++ ra)) (sym (same_some [] out is))
      (other before ra rest name header payload first among later)
  replaced_unless_empty (Some (x ∷ xs)) out among is = replaced (x ∷ xs) out among is

  stays_before : (after : List ℕ) → IsKept changing tracks rest after
      → IsKept changing tracks before (header ++ (payload ++ after))
  stays_before after k =
      next before (header ++ (payload ++ after)) rest after name header payload first
      (first_again before name header payload rest first after) k

  moved_kept : (to : ℕ → ℕ) (size : ℕ) (out : List ℕ)
      → ((name : BoxType) → IsAmong offsets name → IsAmong changing name)
      → IsAmong offsets name → sized_box (wide_header (is_wide to size payload) header) (moved_payload to size payload)
      ≡ Some out → IsKept changing tracks before (out ++ ra)
  moved_kept to size out may among is =
      let wide = is_wide to size payload in
      let head : List ℕ = wide_header wide header in
      let made : List ℕ = moved_payload to size payload in
      let ends = sized_is head made out is in
      let says = table_says wide header name (first_long before name header payload rest first)
      (says_type before name header payload rest first) among in
      let whole : out ++ ra ≡ sized head (length made) ++ (made ++ ra) =
      ap (λ (xs : List ℕ). xs ++ ra) ends.1 ∙ append_assoc (sized head (length made)) made ra in
      other before (out ++ ra) rest name header payload first (may name among)
      (subst (λ (zs : List ℕ). IsKept changing tracks rest zs) (sym whole)
      (more rest _ ra says.name (sized head (length made)) made
      (sized_first says.name head made ra says.says ends.0) (may says.name says.among) later))

  box_kept : (to : ℕ → ℕ) (base : ℕ) (change : Change) (out : List ℕ)
      → ((name : BoxType) → IsAmong offsets name → IsAmong changing name) → MayBecome changing name change
      → changed_box to base change header payload ≡ Some out → IsKept changing tracks before (out ++ ra)
  unfolding changed_box
  box_kept to base kept out may is some =
      subst (λ (xs : List ℕ). IsKept changing tracks before xs)
      (sym (ap (λ (xs : List ℕ). xs ++ ra) (same_some (header ++ payload) out some) ∙ append_assoc header payload ra))
      (stays_before ra later)
  box_kept to base left_out out may (inl among) some =
      subst (λ (xs : List ℕ). IsKept changing tracks before (xs ++ ra)) (sym (same_some [] out some))
      (other before ra rest name header payload first among later)
  box_kept to base left_out out may (inr among) some =
      subst (λ (xs : List ℕ). IsKept changing tracks before (xs ++ ra)) (sym (same_some [] out some))
      (gone before ra rest name header payload first among later)
  box_kept to base entered out may is some = absurd cc
  box_kept to base (moved size) out may among some = moved_kept to size out may among some
  box_kept to base (timed m duration) out may among some = replaced (with_duration m duration payload) out among some
  box_kept to base (shown last) out may among some =
      replaced_by (each_box (edit_box last) (λ rest. rest) payload) out among some
  box_kept to base (referring ids) out may among some =
      replaced_unless_empty (each_box (reference_box ids) (λ rest. []) payload) out among some
  box_kept to base (tabled tables) out may (all, boxes) some =
      let a = is_joined (header ++ payload) out (tables_at base tables) some in
      let c = is_tables base tables a.0 a.1.0 in
      let table : List ℕ = offsets_box (chunk_places base tables.chunks.items) in
      let bytes : List ℕ = tables.bytes.items in
      let whole : out ++ ra ≡ header ++ (payload ++ (bytes ++ (table ++ ra))) =
      ap (λ (xs : List ℕ). xs ++ ra) (a.1.1 ∙ ap (λ (xs : List ℕ). (header ++ payload) ++ xs) c)
      ∙ append_assoc (header ++ payload) (bytes ++ table) ra
      ∙ ap (λ (xs : List ℕ). (header ++ payload) ++ xs) (append_assoc bytes table ra)
      ∙ append_assoc header payload (bytes ++ (table ++ ra)) in
      subst (λ (xs : List ℕ). IsKept changing tracks before xs) (sym whole)
      (stays_before (bytes ++ (table ++ ra))
      (more_boxes of_tables changing tracks all bytes rest (table ++ ra) boxes
      (more_boxes offsets changing tracks may table rest ra
      (offsets_among (chunk_places base tables.chunks.items) (tables_fit base tables a.0 a.1.0)) later)))

module _ (what : Anew) (edit : MovieEdit) (is_of : IsEditOf what edit) (to : ℕ → ℕ) (base : ℕ) where
  -- an edited movie box is as it was, but for what may be other in it
  pub edited_is_kept : (level track : ℕ) (xs ys : List ℕ) → IsEditedAt edit to base level track xs ys
      → IsKept (changed_by what) tracks xs ys
  edited_is_kept level track xs ys (no_box l t bytes ends) = same xs
  edited_is_kept level track xs ys (inside l t before after r ra n h p pa own is m room o e) =
      let says = says_type xs n h p r own in
      let way = subst (λ (c : Change). MayBecome (changed_by what) n c) is (may_become what edit is_of level n track) in
      subst (λ (zs : List ℕ). IsKept (changed_by what) tracks xs zs) (sym e)
      (inside_too xs _ r ra n h (sized h (length pa)) p pa own (sized_first n h pa ra says room) way
      (edited_is_kept (level + 1) track p pa m) (edited_is_kept level (track_after level n track) r ra o))
  edited_is_kept level track xs ys (changed l t before after r ra n h p ba own is o e) =
      subst (λ (zs : List ℕ). IsKept (changed_by what) tracks xs zs) (sym e)
      (box_kept (changed_by what) xs r ra n h p own
      (edited_is_kept level (track_after level n track) r ra o) to base (change_of edit level n track) ba
      (λ name among. tracks_may what is_of.some name (of_tracks_too name among))
      (may_become what edit is_of level n track) is)
