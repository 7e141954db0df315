-- A movie of some tracks of a file, as it is planned.
use Rattle.std.proofs.Common.{◌≡◌, ◌∙◌, ◌⊎◌, inl, inr, ℕ, zero, suc, ◌+◌, ◌-◌, ◌^◌, ◌≤◌, ◌<◌, ◌++◌, min, nat_lt, Bool}
use Rattle.std.proofs.Common.{true, false, List, [], ◌∷◌, length, take, Option, None, Some, IfSome, refl, sym, ap}
use Rattle.std.proofs.Common.{subst}
use Rattle.std.proofs.Common.{arith, Result, Ok, Err, IfErr, OnOk}
use Rattle.std.proofs.lemmas.Bool.{ltb-false, ltb-true}
use Rattle.std.proofs.lemmas.List.Elements.{All-cons, All-filter, All-head, All-nil, All-tail, All-weaker}
use Rattle.std.proofs.lemmas.List.Sums.{sum_by-cons}
use Rattle.std.specs.List.{All, filter, sum_by}
use Rattle.std.specs.Prelude.{map, slice_get}
use Rattle.mp4_boxes.specs.declared.trak.TrakBox.{TrakBox}
use Rattle.mp4_codec.specs.Cause.{cause_of}
use Rattle.mp4_codec.specs.Cursor.{here}
use Rattle.mp4_codec.specs.declared.error.Error.{Error}
use Rattle.mp4_codec.specs.declared.error.Error.TheVariants.{OutOfMemory}
use Rattle.mp4_moof.specs.declared.moof.MoofBox.{MoofBox}
use Rattle.mp4_moof.specs.declared.mvex.MvexBox.{MvexBox}
use Rattle.mp4_media.specs.FileBoxes.{OpenedFile}
use Rattle.mp4_media.specs.FileGrammar.{IsFile, between}
use Rattle.mp4_source.specs.Answers.{IsLength}
use Rattle.mp4_remux.specs.Caused.{CausedBy, CausedByMemory}
use Rattle.mp4_remux.specs.Chunks.{chunks_of}
use Rattle.mp4_remux.specs.Data.{AreApartFrom, AreDataOf, IsWithin, data_header, data_len}
use Rattle.mp4_remux.specs.Edit.{IsEditedAt, made_in}
use Rattle.mp4_remux.specs.Errors.{CopyFails, IsNoFault}
use Rattle.mp4_remux.specs.Frames.{IsFrame, data_begin, stays_beside}
use Rattle.mp4_remux.specs.Front.{AreBoxes}
use Rattle.mp4_remux.specs.Gathered.{BeginsWith}
use Rattle.mp4_remux.specs.Headers.{has_tables, made_from, made_of}
use Rattle.mp4_remux.specs.Kept.{of_tables}
use Rattle.mp4_remux.specs.PlannedRebuilt.{AreTrackEdits, FitsIn, HasOtherReferences, IsMovieAt, IsNowhereEdited}
use Rattle.mp4_remux.specs.PlannedRebuilt.{IsOtherMovie, IsPlannedData, IsPlannedRebuilt, IsPrepared, IsRebuildEdit}
use Rattle.mp4_remux.specs.PlannedRebuilt.{IsSettled, IsTooLong, IsUnmade, IsUnplanned, IsUnplannedData}
use Rattle.mp4_remux.specs.PlannedRebuilt.{IsWhyNotChosen, IsWhyNotRebuilt, IsWhyUnplanned, WritesPlanned, data_moved}
use Rattle.mp4_remux.specs.PlannedRebuilt.{header_len, rebuilt_stretches, staying_of}
use Rattle.mp4_remux.specs.Reads.{SaysFirst}
use Rattle.mp4_remux.specs.References.{references_in}
use Rattle.mp4_remux.specs.Refused.{IsUnreadable, IsWhyMade, SaysWhy}
use Rattle.mp4_remux.specs.RefusedRebuilt.{IsCutSample}
use Rattle.mp4_remux.specs.Remuxed.{IsOnlyFile, WritesRemuxed, ids_of, kept_of}
use Rattle.mp4_remux.specs.Splice.{Follow, has_bytes, spliced, stretch_len, stretch_of}
use Rattle.mp4_remux.specs.TrackTables.{AreTablesOf, infos, placed}
use Rattle.mp4_remux.specs.declared.data.Extent.{Extent}
use Rattle.mp4_remux.specs.declared.error.RemuxError.{RemuxError}
use Rattle.mp4_remux.specs.declared.error.RemuxError.TheVariants.{Mp4, OtherTracks}
use Rattle.mp4_remux.specs.declared.frame.Frame.{Frame}
use Rattle.mp4_remux.specs.declared.layout.Layout.{Layout}
use Rattle.mp4_remux.specs.declared.made.Made.{Made as Anew}
use Rattle.mp4_remux.specs.declared.made.Made.TheVariants.{Offsets, Tracks, Tables}
use Rattle.mp4_remux.specs.declared.movie_box.MadeTrack.{MadeTrack}
use Rattle.mp4_remux.specs.declared.movie_box.MovieEdit.{MovieEdit}
use Rattle.mp4_remux.specs.declared.movie_box.TrackEdit.{TrackEdit}
use Rattle.mp4_remux.specs.declared.movie_box.TrackEdit.TheVariants.{Dropped, Moved, Made}
use Rattle.mp4_remux.specs.declared.piece.Piece.{Piece}
use Rattle.mp4_remux.specs.declared.reference.Reference.{Reference}
use Rattle.mp4_remux.specs.declared.top_level.TopBox.{TopBox}
use Rattle.mp4_remux.specs.declared.track_tables.MadeTables.{MadeTables}
use Rattle.mp4_remux.proofs.Causes.{top_within}
use Rattle.mp4_remux.proofs.EditedKept.{AreBoxesAmong, IsEditOf, edited_is_kept}
use Rattle.mp4_remux.proofs.EditedLonger.{edited_longer}
use Rattle.mp4_remux.proofs.NotInFront.{copy_caused, no_fault_memory}
use Rattle.mp4_remux.proofs.Planning.{laid_out}
use Rattle.mp4_remux.proofs.Rebuilding.{front_of}
use Rattle.mp4_remux.proofs.Refusing.{says_why_too}
use Rattle.mp4_remux.proofs.TablesAmong.{tables_among}

-- WHERE THE DATA BEGINS

-- data that begins later is farther
pub data_farther : (extents : List Extent) (base up : ℕ) → base ≤ up → (place : ℕ)
    → data_moved extents base place ≤ data_moved extents up place
data_farther extents base up le place = omega (arith, le)

-- it begins later after a longer movie box
pub begins_later : (frame : Frame) (n m header_len : ℕ) → n ≤ m
    → data_begin frame n header_len ≤ data_begin frame m header_len
begins_later frame n m header_len le = omega (arith, le)

-- the movie box is edited where the data begins there
pub movie_at : (edit : MovieEdit) (frame : Frame) (extents : List Extent) (base begin : ℕ) (movie : List ℕ)
    → base ≡ begin → IsEditedAt edit (data_moved extents base) base 0 0 frame.movie_bytes.items movie
    → IsMovieAt edit frame extents begin movie
movie_at edit frame extents base begin movie is edited =
    subst (λ n. IsMovieAt edit frame extents n movie) is edited

-- a movie box is settled where the data begins after one of its length
pub settled_at : (edit : MovieEdit) (frame : Frame) (extents : List Extent) (header_len base len : ℕ) (movie : List ℕ)
    → base ≡ data_begin frame len header_len → len ≡ length movie
    → IsEditedAt edit (data_moved extents base) base 0 0 frame.movie_bytes.items movie
    → IsSettled edit frame extents header_len movie
settled_at edit frame extents header_len base len movie begins long edited =
    movie_at edit frame extents base (data_begin frame (length movie) header_len) movie
    (begins ∙ ap (λ n. data_begin frame n header_len) long) edited

-- A LONGER MOVIE BOX

-- each movie box where the data begins after one of so many bytes has as many or more
abbrev pub IsLeastMovie : MovieEdit → Frame → List Extent → (header_len movie_len : ℕ) → Type 0
IsLeastMovie edit frame extents header_len movie_len = (movie : List ℕ)
    → IsMovieAt edit frame extents (data_begin frame movie_len header_len) movie → movie_len ≤ length movie

pub least_movie : (edit : MovieEdit) (frame : Frame) (extents : List Extent) (header_len movie_len : ℕ)
    (movie : List ℕ) → IsLeastMovie edit frame extents header_len movie_len
    → IsMovieAt edit frame extents (data_begin frame movie_len header_len) movie
    → IsLeastMovie edit frame extents header_len (length movie)
least_movie edit frame extents header_len movie_len movie least at other also =
    let later = begins_later frame movie_len (length movie) header_len (least movie at) in
    edited_longer edit (data_moved extents (data_begin frame movie_len header_len))
    (data_moved extents (data_begin frame (length movie) header_len)) (data_begin frame movie_len header_len)
    (data_begin frame (length movie) header_len)
    (data_farther extents (data_begin frame movie_len header_len) (data_begin frame (length movie) header_len) later)
    later 0 0 frame.movie_bytes.items movie other at also

-- extents that are apart within a file have no more bytes than it
few_from : (len start : ℕ) (es : List Extent) → AreApartFrom start es → All (IsWithin len) es
    → data_len es ≤ len - start
unfolding AreApartFrom
few_from len start [] apart within = omega arith
few_from len start (e ∷ es) apart within =
    let w = All-head (IsWithin len) e es within in
    omega (
      arith,
      sum_by-cons (λ (x : Extent). x.end - x.place) e es,
      few_from len (e.end + 1) es apart.1.1 (All-tail (IsWithin len) e es within),
      apart.0,
      w.0,
      w.1,
    )

pub few_bytes : (len : ℕ) (es : List Extent) → AreApartFrom 0 es → All (IsWithin len) es → data_len es ≤ len
few_bytes len es apart within = omega (arith, few_from len 0 es apart within)

-- WHAT IS MADE

tables_made : (what : Anew) → has_tables what ≡ true → what ≡ Tables
tables_made Offsets is = absurd cc
tables_made Tracks is = absurd cc
tables_made Tables is = refl

never_offsets : (opened : OpenedFile) → made_of opened ≡ Offsets → ⊥
never_offsets opened is = by opened.moofs opened.moov.mvex is
  where
    by : (moofs : List MoofBox) (mvex : Option MvexBox) → made_from moofs mvex ≡ Offsets → ⊥
    by [] None is = absurd cc
    by [] (Some mvex) is = absurd cc
    by (moof ∷ moofs) mvex is = absurd cc

-- the bytes of tables that are made are boxes of such types
among_made : (opened : OpenedFile) (id : ℕ) (to : ℕ → ℕ) (t : MadeTables) → AreTablesOf opened id to t
    → AreBoxesAmong of_tables t.bytes.items
among_made opened id to t are =
    subst (λ (xs : List ℕ). AreBoxesAmong of_tables xs) (sym are.bytes)
    (tables_among (infos (placed opened id to 1 are.samples)) (chunks_of (placed opened id to 1 are.samples)) are.fit)

-- WITHIN THE FILE

boxes_within : (xs : List ℕ) (from len : ℕ) (boxes : List TopBox) → length xs ≡ len → AreBoxes xs from boxes
    → All (λ (b : TopBox). b.end ≤ len) boxes
unfolding AreBoxes
boxes_within xs from len [] measured are = All-nil (λ (b : TopBox). b.end ≤ len)
boxes_within xs from len (b ∷ bs) measured are =
    All-cons (λ (c : TopBox). c.end ≤ len) b bs (omega (arith, (top_within xs b are.1.0).within, measured))
    (boxes_within xs b.end len bs measured are.1.1)

-- WHAT IS PLANNED

module _ (before : List ℕ) (len : ℕ) (opened : OpenedFile) (ids : List ℕ) (frame : Frame) (extents : List Extent)
    (edit : MovieEdit) (measured : length before ≡ len) (is : IsFrame before (has_tables (made_of opened)) frame)
    (samples : AreDataOf opened ids extents) (edits : IsRebuildEdit opened (data_moved extents 0) ids edit)
  where
    pub prepared : IsPrepared before opened ids frame extents edit
    prepared = record { is_frame = is; samples = samples; edits = edits }

    -- a layout of what was made, and of the pieces, is that of the file that is planned
    pub planned_layout : (staying : List Reference) (made : List ℕ) (pieces : List Piece) (l : Layout)
        → IsPlannedData edit frame extents ids staying made pieces → l.source_len ≡ len → l.made.items ≡ made
        → l.pieces.items ≡ pieces → IsPlannedRebuilt before opened ids l.made.items l.pieces.items
    planned_layout staying made pieces l p is_len is_made is_pieces =
        rw (is_made, is_pieces) (record {
          frame = frame;
          extents = extents;
          movie = p.movie;
          rebuilt = record { edit = edit; prepared = prepared; settled = p.settled };
          is = p.is;
          stretches = record {
            are = p.stretches;
            end = l.len;
            follow = laid_out before made pieces len l (sym measured) is_len is_made is_pieces;
          };
        })

    -- why none is planned of an edit is why none is of these tracks
    pub unplanned_data : (staying : List Reference) (e : RemuxError)
        → staying ≡ staying_of frame (ids_of opened.moov) ids → IsUnplannedData edit frame extents ids staying e
        → IsWhyUnplanned before opened ids e
    unplanned_data staying e stay why =
        says_why_too (λ error. (error ≡ OutOfMemory) ⊎ IsNowhereEdited edit frame extents error)
        (IsUnplanned before opened ids) (IsOtherMovie edit frame extents ids staying)
        (HasOtherReferences before opened ids ⊎ IsTooLong before opened ids) (λ id k. ⊥)
        (IsCutSample (length before) ids opened) errors others (λ id k no. absurd no) e why
      where
        errors : (error : Error) → (error ≡ OutOfMemory) ⊎ IsNowhereEdited edit frame extents error
            → IsUnplanned before opened ids error
        errors error (inl none) = inl none
        errors error (inr nowhere) =
            inr (inr (inr (record {
              frame = frame;
              extents = extents;
              edit = edit;
              prepared = prepared;
              why = nowhere;
            })))

        others : IsOtherMovie edit frame extents ids staying
            → HasOtherReferences before opened ids ⊎ IsTooLong before opened ids
        others o = inl (record {
          frame = frame;
          extents = extents;
          movie = o.movie;
          rebuilt = record { edit = edit; prepared = prepared; settled = o.settled };
          other = λ same. o.other (same ∙ sym stay);
        })

    -- all that stays lies within the file
    pub fits_in : All (IsWithin len) extents → FitsIn len frame extents
    fits_in within = record {
      file_type = omega (arith, is.has_file_type.whole.within, measured);
      others = subst (λ (bs : List TopBox). All (λ (b : TopBox). b.end ≤ len) bs) (sym is.others)
          (All-filter (λ (b : TopBox). stays_beside (has_tables (made_of opened)) b.name)
          (λ (b : TopBox). b.end ≤ len) is.boxes (boxes_within before 0 len is.boxes measured is.are));
      samples = All-weaker (IsWithin len) (λ (e : Extent). e.end ≤ len) (λ e w. w.1) extents within;
    }

    -- a file that has no layout has too many bytes
    pub too_long : (staying : List Reference) (made : List ℕ) (pieces : List Piece)
        → IsPlannedData edit frame extents ids staying made pieces
        → ((movie : List ℕ) → made ≡ movie ++ data_header (data_len extents)
        → sum_by stretch_len (rebuilt_stretches frame (length movie) (length made) extents) < 2 ^ 64
        → Follow len (length made) 0 pieces
        (sum_by stretch_len (rebuilt_stretches frame (length movie) (length made) extents)))
        → ((end : ℕ) → end < 2 ^ 64 → Follow len (length made) 0 pieces end → ⊥)
        → IsWhyUnplanned before opened ids OtherTracks
    too_long staying made pieces p follow none =
        inr (record {
          frame = frame;
          extents = extents;
          movie = p.movie;
          rebuilt = record { edit = edit; prepared = prepared; settled = p.settled };
          long = subst (λ n. 2 ^ 64 ≤ sum_by stretch_len (rebuilt_stretches frame (length p.movie) n extents))
              (ap length p.is) (by (nat_lt all (2 ^ 64)) refl);
        })
      where
        all : ℕ
        all = sum_by stretch_len (rebuilt_stretches frame (length p.movie) (length made) extents)

        by : (small : Bool) → nat_lt all (2 ^ 64) ≡ small → 2 ^ 64 ≤ all
        by true less =
            let few = ltb-true all (2 ^ 64) less in absurd (none all few (follow p.movie p.is few))
        by false more = ltb-false all (2 ^ 64) more

-- the bytes that were made and the pieces, from how long each part is
pub data_is_planned : (edit : MovieEdit) (frame : Frame) (extents : List Extent) (ids : List ℕ)
    (staying : List Reference) (movie made header : List ℕ) (pieces : List Piece)
    (len header_is movie_is made_is : ℕ) → data_len extents < 2 ^ 64 → len ≡ min (2 ^ 64 - 1) (data_len extents)
    → header ≡ data_header len → header_is ≡ length header → IsSettled edit frame extents header_is movie
    → references_in movie ids ≡ staying → movie_is ≡ length movie → made_is ≡ length made → made ≡ movie ++ header
    → map stretch_of pieces ≡ filter has_bytes (rebuilt_stretches frame movie_is made_is extents)
    → ((source made : List ℕ) → (rest : List ℕ) × (spliced source made pieces
    ≡ between source frame.file_type.place frame.file_type.end ++ (between made 0 movie_is ++ rest)))
    → IsPlannedData edit frame extents ids staying made pieces
data_is_planned edit frame extents ids staying movie made header pieces len header_is movie_is made_is few is_len
    is_header long settled referring movie_long made_long is stretches all =
    let same : header ≡ data_header (data_len extents) =
    is_header ∙ ap data_header (omega (arith, is_len, few)) in
    record {
      movie = movie;
      settled = subst (λ n. IsSettled edit frame extents n movie) (long ∙ ap length same) settled;
      referring = referring;
      is = is ∙ ap (λ (xs : List ℕ). movie ++ xs) same;
      stretches = rw (sym movie_long, sym made_long) stretches;
      bytes = λ source.
          let a = all source made in
          let first : take (movie_is - 0) made ≡ movie =
          ap (λ n. take n made) (omega (arith, movie_long)) ∙ ap (λ (xs : List ℕ). take (length movie) xs) is
          ∙ front_of movie header in
          let type = between source frame.file_type.place frame.file_type.end in
          (a.0, a.1 ∙ ap (λ (m : List ℕ). type ++ (m ++ a.0)) first);
    }

-- how an edit may change a movie box where these tracks are kept
made_by : (opened : OpenedFile) (to : ℕ → ℕ) (ids : List ℕ) (ts : List TrakBox) (es : List TrackEdit)
    → AreTrackEdits opened to ids ts es → (track : ℕ) (m : MadeTrack) → made_in (slice_get es track) ≡ Some m
    → (made_of opened ≡ Tables) × AreBoxesAmong of_tables m.tables.bytes.items
unfolding AreTrackEdits
made_by opened to ids [] [] are track m is = absurd cc
made_by opened to ids [] (e ∷ es) are track m is = absurd are
made_by opened to ids (t ∷ ts) [] are track m is = absurd cc
made_by opened to ids (t ∷ ts) (Dropped ∷ es) are zero m is = absurd cc
made_by opened to ids (t ∷ ts) (Moved ∷ es) are zero m is = absurd cc
made_by opened to ids (t ∷ ts) (Made n ∷ es) are zero m is =
    let same : n ≡ m = cc in (
      tables_made (made_of opened) are.0.1.0,
      subst (λ (o : MadeTrack). AreBoxesAmong of_tables o.tables.bytes.items) same
          (among_made opened _ to n.tables are.0.1.1.0),
    )
made_by opened to ids (t ∷ ts) (e ∷ es) are (suc track) m is = made_by opened to ids ts es are.1 track m is

pub edit_is_of : (opened : OpenedFile) (to : ℕ → ℕ) (ids : List ℕ) (edit : MovieEdit)
    → IsRebuildEdit opened to ids edit → IsEditOf (made_of opened) edit
edit_is_of opened to ids edit edits = record {
  some = never_offsets opened;
  gathered = λ is. tables_made (made_of opened) (sym edits.gathered ∙ is);
  tables = made_by opened to ids opened.moov.traks edit.tracks.items edits.tracks;
}

-- it begins with the file type and the movie box, which is as it was but for what is made anew
pub planned_begins : (opened : OpenedFile) (ids : List ℕ) (frame : Frame) (extents : List Extent) (edit : MovieEdit)
    (staying : List Reference) (made : List ℕ) (pieces : List Piece)
    → IsRebuildEdit opened (data_moved extents 0) ids edit
    → IsPlannedData edit frame extents ids staying made pieces
    → BeginsWith (made_of opened) ids staying frame.file_type frame.movie_bytes.items made pieces
planned_begins opened ids frame extents edit staying made pieces edits p = record {
  movie = p.movie;
  kept = edited_is_kept (made_of opened) edit (edit_is_of opened (data_moved extents 0) ids edit edits)
      (data_moved extents (data_begin frame (length p.movie) (header_len extents)))
      (data_begin frame (length p.movie) (header_len extents)) 0 0 frame.movie_bytes.items p.movie p.settled;
  referring = p.referring;
  bytes = p.bytes;
}

-- why samples aren't read is why none is planned
pub unread_unplanned : (before : List ℕ) (len : ℕ) (opened : OpenedFile) (ids : List ℕ) (e : RemuxError)
    → length before ≡ len → SaysWhy (λ error. (error ≡ OutOfMemory) ⊎ IsUnreadable opened ids (cause_of error)) ⊥
    (IsCutSample len ids opened) e → IsWhyUnplanned before opened ids e
unread_unplanned before len opened ids e measured why =
    says_why_too (λ error. (error ≡ OutOfMemory) ⊎ IsUnreadable opened ids (cause_of error))
    (IsUnplanned before opened ids) ⊥ (HasOtherReferences before opened ids ⊎ IsTooLong before opened ids)
    (IsCutSample len ids opened) (IsCutSample (length before) ids opened) errors (λ no. absurd no)
    (λ id k cut. subst (λ n. IsCutSample n ids opened id k) (sym measured) cut) e why
  where
    errors : (error : Error) → (error ≡ OutOfMemory) ⊎ IsUnreadable opened ids (cause_of error)
        → IsUnplanned before opened ids error
    errors error (inl none) = inl none
    errors error (inr unread) = inr (inl unread)

-- so is why no tables are made
pub unmade_unplanned : (before : List ℕ) (opened : OpenedFile) (ids : List ℕ) (extents : List Extent) (e : RemuxError)
    → AreDataOf opened ids extents → CausedBy (IsUnmade opened ids (data_moved extents 0)) ⊥ e
    → IsWhyUnplanned before opened ids e
unmade_unplanned before opened ids extents e samples why =
    says_why_too (IsUnmade opened ids (data_moved extents 0))
    (IsUnplanned before opened ids) ⊥ (HasOtherReferences before opened ids ⊎ IsTooLong before opened ids) (λ id k. ⊥)
    (IsCutSample (length before) ids opened) errors (λ no. absurd no) (λ id k no. absurd no) e why
  where
    errors : (error : Error) → IsUnmade opened ids (data_moved extents 0) error → IsUnplanned before opened ids error
    errors error (inl none) = inl none
    errors error (inr unmade) = inr (inr (inl (extents, (samples, unmade))))

-- WHAT IS SAID OF THE FILE THAT OPENS

-- the frame isn't read, for memory
pub memory_unplanned : (before : List ℕ) (opened : OpenedFile) (ids : List ℕ) (e : RemuxError) → CausedByMemory e
    → IsWhyUnplanned before opened ids e
memory_unplanned before opened ids e why =
    says_why_too (λ error. error ≡ OutOfMemory) (IsUnplanned before opened ids) ⊥
    (HasOtherReferences before opened ids ⊎ IsTooLong before opened ids) (λ id k. ⊥)
    (IsCutSample (length before) ids opened) (λ error none. inl none) (λ no. absurd no) (λ id k no. absurd no) e why

pub frame_why : (known : Option (List ℕ)) (opened : OpenedFile) (ids : List ℕ) (e : RemuxError)
    → IfSome known (λ xs. CausedByMemory e) → IfSome known (λ xs. IsWhyNotRebuilt xs opened ids e)
frame_why None opened ids e why = tt
frame_why (Some xs) opened ids e why = inl (memory_unplanned xs opened ids e why)

pub memory_why : (known : Option (List ℕ)) (opened : OpenedFile) (ids : List ℕ) (e : RemuxError)
    → CausedByMemory e → IfSome known (λ xs. IsWhyNotRebuilt xs opened ids e)
memory_why None opened ids e why = tt
memory_why (Some xs) opened ids e why = inl (memory_unplanned xs opened ids e why)

-- no file is planned
pub unplanned_why : (known : Option (List ℕ)) (len : ℕ) (opened : OpenedFile) (ids : List ℕ) (frame : Frame)
    (staying : List Reference) (e : RemuxError) → IsLength known len
    → IfSome known (λ xs. IsFrame xs (has_tables (made_of opened)) frame)
    → staying ≡ staying_of frame (ids_of opened.moov) ids
    → ((before : List ℕ) → length before ≡ len → IsFrame before (has_tables (made_of opened)) frame
    → staying ≡ staying_of frame (ids_of opened.moov) ids → IsWhyUnplanned before opened ids e)
    → IfSome known (λ xs. IsWhyNotRebuilt xs opened ids e)
unplanned_why None len opened ids frame staying e measured is stay why = tt
unplanned_why (Some xs) len opened ids frame staying e measured is stay why = inl (why xs (sym measured) is stay)

-- the file that is planned isn't written
pub written_why : (known : Option (List ℕ)) (len : ℕ) (opened : OpenedFile) (ids : List ℕ) (frame : Frame)
    (made : List ℕ) (pieces : List Piece) (e : RemuxError) → IsLength known len
    → IfSome known (λ xs. IsFrame xs (has_tables (made_of opened)) frame)
    → ((before : List ℕ) → length before ≡ len → IsFrame before (has_tables (made_of opened)) frame
    → IsPlannedRebuilt before opened ids made pieces)
    → IfSome known (λ xs. IsWhyMade (made_of opened) ids xs made pieces opened e)
    → IfSome known (λ xs. IsWhyNotRebuilt xs opened ids e)
written_why None len opened ids frame made pieces e measured is planned why = tt
written_why (Some xs) len opened ids frame made pieces e measured is planned why =
    inr (made, (pieces, (planned xs (sym measured) is, why)))

-- or it is
pub written_planned : (known had has : Option (List ℕ)) (len : ℕ) (opened : OpenedFile) (ids : List ℕ) (frame : Frame)
    (made : List ℕ) (pieces : List Piece) → IsLength known len
    → IfSome known (λ xs. IsFrame xs (has_tables (made_of opened)) frame)
    → ((before : List ℕ) → length before ≡ len → IsFrame before (has_tables (made_of opened)) frame
    → IsPlannedRebuilt before opened ids made pieces)
    → IfSome known (λ xs. WritesRemuxed xs (spliced xs made pieces) opened (made_of opened) ids had has)
    → IfSome known (λ xs. WritesPlanned xs opened ids had has)
written_planned None had has len opened ids frame made pieces measured is planned written = tt
written_planned (Some xs) had has len opened ids frame made pieces measured is planned written =
    (made, (pieces, (planned xs (sym measured) is, written.0)))

-- a file is refused for nothing but memory, or by the source, before it is opened
pub no_fault_rebuilt : (known : Option (List ℕ)) (can_refuse : Bool) (ids : OpenedFile → List ℕ) (e : RemuxError)
    → IsNoFault known can_refuse e → IfSome known (λ xs. (opened : OpenedFile) → IsFile (length xs) (here xs 0) opened
    → IsWhyNotRebuilt xs opened (ids opened) e)
no_fault_rebuilt known can_refuse ids e no_fault = by known (no_fault_memory known can_refuse e no_fault)
  where
    by : (known : Option (List ℕ)) → IfSome known (λ xs. (opened : OpenedFile) → IsFile (length xs) (here xs 0) opened
        → CausedByMemory e) → IfSome known (λ xs. (opened : OpenedFile) → IsFile (length xs) (here xs 0) opened
        → IsWhyNotRebuilt xs opened (ids opened) e)
    by None why = tt
    by (Some xs) why = λ opened file. inl (memory_unplanned xs opened (ids opened) e (why opened file))

-- memory ran out
pub memory_opened : (known : Option (List ℕ)) (ids : OpenedFile → List ℕ) (e : RemuxError) → CausedByMemory e
    → IfSome known (λ xs. (opened : OpenedFile) → IsFile (length xs) (here xs 0) opened
    → IsWhyNotRebuilt xs opened (ids opened) e)
memory_opened None ids e why = tt
memory_opened (Some xs) ids e why = λ opened file. inl (memory_unplanned xs opened (ids opened) e why)

-- the movie is the one that the file opens to
pub rebuilt_opened : (known : Option (List ℕ)) (opened : OpenedFile) (kept : List ℕ) (of_all : List ℕ → List ℕ)
    (e : RemuxError) → IsOnlyFile known opened → kept ≡ of_all (ids_of opened.moov)
    → IfSome known (λ xs. IsWhyNotRebuilt xs opened kept e)
    → IfSome known (λ xs. (o : OpenedFile) → IsFile (length xs) (here xs 0) o
    → IsWhyNotRebuilt xs o (of_all (ids_of o.moov)) e)
rebuilt_opened None opened kept of_all e only is why = tt
rebuilt_opened (Some xs) opened kept of_all e only is why = λ o file.
    subst (λ (m : OpenedFile). IsWhyNotRebuilt xs m (of_all (ids_of m.moov)) e) (only o file)
    (subst (λ (ids : List ℕ). IsWhyNotRebuilt xs opened ids e) is why)

pub made_opened : (known had has : Option (List ℕ)) (opened : OpenedFile) (kept : List ℕ) (of_all : List ℕ → List ℕ)
    → IsOnlyFile known opened → kept ≡ of_all (ids_of opened.moov)
    → IfSome known (λ xs. WritesPlanned xs opened kept had has)
    → IfSome known (λ xs. (o : OpenedFile) → IsFile (length xs) (here xs 0) o
    → WritesPlanned xs o (of_all (ids_of o.moov)) had has)
made_opened None had has opened kept of_all only is written = tt
made_opened (Some xs) had has opened kept of_all only is written = λ o file.
    subst (λ (m : OpenedFile). WritesPlanned xs m (of_all (ids_of m.moov)) had has) (only o file)
    (subst (λ (ids : List ℕ). WritesPlanned xs opened ids had has) is written)

pub answer_made : {A : Type 0} (r : Result A RemuxError) (known had has : Option (List ℕ)) (opened : OpenedFile)
    (kept : List ℕ) (of_all : List ℕ → List ℕ) → IsOnlyFile known opened → kept ≡ of_all (ids_of opened.moov)
    → OnOk r (IfSome known (λ xs. WritesPlanned xs opened kept had has))
    → OnOk r (IfSome known (λ xs. (o : OpenedFile) → IsFile (length xs) (here xs 0) o
    → WritesPlanned xs o (of_all (ids_of o.moov)) had has))
answer_made (Err e) known had has opened kept of_all only is written = tt
answer_made (Ok x) known had has opened kept of_all only is written =
    made_opened known had has opened kept of_all only is written

-- GATHERED

-- a file of which no tables are made isn't gathered
pub none_gathered : (r : Result (Unit {0}) RemuxError) (known had has : Option (List ℕ)) (movie : OpenedFile)
    → IsOnlyFile known movie → has_tables (made_of movie) ≡ false
    → OnOk r (IfSome known (λ xs. (o : OpenedFile) → IsFile (length xs) (here xs 0) o → made_of o ≡ Tables
    → WritesPlanned xs o (ids_of o.moov) had has))
none_gathered (Err e) known had has movie only none = tt
none_gathered (Ok u) None had has movie only none = tt
none_gathered (Ok u) (Some xs) had has movie only none = λ o file made.
    absurd (let no : true ≡ false =
    sym (ap has_tables (ap made_of (only o file) ∙ made)) ∙ none in absurd cc)

pub some_gathered : (known had has : Option (List ℕ)) (movie : OpenedFile) (kept : List ℕ) → IsOnlyFile known movie
    → kept ≡ ids_of movie.moov → IfSome known (λ xs. WritesPlanned xs movie kept had has)
    → IfSome known (λ xs. (o : OpenedFile) → IsFile (length xs) (here xs 0) o → made_of o ≡ Tables
    → WritesPlanned xs o (ids_of o.moov) had has)
some_gathered known had has movie kept only is written =
    by known (made_opened known had has movie kept (λ ids. ids) only is written)
  where
    by : (known : Option (List ℕ)) → IfSome known (λ xs. (o : OpenedFile) → IsFile (length xs) (here xs 0) o
        → WritesPlanned xs o (ids_of o.moov) had has)
        → IfSome known (λ xs. (o : OpenedFile) → IsFile (length xs) (here xs 0) o → made_of o ≡ Tables
        → WritesPlanned xs o (ids_of o.moov) had has)
    by None written = tt
    by (Some xs) written = λ o file made. written o file

-- a file that isn't copied is refused for memory, by the source or by the sink
pub copy_rebuilt : {X : Type 0} (known : Option (List ℕ)) (Refuses : Type 0) (can_refuse : Bool)
    (ids : OpenedFile → List ℕ) (r : Result X RemuxError) → IfErr r (CopyFails Refuses can_refuse)
    → IfErr r (λ e. IfSome known (λ xs. (o : OpenedFile) → IsFile (length xs) (here xs 0) o
    → IsWhyNotRebuilt xs o (ids o) e))
copy_rebuilt known Refuses can_refuse ids (Ok x) fails = tt
copy_rebuilt known Refuses can_refuse ids (Err e) fails =
    memory_opened known ids e (copy_caused Refuses can_refuse e fails)

-- CHOSEN

abbrev pub SaysNotChosen : Option (List ℕ) → (ids : List ℕ) → RemuxError → Type 0
SaysNotChosen known ids e = IfSome known (λ xs. (o : OpenedFile) → IsFile (length xs) (here xs 0) o
    → IsWhyNotChosen xs o ids e)

pub chosen_opened : (known : Option (List ℕ)) (ids : List ℕ) (e : RemuxError)
    → IfSome known (λ xs. (o : OpenedFile) → IsFile (length xs) (here xs 0) o
    → IsWhyNotRebuilt xs o (kept_of ids (ids_of o.moov)) e) → SaysNotChosen known ids e
chosen_opened None ids e why = tt
chosen_opened (Some xs) ids e why = λ o file. inr (why o file)

-- a track isn't there
pub missing_opened : (known : Option (List ℕ)) (movie : OpenedFile) (ids : List ℕ) (error : Error)
    → IsOnlyFile known movie → SaysFirst movie ids error → SaysNotChosen known ids (Mp4 error)
missing_opened None movie ids error only first = tt
missing_opened (Some xs) movie ids error only first = λ o file.
    inl (subst (λ (m : OpenedFile). SaysFirst m ids error) (only o file) first)

pub answer_chosen : {A : Type 0} (r : Result A RemuxError) (known : Option (List ℕ)) (movie : OpenedFile)
    (kept ids : List ℕ) → IsOnlyFile known movie → kept ≡ kept_of ids (ids_of movie.moov)
    → IfErr r (λ e. IfSome known (λ xs. IsWhyNotRebuilt xs movie kept e)) → IfErr r (SaysNotChosen known ids)
answer_chosen (Ok x) known movie kept ids only is why = tt
answer_chosen (Err e) known movie kept ids only is why =
    chosen_opened known ids e (rebuilt_opened known movie kept (kept_of ids) e only is why)
