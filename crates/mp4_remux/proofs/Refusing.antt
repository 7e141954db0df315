-- Why a file that was made of another isn't written.
use Rattle.std.proofs.Common.{◌≡◌, ◌∙◌, ◌⊎◌, inl, inr, ℕ, zero, suc, ◌≤◌, Bool, List, [], ◌∷◌, length}
use Rattle.std.proofs.Common.{Option, None, Some, IfSome, Result, Ok, Err, IfErr, refl, sym, ap, subst, option_map}
use Rattle.std.specs.Prelude.{slice_get}
use Rattle.mp4_boxes.specs.declared.trak.TrakBox.{TrakBox}
use Rattle.mp4_codec.specs.Cause.{Cause, cause_of}
use Rattle.mp4_codec.specs.Cursor.{here}
use Rattle.mp4_codec.specs.declared.error.Error.{Error}
use Rattle.mp4_codec.specs.declared.error.Error.TheVariants.{OutOfMemory}
use Rattle.mp4_samples.specs.declared.sample.Place.{Place}
use Rattle.mp4_media.specs.declared.movie.Movie.{Movie}
use Rattle.mp4_media.specs.FileBoxes.{OpenedFile, opened_movie}
use Rattle.mp4_media.specs.FileGrammar.{IsFaultyFile, IsFile}
use Rattle.mp4_media.specs.MovieTracks.{AreTracks}
use Rattle.mp4_media.specs.Opening.{IsOpeningOf}
use Rattle.mp4_media.specs.Reading.{located_in, sample_count_in}
use Rattle.mp4_source.specs.Answers.{IsLength}
use Rattle.mp4_source.specs.declared.file_error.FileError.{FileError}
use Rattle.mp4_source.specs.declared.file_error.FileError.TheVariants.{Mp4 as of_mp4, Io as file_refused}
use Rattle.mp4_remux.specs.declared.error.RemuxError.{RemuxError}
use Rattle.mp4_remux.specs.declared.error.RemuxError.TheVariants.{Mp4, Read, Write, Twice, SaysPlaces}
use Rattle.mp4_remux.specs.declared.error.RemuxError.TheVariants.{TooManySamples, OtherTracks, Differs}
use Rattle.mp4_remux.specs.declared.error.RemuxError.TheVariants.{SaysOfSamples, StartsElsewhere, SameIds}
use Rattle.mp4_remux.specs.declared.layout.Layout.{Layout}
use Rattle.mp4_remux.specs.declared.made.Made.{Made}
use Rattle.mp4_remux.specs.declared.piece.Piece.{Piece}
use Rattle.mp4_remux.specs.Errors.{CopyFails, of_file}
use Rattle.mp4_remux.specs.Headers.{DurationsOf}
use Rattle.mp4_remux.specs.Named.{OpensTo}
use Rattle.mp4_remux.specs.Reads.{count_of}
use Rattle.mp4_remux.specs.Refused.{IsOtherSample, IsUnreadable, IsUnreadOf, IsWhyOther, KeepsMovie, KeepsSamples}
use Rattle.mp4_remux.specs.Refused.{IsWhyClosed, IsWhyMade, SaysWhy}
use Rattle.mp4_remux.specs.Same.{IsMovedSample, IsSameAt, IsSamePlace}
use Rattle.mp4_remux.specs.Splice.{Follow, spliced}
use Rattle.mp4_remux.proofs.Counting.{id_at}
use Rattle.mp4_remux.proofs.MovedParts.{moved_part}
use Rattle.mp4_remux.proofs.Pieces.{counted}
use Rattle.mp4_remux.proofs.Sameness.{counted_there, placed_there, same_place}

-- a sample that is moved is the same, whatever the bytes of the file are
pub moved_place : (source_len len : ℕ) (made : List ℕ) (pieces : List Piece)
    → Follow source_len (length made) 0 pieces len → (p q : Place) → IsMovedSample pieces source_len len p q
    → IsSamePlace source_len made pieces p q
moved_place source_len len made pieces f p q m =
    same_place source_len len made pieces f p q m.size m.start_time m.duration m.rendering_offset m.is_sync
    (moved_part source_len len made pieces q.offset p.offset p.size f m.bytes)

-- A REFUSAL SAYS WHAT FOLLOWS

pub says_why_too : (Unread IsUnread : Error → Type 0) (Others AreOther : Type 0) (Other IsOther : ℕ → ℕ → Type 0)
    → ((e : Error) → Unread e → IsUnread e) → (Others → AreOther) → ((t k : ℕ) → Other t k → IsOther t k)
    → (e : RemuxError) → SaysWhy Unread Others Other e → SaysWhy IsUnread AreOther IsOther e
says_why_too Unread IsUnread Others AreOther Other IsOther unread others other (Mp4 e) why = unread e why
says_why_too Unread IsUnread Others AreOther Other IsOther unread others other (Read e) why = tt
says_why_too Unread IsUnread Others AreOther Other IsOther unread others other (Write e) why = tt
says_why_too Unread IsUnread Others AreOther Other IsOther unread others other (Twice name) why = tt
says_why_too Unread IsUnread Others AreOther Other IsOther unread others other (SaysPlaces name place) why = tt
says_why_too Unread IsUnread Others AreOther Other IsOther unread others other (TooManySamples track) why = tt
says_why_too Unread IsUnread Others AreOther Other IsOther unread others other (SaysOfSamples name place) why = tt
says_why_too Unread IsUnread Others AreOther Other IsOther unread others other (StartsElsewhere track number) why = tt
says_why_too Unread IsUnread Others AreOther Other IsOther unread others other SameIds why = tt
says_why_too Unread IsUnread Others AreOther Other IsOther unread others other OtherTracks why = others why
says_why_too Unread IsUnread Others AreOther Other IsOther unread others other (Differs track number) why =
    other track number why

-- ONE OF SEVERAL TRACKS

alone : (t id n : ℕ) → slice_get (t ∷ []) n ≡ Some id → t ≡ id
alone t id zero e = cc
alone t id (suc n) e = absurd cc

module _ (t i : ℕ) (ids : List ℕ) (there : slice_get ids i ≡ Some t) where
  pub among : (id n : ℕ) → slice_get (t ∷ []) n ≡ Some id → slice_get ids i ≡ Some id
  among id n e = there ∙ ap (λ m. Some m) (alone t id n e)

  unreadable_among : (movie : OpenedFile) (c : Cause) → IsUnreadable movie (t ∷ []) c → IsUnreadable movie ids c
  unreadable_among movie c u =
      record { id = u.id; number = i; is = among u.id u.number u.is; refused = u.refused }

  unread_among : (opened rewritten : OpenedFile) (e : Error) → IsUnreadOf (t ∷ []) opened rewritten e
      → IsUnreadOf ids opened rewritten e
  unread_among opened rewritten e (inl u) = inl (unreadable_among opened (cause_of e) u)
  unread_among opened rewritten e (inr u) = inr (unreadable_among rewritten (cause_of e) u)

  -- why one track isn't as before is why several aren't
  pub other_among : (pieces : List Piece) (source_len len : ℕ) (opened rewritten : OpenedFile)
      (Others AreOther : Type 0) → (Others → AreOther) → (e : RemuxError)
      → IsWhyOther Others (t ∷ []) pieces source_len len opened rewritten e
      → IsWhyOther AreOther ids pieces source_len len opened rewritten e
  other_among pieces source_len len opened rewritten Others AreOther others e why =
      says_why_too (IsUnreadOf (t ∷ []) opened rewritten) (IsUnreadOf ids opened rewritten) Others AreOther
      (IsOtherSample (t ∷ []) pieces source_len len opened rewritten)
      (IsOtherSample ids pieces source_len len opened rewritten) (unread_among opened rewritten) others
      (λ id k o. record {
        number = i;
        is = among id o.number o.is;
        before = o.before;
        after = o.after;
        had = o.had;
        has = o.has;
        differ = o.differ;
      }) e why

-- the same of a track alone
pub other_too : (id : ℕ) (pieces : List Piece) (source_len len : ℕ) (opened rewritten : OpenedFile)
    (Others AreOther : Type 0) → (Others → AreOther) → (e : RemuxError)
    → IsWhyOther Others (id ∷ []) pieces source_len len opened rewritten e
    → IsWhyOther AreOther (id ∷ []) pieces source_len len opened rewritten e
other_too id pieces source_len len opened rewritten Others AreOther others e why =
    other_among id 0 (id ∷ []) refl pieces source_len len opened rewritten Others AreOther others e why

-- A TRACK OF TWO MOVIES

module _ (b a : Movie) (were : AreTracks b.moov b.moofs b.moof_places b.tracks)
    (are : AreTracks a.moov a.moofs a.moof_places a.tracks) (id : ℕ)
  where
    abbrev pub IsUnread : Error → Type 0
    IsUnread e = IsUnreadOf (id ∷ []) (opened_movie b) (opened_movie a) e

    -- how many samples it has isn't said
    pub uncounted_before : (e : Error) → sample_count_in b.tracks id ≡ Err (cause_of e) → IsUnread e
    uncounted_before e is =
        inl (record { id = id; number = 0; is = refl; refused = inl (counted_there b were id ∙ is) })

    pub uncounted_after : (e : Error) → sample_count_in a.tracks id ≡ Err (cause_of e) → IsUnread e
    uncounted_after e is =
        inr (record { id = id; number = 0; is = refl; refused = inl (counted_there a are id ∙ is) })

    -- nor where one of them is
    pub unplaced_before : (k : ℕ) (e : Error) → 1 ≤ k → located_in b.tracks id k ≡ Err (cause_of e) → IsUnread e
    unplaced_before k e some is =
        inl (record { id = id; number = 0; is = refl; refused = inr (k, (some, placed_there b were id k ∙ is)) })

    pub unplaced_after : (k : ℕ) (e : Error) → 1 ≤ k → located_in a.tracks id k ≡ Err (cause_of e) → IsUnread e
    unplaced_after k e some is =
        inr (record { id = id; number = 0; is = refl; refused = inr (k, (some, placed_there a are id k ∙ is)) })

    -- the two movies have other samples at a number
    pub placed_otherwise : (pieces : List Piece) (source_len len k : ℕ) (p q : Option Place)
        → located_in b.tracks id k ≡ Ok p → located_in a.tracks id k ≡ Ok q
        → (IsSameAt pieces source_len len p q → ⊥)
        → IsOtherSample (id ∷ []) pieces source_len len (opened_movie b) (opened_movie a) id k
    placed_otherwise pieces source_len len k p q was is differ = record {
      number = 0;
      is = refl;
      before = p;
      after = q;
      had = placed_there b were id k ∙ was;
      has = placed_there a are id k ∙ is;
      differ = differ;
    }

    -- they don't have as many
    pub counted_apart : (m n : ℕ) → sample_count_in b.tracks id ≡ Ok m → sample_count_in a.tracks id ≡ Ok n
        → (n ≡ m → ⊥) → count_of (opened_movie a) id ≡ count_of (opened_movie b) id → ⊥
    counted_apart m n was is differ same =
        let all = sym is ∙ sym (counted_there a are id) ∙ same ∙ counted_there b were id ∙ was in
        differ (ok_same n m all)
      where
        ok_same : (n m : ℕ) → ◌≡◌ {A = Result ℕ Cause} (Ok n) (Ok m) → n ≡ m
        ok_same n m e = cc

-- ALL TRACKS

-- a movie that keeps all keeps what one of its tracks has
pub keeps_track_too : (what : Made) (opened rewritten : OpenedFile) (ids : List ℕ) (t : TrakBox) (i : ℕ)
    → slice_get rewritten.moov.traks i ≡ Some t → KeepsMovie what opened rewritten ids
    → KeepsSamples what opened rewritten t
keeps_track_too what opened rewritten ids t i there keeps = (
  keeps.counted t.tkhd.track_id i
      (subst (λ xs. slice_get xs i ≡ Some t.tkhd.track_id) keeps.tracks (id_at rewritten.moov.traks i t there)),
  λ is. (subst (λ m. DurationsOf m rewritten) is keeps.durations).media t i there,
)

-- THE FILE THAT WAS MADE

-- a file that isn't opened
pub closed : {X : Type 0} (known : Option (List ℕ)) (can_refuse : Bool) (view : X → OpenedFile) (len : ℕ)
    (e : FileError) → IfSome known (λ xs. IsOpeningOf can_refuse view len (here xs 0) (Err e))
    → IsWhyClosed len known (of_file e)
closed None can_refuse view len (of_mp4 e) opening = inr tt
closed (Some xs) can_refuse view len (of_mp4 e) opening = opening.fault
closed known can_refuse view len (file_refused e) opening = tt

-- where memory ran out
pub out_of_memory : (known : Option (List ℕ)) (l : Layout) (what : Made) (ids : List ℕ) (opened : OpenedFile)
    → IfSome known (λ xs. IsWhyMade what ids xs l.made.items l.pieces.items opened (Mp4 OutOfMemory))
out_of_memory None l what ids opened = tt
out_of_memory (Some xs) l what ids opened = inl refl

-- a file that isn't copied
pub not_copied : (known : Option (List ℕ)) (l : Layout) (what : Made) (ids : List ℕ) (opened : OpenedFile)
    (Refuses : Type 0) (can_refuse : Bool) (e : RemuxError) → CopyFails Refuses can_refuse e
    → IfSome known (λ xs. IsWhyMade what ids xs l.made.items l.pieces.items opened e)
not_copied None l what ids opened Refuses can_refuse e fails = tt
not_copied (Some xs) l what ids opened Refuses can_refuse e fails = by e fails
  where
    by : (e : RemuxError) → CopyFails Refuses can_refuse e
        → IsWhyMade what ids xs l.made.items l.pieces.items opened e
    by (Mp4 e) fails = inl fails
    by (Read e) fails = tt
    by (Write e) fails = tt
    by (Twice name) fails = tt
    by (SaysPlaces name place) fails = tt
    by (TooManySamples track) fails = tt
    by (SaysOfSamples name place) fails = tt
    by (StartsElsewhere track number) fails = tt
    by SameIds fails = tt
    by OtherTracks fails = absurd fails
    by (Differs track number) fails = absurd fails

-- what is answered where all bytes are copied, or aren't
pub copied_or_not : {X : Type 0} (known : Option (List ℕ)) (l : Layout) (what : Made) (ids : List ℕ)
    (opened : OpenedFile) (Refuses : Type 0) (can_refuse : Bool) (result : Result X RemuxError)
    → IfErr result (CopyFails Refuses can_refuse)
    → IfErr result (λ e. IfSome known (λ xs. IsWhyMade what ids xs l.made.items l.pieces.items opened e))
copied_or_not known l what ids opened Refuses can_refuse (Ok x) fails = tt
copied_or_not known l what ids opened Refuses can_refuse (Err e) fails =
    not_copied known l what ids opened Refuses can_refuse e fails

module _ (what : Made) (ids xs : List ℕ) (l : Layout) (opened : OpenedFile) (measured : l.source_len ≡ length xs)
  where
    abbrev made_file : List ℕ
    made_file = spliced xs l.made.items l.pieces.items

    abbrev IsUnwritten : Error → Type 0
    IsUnwritten e = (e ≡ OutOfMemory) ⊎ (IsFaultyFile (length made_file) (here made_file 0) (cause_of e)
        ⊎ OpensTo (λ rewritten. IsUnreadOf ids opened rewritten e) made_file)

    abbrev HasOtherTracks : Type 0
    HasOtherTracks = OpensTo (λ rewritten. KeepsMovie what opened rewritten ids → ⊥) made_file

    abbrev HasOtherSample : ℕ → ℕ → Type 0
    HasOtherSample id k = OpensTo (λ rewritten.
        IsOtherSample ids l.pieces.items (length xs) (length made_file) opened rewritten id k) made_file

    abbrev IsWhy : RemuxError → Type 0
    IsWhy e = IsWhyMade what ids xs l.made.items l.pieces.items opened e

    -- it isn't opened
    of_closed : (e : RemuxError) → IsWhyClosed (length made_file) (Some made_file) e → IsWhy e
    of_closed e why =
        says_why_too
        (λ e. (e ≡ OutOfMemory) ⊎ IsFaultyFile (length made_file) (here made_file 0) (cause_of e)) IsUnwritten
        ⊥ HasOtherTracks (λ id k. ⊥) HasOtherSample by (λ no. absurd no) (λ id k no. absurd no) e why
      where
        by : (e : Error)
            → (e ≡ OutOfMemory) ⊎ IsFaultyFile (length made_file) (here made_file 0) (cause_of e) → IsUnwritten e
        by e (inl none) = inl none
        by e (inr fault) = inr (inl fault)

    -- it opens to a movie that isn't the other
    of_movie : (rewritten : OpenedFile) → IsFile (length made_file) (here made_file 0) rewritten → (e : RemuxError)
        → IsWhyOther (KeepsMovie what opened rewritten ids → ⊥) ids l.pieces.items (length xs) (length made_file)
        opened rewritten e → IsWhy e
    of_movie rewritten file e why =
        says_why_too (IsUnreadOf ids opened rewritten) IsUnwritten (KeepsMovie what opened rewritten ids → ⊥)
        HasOtherTracks
        (IsOtherSample ids l.pieces.items (length xs) (length made_file) opened rewritten) HasOtherSample
        (λ e unread. inr (inr (rewritten, (file, unread)))) (λ other. (rewritten, (file, other)))
        (λ id k other. (rewritten, (file, other))) e why

-- why a file that was made isn't opened is why it isn't written
pub not_opened : (known known_after : Option (List ℕ)) (l : Layout) (len : ℕ) (what : Made) (ids : List ℕ)
    (opened : OpenedFile) → IsLength known l.source_len
    → known_after ≡ option_map (λ xs. spliced xs l.made.items l.pieces.items) known → len ≡ l.len
    → (e : RemuxError) → IsWhyClosed len known_after e
    → IfSome known (λ xs. IsWhyMade what ids xs l.made.items l.pieces.items opened e)
not_opened None known_after l len what ids opened measured is whole e why = tt
not_opened (Some xs) known_after l len what ids opened measured is whole e why =
    let ys = spliced xs l.made.items l.pieces.items in
    let long : len ≡ length ys =
    whole ∙ counted (Some xs) l.made.items l.pieces.items l.source_len l.len measured l.follow in
    of_closed what ids xs l opened measured e
    (subst (λ n. IsWhyClosed n (Some ys) e) long (subst (λ (k : Option (List ℕ)). IsWhyClosed len k e) is why))

-- why it isn't the other is why it isn't written
pub not_the_other : (known known_after : Option (List ℕ)) (l : Layout) (len : ℕ) (what : Made) (ids : List ℕ)
    (opened rewritten : OpenedFile) → IsLength known l.source_len
    → known_after ≡ option_map (λ xs. spliced xs l.made.items l.pieces.items) known → len ≡ l.len
    → IfSome known_after (λ ys. IsFile len (here ys 0) rewritten) → (e : RemuxError)
    → IsWhyOther (KeepsMovie what opened rewritten ids → ⊥) ids l.pieces.items l.source_len l.len opened rewritten e
    → IfSome known (λ xs. IsWhyMade what ids xs l.made.items l.pieces.items opened e)
not_the_other None known_after l len what ids opened rewritten measured is whole file e why = tt
not_the_other (Some xs) known_after l len what ids opened rewritten measured is whole file e why =
    let ys = spliced xs l.made.items l.pieces.items in
    let all : l.len ≡ length ys =
    counted (Some xs) l.made.items l.pieces.items l.source_len l.len measured l.follow in
    let there = subst (λ (k : Option (List ℕ)). IfSome k (λ zs. IsFile len (here zs 0) rewritten)) is file in
    let W : ℕ → ℕ → Type 0 = λ m n.
    IsWhyOther (KeepsMovie what opened rewritten ids → ⊥) ids l.pieces.items m n opened rewritten e in
    of_movie what ids xs l opened measured rewritten
    (subst (λ n. IsFile n (here ys 0) rewritten) (whole ∙ all) there) e
    (subst (λ n. W (length xs) n) all (subst (λ m. W m l.len) measured why))
