-- Why no movie box is put in front.
use Rattle.std.proofs.Common.{◌≡◌, ◌∙◌, ◌⊎◌, inl, inr, ℕ, ◌-◌, ◌*◌, ◌^◌, ◌<◌, ◌≤◌, Bool, true, false, nat_lt}
use Rattle.std.proofs.Common.{drop, List, length, Option, None, Some, IfSome, Result, Ok, Err, IfErr}
use Rattle.std.proofs.Common.{refl, sym, ap, subst, arith}
use Rattle.std.proofs.lemmas.Bool.{ltb-true, ltb-false}
use Rattle.std.proofs.lemmas.List.{length-take}
use Rattle.std.specs.Prelude.{slice_get}
use Rattle.mp4_codec.specs.Cause.{cause_of, end_of_data, invalid_data}
use Rattle.mp4_codec.specs.Cursor.{here}
use Rattle.mp4_codec.specs.declared.box_type.BoxType.{BoxType}
use Rattle.mp4_codec.specs.declared.box_type.BoxType.TheVariants.{FtypBox as ftyp, MoovBox as moov}
use Rattle.mp4_codec.specs.declared.error.Error.{Error}
use Rattle.mp4_codec.specs.declared.error.Error.TheVariants.{OutOfMemory, TooLarge}
use Rattle.mp4_codec.specs.declared.error.Limit.TheVariants.{BoxSize}
use Rattle.mp4_media.specs.FileBoxes.{OpenedFile}
use Rattle.mp4_media.specs.FileGrammar.{IsFile, between}
use Rattle.mp4_source.specs.Answers.{IsLength}
use Rattle.mp4_remux.specs.Caused.{CausedBy, CausedByMemory}
use Rattle.mp4_remux.specs.Errors.{CopyFails, IsNoFault}
use Rattle.mp4_remux.specs.Front.{AreApart, AreBoxes, HasNone, IsBoxOf, IsOnly, IsTopBox}
use Rattle.mp4_remux.specs.Moved.{IsUpToTwice}
use Rattle.mp4_remux.specs.Named.{IsSingle}
use Rattle.mp4_remux.specs.PlannedFront.{HasLargeMovie, IsInFront, IsNotWhole, IsTooLarge, IsWhyNotInFront}
use Rattle.mp4_remux.specs.PlannedFront.{IsWhyNotPlanned}
use Rattle.mp4_remux.specs.Refused.{IsWhyMade}
use Rattle.mp4_remux.specs.Remuxed.{IsOnlyFile, ids_of}
use Rattle.mp4_remux.specs.Splice.{Follow}
use Rattle.mp4_remux.specs.declared.error.RemuxError.{RemuxError}
use Rattle.mp4_remux.specs.declared.error.RemuxError.TheVariants.{Mp4, Read, Write, Twice, SaysPlaces}
use Rattle.mp4_remux.specs.declared.error.RemuxError.TheVariants.{TooManySamples, OtherTracks, Differs}
use Rattle.mp4_remux.specs.declared.error.RemuxError.TheVariants.{SaysOfSamples, StartsElsewhere, SameIds}
use Rattle.mp4_remux.specs.declared.made.Made.TheVariants.{Offsets}
use Rattle.mp4_remux.specs.declared.piece.Piece.{Piece}
use Rattle.mp4_remux.specs.declared.top_level.TopBox.{TopBox}
use Rattle.mp4_remux.proofs.Causes.{IsCut, are_apart, caused_as, for_memory}
use Rattle.mp4_remux.proofs.Naming.{each_is_there}
use Rattle.mp4_remux.proofs.OpenedBoxes.{AreOpened, HasWhole, opened_boxes}
use Rattle.mp4_remux.proofs.TopBoxes.{same_boxes}

-- WHY NONE IS PLANNED

-- a box of the file that isn't whole
pub header_why : (known : Option (List ℕ)) (boxes : List TopBox) (name : BoxType) (b : TopBox) (e : RemuxError)
    → IsSingle name → IsOnly boxes name b → IfSome known (λ xs. AreBoxes xs 0 boxes)
    → IfSome known (λ xs. IsTopBox xs b → b.name ≡ name → CausedBy (IsCut xs name b) ⊥ e)
    → IfSome known (λ xs. IsWhyNotPlanned xs boxes e)
header_why None boxes name b e single only are cause = tt
header_why (Some xs) boxes name b e single only are cause =
    caused_as (IsCut xs name b) (λ error. (error ≡ OutOfMemory) ⊎ (IsNotWhole xs boxes error ⊎ IsTooLarge boxes error))
    ⊥ (HasNone boxes ftyp ⊎ (HasNone boxes moov ⊎ (2 ^ 63 ≤ length xs))) also (λ no. absurd no) e
    (cause (each_is_there xs 0 boxes are b only.i only.there) only.has_name)
  where
    also : (error : Error) → IsCut xs name b error
        → (error ≡ OutOfMemory) ⊎ (IsNotWhole xs boxes error ⊎ IsTooLarge boxes error)
    also error (inl none) = inl none
    also error (inr cut) = inr (inl (cut.0, (name, (b, (single, (only, cut.1))))))

-- memory ran out
pub memory_why : (known : Option (List ℕ)) (boxes : List TopBox) (e : RemuxError)
    → IfSome known (λ xs. AreBoxes xs 0 boxes) → IfSome known (λ xs. AreBoxes xs 0 boxes → CausedByMemory e)
    → IfSome known (λ xs. IsWhyNotPlanned xs boxes e)
memory_why None boxes e are cause = tt
memory_why (Some xs) boxes e are cause =
    for_memory (λ error. (error ≡ OutOfMemory) ⊎ (IsNotWhole xs boxes error ⊎ IsTooLarge boxes error))
    (HasNone boxes ftyp ⊎ (HasNone boxes moov ⊎ (2 ^ 63 ≤ length xs))) (inl refl) e (cause are)

pub box_why : (known : Option (List ℕ)) (boxes : List TopBox) (name : BoxType) (b : TopBox) (e : RemuxError)
    → IsOnly boxes name b → IfSome known (λ xs. AreBoxes xs 0 boxes)
    → IfSome known (λ xs. IsTopBox xs b → CausedByMemory e) → IfSome known (λ xs. IsWhyNotPlanned xs boxes e)
box_why None boxes name b e only are cause = tt
box_why (Some xs) boxes name b e only are cause =
    memory_why (Some xs) boxes e are (λ also. cause (each_is_there xs 0 boxes also b only.i only.there))

-- the file has as many bytes as its movie box says, and that is apart from its file type
pub no_layout_why : (known : Option (List ℕ)) (len : ℕ) (boxes : List TopBox) (one other : TopBox)
    (bytes made : List ℕ) (ps : List Piece) → IsLength known len → IsOnly boxes ftyp one → IsOnly boxes moov other
    → IfSome known (λ xs. AreBoxes xs 0 boxes) → IfSome known (λ xs. bytes ≡ between xs other.place other.end)
    → IsUpToTwice bytes made
    → (AreApart len one other → len < 2 ^ 63 → length made ≤ 2 * (other.end - other.place)
    → (end : ℕ) × ((end < 2 ^ 64) × Follow len (length made) 0 ps end))
    → ((end : ℕ) → end < 2 ^ 64 → Follow len (length made) 0 ps end → ⊥)
    → IfSome known (λ xs. IsWhyNotPlanned xs boxes OtherTracks)
no_layout_why None len boxes one other bytes made ps measured first second are is long follow none = tt
no_layout_why (Some xs) len boxes one other bytes made ps measured first second are is long follow none =
    inr (inr (by (nat_lt len (2 ^ 63)) refl))
  where
    few : length bytes ≤ other.end - other.place
    few = omega (arith, ap length is, length-take (other.end - other.place) (drop other.place xs))

    differ : one.name ≡ other.name → ⊥
    differ same = let no : ftyp ≡ moov = sym first.has_name ∙ same ∙ second.has_name in absurd cc

    by : (small : Bool) → nat_lt len (2 ^ 63) ≡ small → 2 ^ 63 ≤ length xs
    by true is =
        let apart = are_apart xs len boxes one other first.i second.i measured are first.there second.there differ in
        let ends = follow apart (ltb-true len (2 ^ 63) is) (omega (arith, few, long.1)) in
        absurd (none ends.0 ends.1.0 ends.1.1)
    by false is = omega (arith, ltb-false len (2 ^ 63) is, measured)

-- what is said of the boxes of a file is said of whatever boxes are its
pub whatever_boxes : (known : Option (List ℕ)) (boxes : List TopBox) (e : RemuxError)
    → IfSome known (λ xs. AreBoxes xs 0 boxes) → IfSome known (λ xs. IsWhyNotPlanned xs boxes e)
    → IfSome known (λ xs. (others : List TopBox) → AreBoxes xs 0 others → IsWhyNotPlanned xs others e)
whatever_boxes None boxes e are why = tt
whatever_boxes (Some xs) boxes e are why = λ others also.
    subst (λ (bs : List TopBox). IsWhyNotPlanned xs bs e) (same_boxes xs 0 boxes others are also) why

-- there is no file type, or no movie box
pub neither_why : (known : Option (List ℕ)) (boxes : List TopBox) → HasNone boxes ftyp ⊎ HasNone boxes moov
    → IfSome known (λ xs. IsWhyNotPlanned xs boxes OtherTracks)
neither_why None boxes none = tt
neither_why (Some xs) boxes (inl no_type) = inl no_type
neither_why (Some xs) boxes (inr no_movie) = inr (inl no_movie)

-- WHY A FILE THAT OPENS ISN'T WRITTEN

-- the only box of a type is the one that is whole
pub the_whole : (xs : List ℕ) (boxes : List TopBox) (name : BoxType) (b : TopBox) → HasWhole xs boxes name
    → IsOnly boxes name b → IsBoxOf xs name b
the_whole xs boxes name b has only =
    let same : has.i ≡ only.i = only.only has.b has.i has.there has.has_name in
    let found : slice_get boxes only.i ≡ Some has.b =
    subst (λ n. slice_get boxes n ≡ Some has.b) same has.there in
    let box : Some has.b ≡ Some b = sym found ∙ only.there in
    let is : has.b ≡ b = cc in subst (λ (c : TopBox). IsBoxOf xs name c) is has.whole

-- a file that opens has a file type and a movie box, which are whole
pub why_opened : (xs : List ℕ) (opened : OpenedFile) (e : RemuxError) → IsFile (length xs) (here xs 0) opened
    → ((boxes : List TopBox) → AreBoxes xs 0 boxes → IsWhyNotPlanned xs boxes e) → IsWhyNotInFront xs opened e
why_opened xs opened e file why =
    inl (caused_as
    (λ error. (error ≡ OutOfMemory) ⊎ (IsNotWhole xs has.boxes error ⊎ IsTooLarge has.boxes error))
    (λ error. (error ≡ OutOfMemory) ⊎ ((error ≡ TooLarge BoxSize) × HasLargeMovie xs))
    (HasNone has.boxes ftyp ⊎ (HasNone has.boxes moov ⊎ (2 ^ 63 ≤ length xs))) (2 ^ 63 ≤ length xs) errors others e
    (why has.boxes has.are))
  where
    has : AreOpened xs
    has = opened_boxes xs opened file

    whole : (name : BoxType) (b : TopBox) → IsSingle name → IsOnly has.boxes name b → IsBoxOf xs name b
    whole name b (inl is) only =
        the_whole xs has.boxes name b (subst (λ (n : BoxType). HasWhole xs has.boxes n) (sym is) has.has_file_type) only
    whole name b (inr is) only =
        the_whole xs has.boxes name b (subst (λ (n : BoxType). HasWhole xs has.boxes n) (sym is) has.has_movie) only

    errors : (error : Error) → (error ≡ OutOfMemory) ⊎ (IsNotWhole xs has.boxes error ⊎ IsTooLarge has.boxes error)
        → (error ≡ OutOfMemory) ⊎ ((error ≡ TooLarge BoxSize) × HasLargeMovie xs)
    errors error (inl none) = inl none
    errors error (inr (inl cut)) = absurd (cut.1.1.1.1.1 (whole cut.1.0 cut.1.1.0 cut.1.1.1.0 cut.1.1.1.1.0))
    errors error (inr (inr large)) =
        inr (large.0, (large.1.0, (whole moov large.1.0 (inr refl) large.1.1.0, large.1.1.1)))

    others : HasNone has.boxes ftyp ⊎ (HasNone has.boxes moov ⊎ (2 ^ 63 ≤ length xs)) → 2 ^ 63 ≤ length xs
    others (inl none) =
        absurd (none has.has_file_type.b has.has_file_type.i has.has_file_type.there has.has_file_type.has_name)
    others (inr (inl none)) = absurd (none has.has_movie.b has.has_movie.i has.has_movie.there has.has_movie.has_name)
    others (inr (inr large)) = large

-- what is said of a file that opens, where its bytes are known
abbrev pub SaysWhyNot : Option (List ℕ) → RemuxError → Type 0
SaysWhyNot known e = IfSome known (λ xs. (opened : OpenedFile) → IsFile (length xs) (here xs 0) opened
    → IsWhyNotInFront xs opened e)

pub plan_why : (known : Option (List ℕ)) (e : RemuxError)
    → IfSome known (λ xs. (boxes : List TopBox) → AreBoxes xs 0 boxes → IsWhyNotPlanned xs boxes e)
    → SaysWhyNot known e
plan_why None e why = tt
plan_why (Some xs) e why = λ opened file. why_opened xs opened e file why

-- where it is a file, it is refused for memory or by the source alone, before its boxes are looked at
pub no_fault_memory : (known : Option (List ℕ)) (can_refuse : Bool) (e : RemuxError) → IsNoFault known can_refuse e
    → IfSome known (λ xs. (opened : OpenedFile) → IsFile (length xs) (here xs 0) opened → CausedByMemory e)
no_fault_memory None can_refuse e no_cause = tt
no_fault_memory (Some xs) can_refuse (Mp4 error) no_cause = λ opened file.
    both error (no_cause opened file end_of_data) (no_cause opened file invalid_data)
  where
    both : (error : Error) → (error ≡ OutOfMemory) ⊎ (end_of_data ≡ cause_of error)
        → (error ≡ OutOfMemory) ⊎ (invalid_data ≡ cause_of error) → error ≡ OutOfMemory
    both error (inl none) other = none
    both error (inr is) (inl none) = none
    both error (inr is) (inr isnt) = absurd cc
no_fault_memory (Some xs) can_refuse (Read error) no_cause = λ opened file. tt
no_fault_memory (Some xs) can_refuse (Write error) no_cause = λ opened file. tt
no_fault_memory (Some xs) can_refuse (Twice name) no_cause = λ opened file. tt
no_fault_memory (Some xs) can_refuse (SaysPlaces name place) no_cause = λ opened file. tt
no_fault_memory (Some xs) can_refuse (TooManySamples track) no_cause = λ opened file. tt
no_fault_memory (Some xs) can_refuse (SaysOfSamples name place) no_cause = λ opened file. tt
no_fault_memory (Some xs) can_refuse (StartsElsewhere track number) no_cause = λ opened file. tt
no_fault_memory (Some xs) can_refuse SameIds no_cause = λ opened file. tt
no_fault_memory (Some xs) can_refuse OtherTracks no_cause = λ opened file.
    absurd (no_cause opened file end_of_data)
no_fault_memory (Some xs) can_refuse (Differs track number) no_cause = λ opened file.
    absurd (no_cause opened file end_of_data)

pub no_fault_why : (known : Option (List ℕ)) (can_refuse : Bool) (e : RemuxError) → IsNoFault known can_refuse e
    → SaysWhyNot known e
no_fault_why known can_refuse e no_cause = by known (no_fault_memory known can_refuse e no_cause)
  where
    by : (known : Option (List ℕ)) → IfSome known (λ xs. (opened : OpenedFile) → IsFile (length xs) (here xs 0) opened
        → CausedByMemory e) → SaysWhyNot known e
    by None why = tt
    by (Some xs) why = λ opened file.
        inl (for_memory (λ error. (error ≡ OutOfMemory) ⊎ ((error ≡ TooLarge BoxSize) × HasLargeMovie xs))
        (2 ^ 63 ≤ length xs) (inl refl) e (why opened file))

-- a copy is refused for memory, by the source or by the sink
pub copy_caused : (Refuses : Type 0) (can_refuse : Bool) (e : RemuxError) → CopyFails Refuses can_refuse e
    → CausedByMemory e
copy_caused Refuses can_refuse (Mp4 error) fails = fails
copy_caused Refuses can_refuse (Read error) fails = tt
copy_caused Refuses can_refuse (Write error) fails = tt
copy_caused Refuses can_refuse (Twice name) fails = tt
copy_caused Refuses can_refuse (SaysPlaces name place) fails = tt
copy_caused Refuses can_refuse (TooManySamples track) fails = tt
copy_caused Refuses can_refuse (SaysOfSamples name place) fails = tt
copy_caused Refuses can_refuse (StartsElsewhere track number) fails = tt
copy_caused Refuses can_refuse SameIds fails = tt
copy_caused Refuses can_refuse OtherTracks fails = fails
copy_caused Refuses can_refuse (Differs track number) fails = fails

pub by_memory_why : (known : Option (List ℕ)) (e : RemuxError) → CausedByMemory e → SaysWhyNot known e
by_memory_why None e caused = tt
by_memory_why (Some xs) e caused = λ opened file.
    inl (for_memory (λ error. (error ≡ OutOfMemory) ⊎ ((error ≡ TooLarge BoxSize) × HasLargeMovie xs))
    (2 ^ 63 ≤ length xs) (inl refl) e caused)

pub copy_why : {X : Type 0} (known : Option (List ℕ)) (Refuses : Type 0) (can_refuse : Bool)
    (result : Result X RemuxError) → IfErr result (CopyFails Refuses can_refuse)
    → IfErr result (λ e. SaysWhyNot known e)
copy_why known Refuses can_refuse (Ok x) fails = tt
copy_why known Refuses can_refuse (Err e) fails =
    by_memory_why known e (copy_caused Refuses can_refuse e fails)

-- why the file that would be written isn't
pub made_why : {X : Type 0} (known : Option (List ℕ)) (movie : OpenedFile) (ids made : List ℕ) (ps : List Piece)
    (result : Result X RemuxError) → IfSome known (λ xs. IsInFront xs made ps) → ids ≡ ids_of movie.moov
    → IsOnlyFile known movie
    → IfErr result (λ e. IfSome known (λ xs. IsWhyMade Offsets ids xs made ps movie e))
    → IfErr result (λ e. SaysWhyNot known e)
made_why known movie ids made ps (Ok x) front is only why = tt
made_why None movie ids made ps (Err e) front is only why = tt
made_why (Some xs) movie ids made ps (Err e) front is only why = λ opened file.
    subst (λ (o : OpenedFile). IsWhyNotInFront xs o e) (only opened file)
    (inr (made, (ps, (front, subst (λ (list : List ℕ). IsWhyMade Offsets list xs made ps movie e) is why))))
