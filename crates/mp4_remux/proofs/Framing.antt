-- The frame of a file, and why it has none.
use Rattle.std.proofs.Common.{◌≡◌, ◌⊎◌, inl, inr, ℕ, Bool, List, length, Option, None, Some, IfSome}
use Rattle.std.proofs.Common.{refl, sym, subst}
use Rattle.std.specs.List.{filter}
use Rattle.mp4_codec.specs.Cursor.{here}
use Rattle.mp4_codec.specs.declared.box_type.BoxType.{BoxType}
use Rattle.mp4_codec.specs.declared.box_type.BoxType.TheVariants.{FtypBox as ftyp, MoovBox as moov}
use Rattle.mp4_codec.specs.declared.error.Error.{Error}
use Rattle.mp4_codec.specs.declared.error.Error.TheVariants.{OutOfMemory}
use Rattle.mp4_media.specs.FileBoxes.{OpenedFile}
use Rattle.mp4_media.specs.FileGrammar.{IsFile, between}
use Rattle.mp4_remux.specs.Caused.{CausedBy, CausedByMemory, CausedByNone}
use Rattle.mp4_remux.specs.Frames.{IsFrame, IsWhyNoFrame, stays_beside}
use Rattle.mp4_remux.specs.Front.{AreBoxes, HasNone, IsBoxOf, IsOnly, IsTopBox}
use Rattle.mp4_remux.specs.Gathered.{IsFrameOf}
use Rattle.mp4_remux.specs.Named.{IsSingle}
use Rattle.mp4_remux.specs.PlannedFront.{IsNotWhole}
use Rattle.mp4_remux.specs.declared.error.RemuxError.{RemuxError}
use Rattle.mp4_remux.specs.declared.error.RemuxError.TheVariants.{OtherTracks}
use Rattle.mp4_remux.specs.declared.frame.Frame.{Frame}
use Rattle.mp4_remux.specs.declared.top_level.TopBox.{TopBox}
use Rattle.mp4_remux.proofs.Causes.{IsCut, caused_as, for_memory}
use Rattle.mp4_remux.proofs.Naming.{each_is_there}
use Rattle.mp4_remux.proofs.NotInFront.{the_whole}
use Rattle.mp4_remux.proofs.OpenedBoxes.{AreOpened, HasWhole, opened_boxes}
use Rattle.mp4_remux.proofs.TopBoxes.{same_boxes}

-- THE FRAME

pub is_frame : (known : Option (List ℕ)) (gathered : Bool) (boxes : List TopBox) (f : Frame)
    → IsOnly boxes ftyp f.file_type → IsOnly boxes moov f.movie → IfSome known (λ xs. AreBoxes xs 0 boxes)
    → IfSome known (λ xs. IsBoxOf xs ftyp f.file_type) → IfSome known (λ xs. IsBoxOf xs moov f.movie)
    → IfSome known (λ xs. f.movie_bytes.items ≡ between xs f.movie.place f.movie.end)
    → f.others.items ≡ filter (λ (b : TopBox). stays_beside gathered b.name) boxes
    → IfSome known (λ xs. IsFrame xs gathered f)
is_frame None gathered boxes f first second are whole also is others = tt
is_frame (Some xs) gathered boxes f first second are whole also is others = record {
  boxes = boxes;
  are = are;
  has_file_type = record { only = first; whole = whole };
  has_movie = record { only = second; whole = also };
  movie_is = is;
  others = others;
}

-- it has the file type and the movie box of the file
pub frame_of : (known : Option (List ℕ)) (gathered : Bool) (f : Frame) → IfSome known (λ xs. IsFrame xs gathered f)
    → IfSome known (λ xs. IsFrameOf xs f.file_type f.movie f.movie_bytes.items)
frame_of None gathered f is = tt
frame_of (Some xs) gathered f is = record {
  has_file_type = is.has_file_type.whole;
  has_movie = is.has_movie.whole;
  movie_is = is.movie_is;
}

-- WHY THERE IS NONE

-- what is caused by nothing is caused by memory, if by anything
pub none_for_memory : (e : RemuxError) → CausedByNone e → CausedByMemory e
none_for_memory e caused =
    caused_as (λ error. ⊥) (λ error. error ≡ OutOfMemory) ⊥ ⊥ (λ error no. absurd no) (λ no. no) e caused

pub none_anyhow : (known : Option (List ℕ)) (boxes : List TopBox) (e : RemuxError) → CausedByNone e
    → IfSome known (λ xs. AreBoxes xs 0 boxes → CausedByMemory e)
none_anyhow None boxes e caused = tt
none_anyhow (Some xs) boxes e caused = λ are. none_for_memory e caused

-- a box that isn't whole
pub header_frame : (known : Option (List ℕ)) (boxes : List TopBox) (name : BoxType) (b : TopBox) (e : RemuxError)
    → IsSingle name → IsOnly boxes name b → IfSome known (λ xs. AreBoxes xs 0 boxes)
    → IfSome known (λ xs. IsTopBox xs b → b.name ≡ name → CausedBy (IsCut xs name b) ⊥ e)
    → IfSome known (λ xs. IsWhyNoFrame xs boxes e)
header_frame None boxes name b e single only are cause = tt
header_frame (Some xs) boxes name b e single only are cause =
    caused_as (IsCut xs name b) (λ error. (error ≡ OutOfMemory) ⊎ IsNotWhole xs boxes error) ⊥
    (HasNone boxes ftyp ⊎ HasNone boxes moov) also (λ no. absurd no) e
    (cause (each_is_there xs 0 boxes are b only.i only.there) only.has_name)
  where
    also : (error : Error) → IsCut xs name b error → (error ≡ OutOfMemory) ⊎ IsNotWhole xs boxes error
    also error (inl none) = inl none
    also error (inr cut) = inr (cut.0, (name, (b, (single, (only, cut.1)))))

-- memory ran out
pub memory_frame : (known : Option (List ℕ)) (boxes : List TopBox) (e : RemuxError)
    → IfSome known (λ xs. AreBoxes xs 0 boxes) → IfSome known (λ xs. AreBoxes xs 0 boxes → CausedByMemory e)
    → IfSome known (λ xs. IsWhyNoFrame xs boxes e)
memory_frame None boxes e are cause = tt
memory_frame (Some xs) boxes e are cause =
    for_memory (λ error. (error ≡ OutOfMemory) ⊎ IsNotWhole xs boxes error) (HasNone boxes ftyp ⊎ HasNone boxes moov)
    (inl refl) e (cause are)

pub box_frame : (known : Option (List ℕ)) (boxes : List TopBox) (name : BoxType) (b : TopBox) (e : RemuxError)
    → IsOnly boxes name b → IfSome known (λ xs. AreBoxes xs 0 boxes)
    → IfSome known (λ xs. IsTopBox xs b → CausedByMemory e) → IfSome known (λ xs. IsWhyNoFrame xs boxes e)
box_frame None boxes name b e only are cause = tt
box_frame (Some xs) boxes name b e only are cause =
    memory_frame (Some xs) boxes e are (λ also. cause (each_is_there xs 0 boxes also b only.i only.there))

-- what is said of the boxes of a file is said of whatever boxes are its
pub whatever_frame : (known : Option (List ℕ)) (boxes : List TopBox) (e : RemuxError)
    → IfSome known (λ xs. AreBoxes xs 0 boxes) → IfSome known (λ xs. IsWhyNoFrame xs boxes e)
    → IfSome known (λ xs. (others : List TopBox) → AreBoxes xs 0 others → IsWhyNoFrame xs others e)
whatever_frame None boxes e are why = tt
whatever_frame (Some xs) boxes e are why = λ others also.
    subst (λ (bs : List TopBox). IsWhyNoFrame xs bs e) (same_boxes xs 0 boxes others are also) why

-- there is no file type, or no movie box
pub neither_frame : (known : Option (List ℕ)) (boxes : List TopBox) → HasNone boxes ftyp ⊎ HasNone boxes moov
    → IfSome known (λ xs. IsWhyNoFrame xs boxes OtherTracks)
neither_frame None boxes none = tt
neither_frame (Some xs) boxes none = none

-- a file that opens has a frame, unless memory runs out
pub opened_frame : (known : Option (List ℕ)) (opened : OpenedFile) (e : RemuxError)
    → IfSome known (λ xs. IsFile (length xs) (here xs 0) opened)
    → IfSome known (λ xs. (boxes : List TopBox) → AreBoxes xs 0 boxes → IsWhyNoFrame xs boxes e)
    → IfSome known (λ xs. CausedByMemory e)
opened_frame None opened e file why = tt
opened_frame (Some xs) opened e file why =
    caused_as (λ error. (error ≡ OutOfMemory) ⊎ IsNotWhole xs has.boxes error) (λ error. error ≡ OutOfMemory)
    (HasNone has.boxes ftyp ⊎ HasNone has.boxes moov) ⊥ errors others e (why has.boxes has.are)
  where
    has : AreOpened xs
    has = opened_boxes xs opened file

    whole : (name : BoxType) (b : TopBox) → IsSingle name → IsOnly has.boxes name b → IsBoxOf xs name b
    whole name b (inl is) only =
        the_whole xs has.boxes name b (subst (λ (n : BoxType). HasWhole xs has.boxes n) (sym is) has.has_file_type) only
    whole name b (inr is) only =
        the_whole xs has.boxes name b (subst (λ (n : BoxType). HasWhole xs has.boxes n) (sym is) has.has_movie) only

    errors : (error : Error) → (error ≡ OutOfMemory) ⊎ IsNotWhole xs has.boxes error → error ≡ OutOfMemory
    errors error (inl none) = none
    errors error (inr cut) = absurd (cut.1.1.1.1.1 (whole cut.1.0 cut.1.1.0 cut.1.1.1.0 cut.1.1.1.1.0))

    others : HasNone has.boxes ftyp ⊎ HasNone has.boxes moov → ⊥
    others (inl none) =
        none has.has_file_type.b has.has_file_type.i has.has_file_type.there has.has_file_type.has_name
    others (inr none) = none has.has_movie.b has.has_movie.i has.has_movie.there has.has_movie.has_name
