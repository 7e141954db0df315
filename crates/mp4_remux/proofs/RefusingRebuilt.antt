-- Why a movie isn't written whose fragments are gathered, or some of whose tracks are chosen.
use Rattle.std.proofs.Common.{◌≡◌, ℕ, List, [], ◌∷◌, length, Bool, Option, None, Some, IfSome, Result, Ok, Err, IfErr}
use Rattle.std.proofs.Common.{inl, inr, subst}
use Rattle.std.specs.List.{filter}
use Rattle.std.specs.Prelude.{slice_get}
use Rattle.mp4_codec.specs.Cause.{invalid_data}
use Rattle.mp4_codec.specs.Cursor.{here}
use Rattle.mp4_source.specs.Answers.{IsLength}
use Rattle.mp4_media.specs.FileBoxes.{OpenedFile}
use Rattle.mp4_media.specs.FileGrammar.{IsFile}
use Rattle.mp4_remux.specs.declared.error.RemuxError.{RemuxError}
use Rattle.mp4_remux.specs.declared.error.RemuxError.TheVariants.{Mp4, Read, Write, Twice, SaysPlaces}
use Rattle.mp4_remux.specs.declared.error.RemuxError.TheVariants.{TooManySamples, OtherTracks, Differs}
use Rattle.mp4_remux.specs.declared.error.RemuxError.TheVariants.{SaysOfSamples, StartsElsewhere, SameIds}
use Rattle.mp4_remux.specs.declared.layout.Layout.{Layout}
use Rattle.mp4_remux.specs.declared.reference.Reference.{Reference}
use Rattle.mp4_remux.specs.declared.top_level.TopBox.{TopBox}
use Rattle.mp4_remux.specs.Errors.{IsCause, IsNoFault}
use Rattle.mp4_remux.specs.Gathered.{BeginsWith, IsFrameOf}
use Rattle.mp4_remux.specs.Headers.{made_of}
use Rattle.mp4_remux.specs.Refused.{IsWhyMade, SaysDiffers}
use Rattle.mp4_remux.specs.RefusedRebuilt.{IsCutSample, IsNotKept}
use Rattle.mp4_remux.specs.References.{AreLeftOut, leaves_some, references_in, stays}
use Rattle.mp4_remux.specs.Remuxed.{IsOnlyFile, ids_of}
use Rattle.mp4_remux.proofs.Rebuilding.{is_rebuilt}
use Rattle.mp4_remux.proofs.Refusing.{among}

-- a refusal says of a sample what follows
pub differs_too : (Is So : ℕ → ℕ → Type 0) → ((id k : ℕ) → Is id k → So id k) → (e : RemuxError) → SaysDiffers Is e
    → SaysDiffers So e
differs_too Is So f (Mp4 e) says = tt
differs_too Is So f (Read e) says = tt
differs_too Is So f (Write e) says = tt
differs_too Is So f (Twice name) says = tt
differs_too Is So f (SaysPlaces name place) says = tt
differs_too Is So f (TooManySamples track) says = tt
differs_too Is So f (SaysOfSamples name place) says = tt
differs_too Is So f (StartsElsewhere track number) says = tt
differs_too Is So f SameIds says = tt
differs_too Is So f OtherTracks says = tt
differs_too Is So f (Differs track number) says = f track number says

-- one that says it of none
pub none_differs : (So : ℕ → ℕ → Type 0) (e : RemuxError) → SaysDiffers (λ id k. ⊥) e → SaysDiffers So e
none_differs So e says = differs_too (λ id k. ⊥) So (λ id k no. absurd no) e says

-- a sample of one track is one of several
pub cut_among : (t i len : ℕ) (ids : List ℕ) (opened : OpenedFile) → slice_get ids i ≡ Some t → (e : RemuxError)
    → SaysDiffers (IsCutSample len (t ∷ []) opened) e → SaysDiffers (IsCutSample len ids opened) e
cut_among t i len ids opened there e says =
    differs_too (IsCutSample len (t ∷ []) opened) (IsCutSample len ids opened) (λ id k cut. record {
      number = i;
      is = among t i ids there id cut.number cut.is;
      place = cut.place;
      there = cut.there;
      cut = cut.cut;
    }) e says

-- a sample that is cut off isn't kept
pub cut_is_not_kept : (known : Option (List ℕ)) (len : ℕ) (opened : OpenedFile) (all ids : List ℕ) (e : RemuxError)
    → IsLength known len → SaysDiffers (IsCutSample len ids opened) e
    → IfSome known (λ xs. SaysDiffers (IsNotKept xs opened all ids) e)
cut_is_not_kept None len opened all ids e measured says = tt
cut_is_not_kept (Some xs) len opened all ids e measured says =
    differs_too (IsCutSample (length xs) ids opened) (IsNotKept xs opened all ids) (λ id k cut. inl cut) e
    (subst (λ n. SaysDiffers (IsCutSample n ids opened) e) measured says)

-- what no frame is read for
pub none_is_not_kept : (known : Option (List ℕ)) (opened : OpenedFile) (all ids : List ℕ) (e : RemuxError)
    → SaysDiffers (λ id k. ⊥) e → IfSome known (λ xs. SaysDiffers (IsNotKept xs opened all ids) e)
none_is_not_kept None opened all ids e says = tt
none_is_not_kept (Some xs) opened all ids e says = none_differs (IsNotKept xs opened all ids) e says

-- nor is one that is another in the file that was made
pub other_is_not_kept : (known : Option (List ℕ)) (l : Layout) (opened : OpenedFile) (all ids : List ℕ)
    (staying left_out : List Reference) (file_type movie : TopBox) (movie_bytes : List ℕ)
    → IfSome known (λ xs. IsFrameOf xs file_type movie movie_bytes)
    → BeginsWith (made_of opened) ids staying file_type movie_bytes l.made.items l.pieces.items
    → staying ≡ filter (stays (leaves_some all ids) ids) (references_in movie_bytes all)
    → AreLeftOut movie_bytes all ids left_out → (e : RemuxError)
    → IfSome known (λ xs. IsWhyMade (made_of opened) ids xs l.made.items l.pieces.items opened e)
    → IfSome known (λ xs. SaysDiffers (IsNotKept xs opened all ids) e)
other_is_not_kept None l opened all ids staying left_out file_type movie movie_bytes f b kept gone e why = tt
other_is_not_kept (Some xs) l opened all ids staying left_out file_type movie movie_bytes f b kept gone e why = by e why
  where
    by : (e : RemuxError) → IsWhyMade (made_of opened) ids xs l.made.items l.pieces.items opened e
        → SaysDiffers (IsNotKept xs opened all ids) e
    by (Mp4 e) why = tt
    by (Read e) why = tt
    by (Write e) why = tt
    by (Twice name) why = tt
    by (SaysPlaces name place) why = tt
    by (TooManySamples track) why = tt
    by (SaysOfSamples name place) why = tt
    by (StartsElsewhere track number) why = tt
    by SameIds why = tt
    by OtherTracks why = tt
    by (Differs track number) why = inr (record {
      made = l.made.items;
      pieces = l.pieces.items;
      left_out = left_out;
      rebuilt = is_rebuilt xs l opened all ids staying left_out file_type movie movie_bytes f b kept gone;
      other = why;
    })

-- THE FILE THAT OPENS

-- a file that opens isn't refused for a sample before it is opened
pub opened_anyhow : (known : Option (List ℕ)) (can_refuse : Bool) (Of : List ℕ → OpenedFile → ℕ → ℕ → Type 0)
    (e : RemuxError) → IsNoFault known can_refuse e
    → IfSome known (λ xs. (o : OpenedFile) → IsFile (length xs) (here xs 0) o → SaysDiffers (Of xs o) e)
opened_anyhow None can_refuse Of e refused = tt
opened_anyhow (Some xs) can_refuse Of e refused = λ o file. by o e (refused o file invalid_data)
  where
    by : (o : OpenedFile) (e : RemuxError) → IsCause can_refuse invalid_data e → SaysDiffers (Of xs o) e
    by o (Mp4 e) cause = tt
    by o (Read e) cause = tt
    by o (Write e) cause = tt
    by o (Twice name) cause = tt
    by o (SaysPlaces name place) cause = tt
    by o (TooManySamples track) cause = tt
    by o (SaysOfSamples name place) cause = tt
    by o (StartsElsewhere track number) cause = tt
    by o SameIds cause = tt
    by o OtherTracks cause = tt
    by o (Differs track number) cause = absurd cause

-- the tracks are those of the file that opens
pub of_opened : (known : Option (List ℕ)) (opened : OpenedFile) (all kept : List ℕ) (of_all : List ℕ → List ℕ)
    (e : RemuxError) → IsOnlyFile known opened → all ≡ ids_of opened.moov → kept ≡ of_all (ids_of opened.moov)
    → IfSome known (λ xs. SaysDiffers (IsNotKept xs opened all kept) e)
    → IfSome known (λ xs. (o : OpenedFile) → IsFile (length xs) (here xs 0) o
    → SaysDiffers (IsNotKept xs o (ids_of o.moov) (of_all (ids_of o.moov))) e)
of_opened None opened all kept of_all e only are is says = tt
of_opened (Some xs) opened all kept of_all e only are is says = λ o file.
    subst (λ (m : OpenedFile). SaysDiffers (IsNotKept xs m (ids_of m.moov) (of_all (ids_of m.moov))) e) (only o file)
    (subst (λ (ids : List ℕ). SaysDiffers (IsNotKept xs opened (ids_of opened.moov) ids) e) is
    (subst (λ (ids : List ℕ). SaysDiffers (IsNotKept xs opened ids kept) e) are says))

pub answer_of_opened : {A : Type 0} (r : Result A RemuxError) (known : Option (List ℕ)) (opened : OpenedFile)
    (all kept : List ℕ) (of_all : List ℕ → List ℕ) → IsOnlyFile known opened → all ≡ ids_of opened.moov
    → kept ≡ of_all (ids_of opened.moov)
    → IfErr r (λ e. IfSome known (λ xs. SaysDiffers (IsNotKept xs opened all kept) e))
    → IfErr r (λ e. IfSome known (λ xs. (o : OpenedFile) → IsFile (length xs) (here xs 0) o
    → SaysDiffers (IsNotKept xs o (ids_of o.moov) (of_all (ids_of o.moov))) e))
answer_of_opened (Ok x) known opened all kept of_all only are is says = tt
answer_of_opened (Err e) known opened all kept of_all only are is says =
    of_opened known opened all kept of_all e only are is says
