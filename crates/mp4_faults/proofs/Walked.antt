-- The boxes of a file that were passed without a fault, and what the file is where no more is left.
use Rattle.std.proofs.Common.{◌≡◌, ℕ, ◌-◌, List, [], ◌∷◌, ◌++◌, Bool, Option, Some, None, Result, Ok, Err, refl, sym}
use Rattle.std.proofs.Common.{ap, subst, ◌∙◌}
use Rattle.std.specs.Prelude.{IfSome}
use Rattle.mp4_codec.specs.Cause.{cause_of, fault_of}
use Rattle.mp4_codec.specs.Children.{last}
use Rattle.mp4_codec.specs.Cursor.{here}
use Rattle.mp4_media.specs.FileBoxes.{FileBox, ftyp_from, moov_from, moof_from, moof_place_from, ftyps_in, moovs_in}
use Rattle.mp4_media.specs.FileBoxes.{moofs_in, moof_places_in, emsgs_in, OpenedFile}
use Rattle.mp4_media.specs.FileGrammar.{AreFileBoxes, EndsFile, IsFaultyFile, faulty_box}
use Rattle.mp4_media.specs.FileGrammar.{no_ftyp as without_ftyp, no_moov as without_moov, wrong_ids}
use Rattle.mp4_media.specs.Walk.{opened_at}
use Rattle.mp4_media.proofs.Contents.{last-later, filter_map-and_one}
use Rattle.mp4_media.proofs.Grammar.{file-opens, faulty-refused}
use Rattle.mp4_faults.proofs.Looking.{map-more}
use Rattle.mp4_faults.specs.declared.fault_place.FaultPlace.{FaultPlace}
use Rattle.mp4_faults.specs.declared.top_level.SeenBoxes.{SeenBoxes}
use Rattle.mp4_faults.specs.TopLevel.{NamedBox, boxes_of, IsNamedBox, AreNamedBoxes, IsSeen, Sees}
use Rattle.mp4_faults.specs.TopLevel.{moov_place_from, IsFaultAt}
use Rattle.mp4_codec.specs.declared.box_type.BoxType.{BoxType}
use Rattle.mp4_source.specs.declared.file_error.FileError.{FileError}
use Rattle.mp4_faults.specs.FirstFault.{IsFaultless, IsFaultOfFile, no_ftyp, no_moov, wrong_id, IsFirstFault, of_box}
use Rattle.mp4_faults.specs.FirstFault.{of_file, SaysFirst, SaysAtEnd}

-- what follows of three facts about known bytes
pub of_three : {X : Type 0} (known : Option X) (P Q R T : X → Type 0) → IfSome known P → IfSome known Q
    → IfSome known R → ((x : X) → P x → Q x → R x → T x) → IfSome known T
of_three None P Q R T p q r f = tt
of_three (Some x) P Q R T p q r f = f x p q r

-- THE WALK

module _ (size : ℕ) (bytes : List ℕ) where
  boxes-more : (start place next : ℕ) (boxes : List NamedBox) (b : NamedBox)
      → AreNamedBoxes size bytes start boxes place → IsNamedBox size bytes place next b
      → AreNamedBoxes size bytes start (boxes ++ b ∷ []) next
  unfolding AreNamedBoxes
  boxes-more start place next [] b are is =
      (next, subst (λ (n : ℕ). IsNamedBox size bytes n next b) are is, refl)
  boxes-more start place next (x ∷ xs) b are is = (are.0, are.1, boxes-more are.0 place next xs b are.2 is)

  -- the boxes without their types
  pub unnamed : (start end : ℕ) (boxes : List NamedBox) → AreNamedBoxes size bytes start boxes end
      → AreFileBoxes size bytes start (boxes_of boxes) end
  unfolding AreNamedBoxes AreFileBoxes
  unnamed start end [] are = are
  unnamed start end (x ∷ xs) are = (are.0, are.1.box, unnamed are.0 end xs are.2)

  -- these boxes were seen up to a place
  pub record WalksTo (start : ℕ) (seen : SeenBoxes) (place : ℕ) : Type 0 where
    pub boxes : List NamedBox
    pub are : AreNamedBoxes size bytes start boxes place
    pub is : IsSeen seen boxes

  pub walk-starts : (start : ℕ) (seen : SeenBoxes) → IsSeen seen [] → WalksTo start seen start
  unfolding AreNamedBoxes
  walk-starts start seen none = record { boxes = []; are = refl; is = none }

  pub walk-takes : (start place next : ℕ) (old new : SeenBoxes) (b : NamedBox) → WalksTo start old place
      → IsNamedBox size bytes place next b → Sees old new b → WalksTo start new next
  walk-takes start place next old new b w is sees =
      let before = boxes_of w.boxes in
      let more : boxes_of (w.boxes ++ b ∷ []) ≡ before ++ b.1 ∷ [] = map-more (λ (x : NamedBox). x.1) w.boxes b in
      record {
        boxes = w.boxes ++ b ∷ [];
        are = boxes-more start place next w.boxes b w.are is;
        is = record {
          names =
              sees.names
              ∙ rw w.is.names (sym (map-more (λ (x : NamedBox). x.0) w.boxes b));
          ftyp = sees.ftyp ∙ rw (w.is.ftyp, more) (sym (last-later (λ (x : FileBox). ftyp_from x.content) before b.1));
          moov = sees.moov ∙ rw (w.is.moov, more) (sym (last-later (λ (x : FileBox). moov_from x.content) before b.1));
          moov_place = sees.moov_place ∙ rw (w.is.moov_place, more) (sym (last-later moov_place_from before b.1));
          moofs =
              sees.moofs
              ∙ rw (w.is.moofs, more) (sym (filter_map-and_one (λ (x : FileBox). moof_from x.content) before b.1));
          moof_places =
              sees.moof_places
              ∙ rw (w.is.moof_places, more) (sym (filter_map-and_one moof_place_from before b.1));
        };
      }

-- WHAT THE FILE IS

none-last : {A : Type 0} (xs : List A) → last xs ≡ None → xs ≡ []
none-last [] e = refl
none-last (x ∷ []) e = absurd cc
none-last (x ∷ y ∷ ys) e = let none = none-last (y ∷ ys) e in absurd cc

some-last : {A : Type 0} (xs : List A) (x : A) → last xs ≡ Some x → xs ≡ [] → ⊥
some-last xs x e none = let not : None ≡ Some x = ap last (sym none) ∙ e in absurd cc

module _ (size : ℕ) (bytes : List ℕ) (start : ℕ) where
  pub opens : (boxes : List NamedBox) (end : ℕ) → AreNamedBoxes size bytes start boxes end → EndsFile size bytes end
      → IsFaultless (boxes_of boxes) → fault_of (opened_at size (here bytes start)) ≡ None
  opens boxes end are ends whole =
      let bs = boxes_of boxes in
      let o : OpenedFile = record {
        ftyp = whole.ftyp;
        moov = whole.moov;
        moofs = moofs_in bs;
        moof_places = moof_places_in bs;
        emsgs = emsgs_in bs;
        size = end - start;
      } in
      ap fault_of (file-opens size (here bytes start) o (record {
        boxes = bs;
        end = end;
        are = unnamed size bytes start end boxes are;
        ends = ends;
        ftyp = whole.has_ftyp;
        moov = whole.has_moov;
        moofs = refl;
        moof_places = refl;
        emsgs = refl;
        ids = whole.ids;
        size_is = refl;
      }))

  at-end : (boxes : List NamedBox) (end : ℕ) → AreNamedBoxes size bytes start boxes end → EndsFile size bytes end
      → (f : FaultPlace) → IsFaultOfFile size bytes boxes end f
      → IsFaultyFile size (here bytes start) (cause_of f.error)
  at-end boxes end are ends f (no_ftyp none e lacks) =
      without_ftyp (boxes_of boxes) end (unnamed size bytes start end boxes are) ends
      (none-last (ftyps_in (boxes_of boxes)) none) e
  at-end boxes end are ends f (no_moov t some none e lacks) =
      without_moov (boxes_of boxes) end (unnamed size bytes start end boxes are) ends
      (some-last (ftyps_in (boxes_of boxes)) t some) (none-last (moovs_in (boxes_of boxes)) none) e
  at-end boxes end are ends f (wrong_id t some m is_m e wrong first id at there) =
      wrong_ids (boxes_of boxes) end (unnamed size bytes start end boxes are) ends
      (some-last (ftyps_in (boxes_of boxes)) t some) m is_m e

  faulty : (f : FaultPlace) → IsFirstFault size bytes start f
      → IsFaultyFile size (here bytes start) (cause_of f.error)
  faulty f (of_box before place are fault) =
      faulty_box (boxes_of before) place (unnamed size bytes start place before are) fault.fault
  faulty f (of_file boxes end are ends fault) = at-end boxes end are ends f fault

  pub first-refuses : (f : FaultPlace) → IsFirstFault size bytes start f
      → fault_of (opened_at size (here bytes start)) ≡ Some (cause_of f.error)
  first-refuses f first = ap fault_of (faulty-refused size (here bytes start) (cause_of f.error) (faulty f first))

  -- what is said of a file up to a place is said of the file
  pub says-fault : (seen : SeenBoxes) (place : ℕ) → WalksTo size bytes start seen place → (f : FaultPlace)
      → IsFaultAt size bytes place seen.names f → (can_refuse : Bool)
      → SaysFirst size bytes start can_refuse (Ok (Some f))
  says-fault seen place w f fault can_refuse =
      let first : IsFirstFault size bytes start f =
      of_box w.boxes place w.are (subst (λ (ns : List BoxType). IsFaultAt size bytes place ns f) w.is.names fault) in
      (first, first-refuses f first)

  pub says-end : (boxes : List NamedBox) (end : ℕ) → AreNamedBoxes size bytes start boxes end → EndsFile size bytes end
      → (can_refuse : Bool) (r : Result (Option FaultPlace) FileError) → SaysAtEnd size bytes boxes end can_refuse r
      → SaysFirst size bytes start can_refuse r
  says-end boxes end are ends can_refuse (Ok None) whole = opens boxes end are ends whole
  says-end boxes end are ends can_refuse (Ok (Some f)) fault =
      let first : IsFirstFault size bytes start f = of_file boxes end are ends fault in
      (first, first-refuses f first)
  says-end boxes end are ends can_refuse (Err e) unread = unread
