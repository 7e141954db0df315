-- Where the movies and the fragments of a file are, and the headers in them that say ids.
use Rattle.std.proofs.Common.{◌≡◌, ◌≤◌, ℕ, ◌+◌, ◌-◌, Bool, true, false, cond, List, [], ◌∷◌, ◌++◌, length, Option}
use Rattle.std.proofs.Common.{Some, None, Result, Ok, Err, refl, sym, ap, subst, ◌∙◌}
use Rattle.std.specs.List.{slice_get}
use Rattle.mp4_codec.specs.declared.box_type.BoxType.{BoxType}
use Rattle.mp4_codec.specs.declared.box_type.BoxType.TheVariants.{FtypBox as ftyp, MoovBox as moov, MoofBox as moof}
use Rattle.mp4_codec.specs.declared.box_type.BoxType.TheVariants.{EmsgBox as emsg}
use Rattle.mp4_codec.specs.Cause.{Cause, ◌>>=◌}
use Rattle.mp4_codec.specs.Children.{last}
use Rattle.mp4_codec.specs.Cursor.{header_at, here}
use Rattle.mp4_boxes.specs.declared.moov.MoovBox.{MoovBox}
use Rattle.mp4_boxes.specs.Moov.{moov_of}
use Rattle.mp4_moof.specs.Emsg.{emsg_of}
use Rattle.mp4_leaf.specs.Ftyp.{ftyp_of}
use Rattle.mp4_moof.specs.declared.moof.MoofBox.{MoofBox}
use Rattle.mp4_moof.specs.Moof.{moof_of}
use Rattle.mp4_media.specs.FileBoxes.{BoxContent, Ftyp, Moov, Moof, Emsg, Skipped, meaning_of, is_type, read_as}
use Rattle.mp4_media.specs.FileBoxes.{moovs_in, moofs_in, moof_places_in}
use Rattle.mp4_media.specs.FileGrammar.{between, Holds, read, skipped}
use Rattle.mp4_faults.specs.TopLevel.{NamedBox, boxes_of, IsNamedBox, AreNamedBoxes, moov_places_in}

-- THE MEANING OF A BOX

-- a value that is read as a kind of content
is-of-kind : {A : Type 0} (kind : A → BoxContent) (r : Result A Cause) (content : BoxContent)
    → (r >>= λ b. Ok (kind b)) ≡ Ok content → (x : A) × (r ≡ Ok x) × (kind x ≡ content)
is-of-kind kind (Ok x) content e = (x, refl, cc)
is-of-kind kind (Err c) content e = absurd cc

module _ (name : BoxType) (value : List ℕ → Result BoxContent Cause) (payload : List ℕ) where
  -- what a type means, by which of the four it is
  abbrev chosen : (f v o e : Bool) → Option (List ℕ → Result BoxContent Cause)
  chosen f v o e =
      cond f (Some (read_as Ftyp ftyp_of)) (cond v (Some (read_as Moov moov_of))
      (cond o (Some (read_as Moof moof_of)) (cond e (Some (read_as Emsg emsg_of)) None)))

  is-value : {A : Type 0} (kind : A → BoxContent) (of : List ℕ → Result A Cause) (content : BoxContent)
      → Some (read_as kind of) ≡ Some value → value payload ≡ Ok content
      → (x : A) × (of payload ≡ Ok x) × (kind x ≡ content)
  is-value kind of content is e =
      let same : read_as kind of ≡ value = cc in
      is-of-kind kind (of payload) content (ap (λ (v : List ℕ → Result BoxContent Cause). v payload) same ∙ e)

  movie-is : (m : MoovBox) → meaning_of name ≡ Some value → value payload ≡ Ok (Moov m) → moov_of payload ≡ Ok m
  unfolding meaning_of
  movie-is m is e = by (is_type ftyp name) (is_type moov name) (is_type moof name) (is_type emsg name) is
    where
      by : (f v o s : Bool) → chosen f v o s ≡ Some value → moov_of payload ≡ Ok m
      by true v o s is = let x = is-value Ftyp ftyp_of (Moov m) is e in let not = x.2 in absurd cc
      by false true o s is = let x = is-value Moov moov_of (Moov m) is e in let same : x.0 ≡ m = cc in x.1 ∙ ap Ok same
      by false false true s is = let x = is-value Moof moof_of (Moov m) is e in let not = x.2 in absurd cc
      by false false false true is = let x = is-value Emsg emsg_of (Moov m) is e in let not = x.2 in absurd cc
      by false false false false is = absurd cc

  fragment-is : (m : MoofBox) → meaning_of name ≡ Some value → value payload ≡ Ok (Moof m) → moof_of payload ≡ Ok m
  unfolding meaning_of
  fragment-is m is e = by (is_type ftyp name) (is_type moov name) (is_type moof name) (is_type emsg name) is
    where
      by : (f v o s : Bool) → chosen f v o s ≡ Some value → moof_of payload ≡ Ok m
      by true v o s is = let x = is-value Ftyp ftyp_of (Moof m) is e in let not = x.2 in absurd cc
      by false true o s is = let x = is-value Moov moov_of (Moof m) is e in let not = x.2 in absurd cc
      by false false true s is =
          let x = is-value Moof moof_of (Moof m) is e in let same : x.0 ≡ m = cc in x.1 ∙ ap Ok same
      by false false false true is = let x = is-value Emsg emsg_of (Moof m) is e in let not = x.2 in absurd cc
      by false false false false is = absurd cc

-- WHERE THEY ARE

-- A box begins at a place, whose payload means this.
pub record IsAt {A : Type 0} (of : List ℕ → Result A Cause) (bytes : List ℕ) (place : ℕ) (x : A) : Type 0 where
  pub name : BoxType
  pub from : ℕ
  pub to : ℕ
  pub begins : header_at (here bytes place) ≡ Ok (record { name = name; size = to - from + 8 }, here bytes from)
  pub order : from ≤ to
  pub inside : to ≤ length bytes
  pub is : of (between bytes from to) ≡ Ok x

-- each of these is at its place
unfoldable pub AreAt : {A : Type 0} → (List ℕ → Result A Cause) → List ℕ → List A → List ℕ → Type 0
AreAt of bytes [] [] = Unit {0}
AreAt of bytes (x ∷ xs) (p ∷ ps) = IsAt of bytes p x × AreAt of bytes xs ps
AreAt of bytes [] (p ∷ ps) = ⊥
AreAt of bytes (x ∷ xs) [] = ⊥

pub last-at : {A : Type 0} (of : List ℕ → Result A Cause) (bytes : List ℕ) (xs : List A) (ps : List ℕ)
    → AreAt of bytes xs ps → (x : A) → last xs ≡ Some x → (p : ℕ) × (last ps ≡ Some p) × IsAt of bytes p x
unfolding AreAt
last-at of bytes [] [] are x e = absurd cc
last-at of bytes [] (p ∷ ps) are x e = absurd are
last-at of bytes (y ∷ ys) [] are x e = absurd are
last-at of bytes (y ∷ []) (p ∷ []) are x e =
    let same : y ≡ x = cc in (p, refl, subst (λ z. IsAt of bytes p z) same are.0)
last-at of bytes (y ∷ []) (p ∷ q ∷ qs) are x e = absurd are.1
last-at of bytes (y ∷ z ∷ zs) (p ∷ []) are x e = absurd are.1
last-at of bytes (y ∷ z ∷ zs) (p ∷ q ∷ qs) are x e = last-at of bytes (z ∷ zs) (q ∷ qs) are.1 x e

pub nth-at : {A : Type 0} (of : List ℕ → Result A Cause) (bytes : List ℕ) (before : List A) (x : A) (after : List A)
    (ps : List ℕ) → AreAt of bytes (before ++ x ∷ after) ps
    → (p : ℕ) × (slice_get ps (length before) ≡ Some p) × IsAt of bytes p x
unfolding AreAt
nth-at of bytes [] x after [] are = absurd are
nth-at of bytes [] x after (p ∷ ps) are = (p, refl, are.0)
nth-at of bytes (y ∷ ys) x after [] are = absurd are
nth-at of bytes (y ∷ ys) x after (p ∷ ps) are = nth-at of bytes ys x after ps are.1

-- the movies and the fragments among the boxes of a file
module _ (size : ℕ) (bytes : List ℕ) where
  content-at : {A : Type 0} (of : List ℕ → Result A Cause) (x : A) (content : BoxContent) → (content ≡ Skipped → ⊥)
      → ((name : BoxType) (value : List ℕ → Result BoxContent Cause) (payload : List ℕ) → meaning_of name ≡ Some value
      → value payload ≡ Ok content → of payload ≡ Ok x)
      → (place next : ℕ) (b : NamedBox) → IsNamedBox size bytes place next b → b.1.content ≡ content
      → IsAt of bytes b.1.place x
  content-at of x content whole means place next b is e = by is.box.holds
    where
      by : Holds bytes is.box.name is.box.from next b.1.content → IsAt of bytes b.1.place x
      by (skipped none small none_is) = absurd (whole (sym e ∙ none_is))
      by (read value meaning inside value_is) = record {
        name = is.box.name;
        from = is.box.from;
        to = next;
        begins = rw is.box.place_is is.box.begins.head;
        order = is.box.begins.order;
        inside = inside;
        is = means is.box.name value (between bytes is.box.from next) meaning (value_is ∙ ap Ok e);
      }

  movie-at : (place next : ℕ) (b : NamedBox) → IsNamedBox size bytes place next b → (m : MoovBox)
      → b.1.content ≡ Moov m → IsAt moov_of bytes b.1.place m
  movie-at place next b is m e =
      content-at moov_of m (Moov m) (λ not. cc) (λ name value payload. movie-is name value payload m) place next b is e

  fragment-at : (place next : ℕ) (b : NamedBox) → IsNamedBox size bytes place next b → (m : MoofBox)
      → b.1.content ≡ Moof m → IsAt moof_of bytes b.1.place m
  fragment-at place next b is m e =
      content-at moof_of m (Moof m) (λ not. cc) (λ name value payload. fragment-is name value payload m) place next b
      is e

  pub movies-at : (place end : ℕ) (boxes : List NamedBox) → AreNamedBoxes size bytes place boxes end
      → AreAt moov_of bytes (moovs_in (boxes_of boxes)) (moov_places_in (boxes_of boxes))
  unfolding AreNamedBoxes AreAt
  movies-at place end [] are = tt
  movies-at place end (b ∷ bs) are = by (movies-at are.0 end bs are.2) b.1.content refl
    where
      by : AreAt moov_of bytes (moovs_in (boxes_of bs)) (moov_places_in (boxes_of bs))
          → (content : BoxContent) → b.1.content ≡ content
          → AreAt moov_of bytes (moovs_in (boxes_of (b ∷ bs))) (moov_places_in (boxes_of (b ∷ bs)))
      by others (Ftyp x) e = rw e others
      by others (Moov m) e = rw e (movie-at place are.0 b are.1 m e, others)
      by others (Moof x) e = rw e others
      by others (Emsg x) e = rw e others
      by others Skipped e = rw e others

  pub fragments-at : (place end : ℕ) (boxes : List NamedBox) → AreNamedBoxes size bytes place boxes end
      → AreAt moof_of bytes (moofs_in (boxes_of boxes)) (moof_places_in (boxes_of boxes))
  unfolding AreNamedBoxes AreAt
  fragments-at place end [] are = tt
  fragments-at place end (b ∷ bs) are = by (fragments-at are.0 end bs are.2) b.1.content refl
    where
      by : AreAt moof_of bytes (moofs_in (boxes_of bs)) (moof_places_in (boxes_of bs))
          → (content : BoxContent) → b.1.content ≡ content
          → AreAt moof_of bytes (moofs_in (boxes_of (b ∷ bs))) (moof_places_in (boxes_of (b ∷ bs)))
      by others (Ftyp x) e = rw e others
      by others (Moov x) e = rw e others
      by others (Moof m) e = rw e (fragment-at place are.0 b are.1 m e, others)
      by others (Emsg x) e = rw e others
      by others Skipped e = rw e others
