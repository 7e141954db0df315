-- What boxes hold, by their types.
use Rattle.std.proofs.Common.{◌≡◌, ℕ, List, [], ◌∷◌, ◌++◌, Option, Some, None, Result, Ok, Err, refl, sym, ap, ◌∙◌}
use Rattle.std.specs.List.{filter_map}
use Rattle.std.proofs.lemmas.List.{append-nil}
use Rattle.std.proofs.lemmas.List.Elements.{filter_map-append}
use Rattle.mp4_codec.specs.declared.box_type.BoxType.{BoxType}
use Rattle.mp4_codec.specs.declared.box_type.BoxType.TheVariants.{FtypBox as ftyp, MoovBox as moov, MoofBox as moof}
use Rattle.mp4_codec.specs.declared.box_type.BoxType.TheVariants.{EmsgBox as emsg}
use Rattle.mp4_codec.specs.BoxType.{box_type, IsNamed}
use Rattle.mp4_codec.specs.Cause.{Cause, ◌>>=◌}
use Rattle.mp4_codec.specs.Cursor.{Cursor}
use Rattle.mp4_codec.specs.Boxes.{payload_at, box_at}
use Rattle.mp4_codec.specs.Children.{last}
use Rattle.mp4_codec.specs.ChildrenLaws.{not_of}
use Rattle.mp4_codec.specs.GatherLaws.{last-push}
use Rattle.mp4_leaf.specs.Ftyp.{ftyp_of}
use Rattle.mp4_moof.specs.Emsg.{emsg_of}
use Rattle.mp4_boxes.specs.Moov.{moov_of}
use Rattle.mp4_moof.specs.Moof.{moof_of}
use Rattle.mp4_media.specs.FileBoxes.{BoxContent, Ftyp, Moov, Moof, Emsg}
use Rattle.mp4_media.specs.FileBoxes.{read_as, meaning_of, IsRead, later, and_one}
use Rattle.mp4_media.specs.Walk.{content_at}

pub meaning-ftyp : (name : BoxType) → name ≡ ftyp → meaning_of name ≡ Some (read_as Ftyp ftyp_of)
unfolding meaning_of
meaning-ftyp name is = rw is refl

pub meaning-moov : (name : BoxType) → name ≡ moov → meaning_of name ≡ Some (read_as Moov moov_of)
unfolding meaning_of
meaning-moov name is = rw is refl

pub meaning-moof : (name : BoxType) → name ≡ moof → meaning_of name ≡ Some (read_as Moof moof_of)
unfolding meaning_of
meaning-moof name is = rw is refl

pub meaning-emsg : (name : BoxType) → name ≡ emsg → meaning_of name ≡ Some (read_as Emsg emsg_of)
unfolding meaning_of
meaning-emsg name is = rw is refl

-- a box whose payload has a meaning is read
pub has_meaning : (name : BoxType) (value : List ℕ → Result BoxContent Cause) → meaning_of name ≡ Some value → IsRead name
has_meaning name value is = λ none. let no = sym is ∙ none in absurd cc

-- a box of another type is skipped
pub meaning-none : (name : BoxType) → IsNamed name → (name ≡ ftyp → ⊥) → (name ≡ moov → ⊥) → (name ≡ moof → ⊥)
    → (name ≡ emsg → ⊥) → meaning_of name ≡ None
unfolding meaning_of box_type
meaning-none name named not_ftyp not_moov not_moof not_emsg =
    rw (
      not_of ftyp (name, []) refl named not_ftyp,
      not_of moov (name, []) refl named not_moov,
      not_of moof (name, []) refl named not_moof,
      not_of emsg (name, []) refl named not_emsg,
    ) refl

module _ {A : Type 0} (kind : A → BoxContent) (value : List ℕ → Result A Cause) where
  abbrev with_place : {B : Type 0} → Cursor → B → Result (B × Cursor) Cause
  with_place after x = Ok (x, after)

  of_value : (r : Result A Cause) (after : Cursor) (x : A × Cursor) → (r >>= with_place after) ≡ Ok x
      → ((r >>= λ b. Ok (kind b)) >>= with_place after) ≡ Ok (kind x.0, x.1)
  of_value (Ok y) after x e = cc
  of_value (Err c) after x e = absurd cc

  of_payload : (r : Result (List ℕ × Cursor) Cause) (x : A × Cursor)
      → (r >>= λ part. value part.0 >>= with_place part.1) ≡ Ok x
      → (r >>= λ part. read_as kind value part.0 >>= with_place part.1) ≡ Ok (kind x.0, x.1)
  of_payload (Ok part) x e = of_value (value part.0) part.1 x e
  of_payload (Err c) x e = absurd cc

  no_value : (r : Result A Cause) (after : Cursor) (c : Cause) → (r >>= with_place after) ≡ Err c
      → ((r >>= λ b. Ok (kind b)) >>= with_place after) ≡ Err c
  no_value (Ok y) after c e = absurd cc
  no_value (Err d) after c e = cc

  no_payload : (r : Result (List ℕ × Cursor) Cause) (c : Cause)
      → (r >>= λ part. value part.0 >>= with_place part.1) ≡ Err c
      → (r >>= λ part. read_as kind value part.0 >>= with_place part.1) ≡ Err c
  no_payload (Ok part) c e = no_value (value part.0) part.1 c e
  no_payload (Err d) c e = cc

  module _ (name : BoxType) (is : meaning_of name ≡ Some (read_as kind value)) (size : ℕ) (cursor : Cursor) where
    -- a box that is read
    pub content-read : (x : A) (after : Cursor) → box_at value size cursor ≡ Ok (x, after)
        → content_at (meaning_of name) size cursor ≡ Ok (kind x, after)
    content-read x after e = rw is (of_payload (payload_at size cursor) (x, after) e)

    -- a box that has no meaning
    pub content-refused : (c : Cause) → box_at value size cursor ≡ Err c
        → content_at (meaning_of name) size cursor ≡ Err c
    content-refused c e = rw is (no_payload (payload_at size cursor) c e)

-- the last of a kind, with one box more
pub last-later : {A B : Type 0} (kind : A → Option B) (xs : List A) (x : A)
    → last (filter_map kind (xs ++ x ∷ [])) ≡ later (kind x) (last (filter_map kind xs))
last-later {A} {B} kind xs x =
    ap last (filter_map-append kind xs (x ∷ [])) ∙ chosen (kind x) (filter_map kind (x ∷ [])) refl
  where
    chosen : (o : Option B) (more : List B) → more ≡ filter_map (λ (y : Option B). y) (o ∷ [])
        → last (filter_map kind xs ++ more) ≡ later o (last (filter_map kind xs))
    chosen (Some y) more e = rw e (last-push (filter_map kind xs) y)
    chosen None more e = rw e (ap last (append-nil (filter_map kind xs)))

-- all of a kind, with one box more
pub filter_map-and_one : {A B : Type 0} (kind : A → Option B) (xs : List A) (x : A)
    → filter_map kind (xs ++ x ∷ []) ≡ and_one (filter_map kind xs) (kind x)
filter_map-and_one {A} {B} kind xs x = filter_map-append kind xs (x ∷ []) ∙ chosen (kind x)
  where
    chosen : (o : Option B)
        → filter_map kind xs ++ filter_map (λ (y : Option B). y) (o ∷ []) ≡ and_one (filter_map kind xs) o
    chosen (Some y) = refl
    chosen None = append-nil (filter_map kind xs)
