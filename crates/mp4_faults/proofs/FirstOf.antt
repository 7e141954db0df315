-- The first of a list that is refused.
use Rattle.std.proofs.Common.{◌≡◌, ◌<◌, ℕ, suc, List, [], ◌∷◌, ◌++◌, take, drop, length, get_or, Some, None, Option}
use Rattle.std.proofs.Common.{refl}
use Rattle.std.proofs.Common.{sym, ap, ◌∙◌, arith, Bool, true, false, cond}
use Rattle.std.specs.Prelude.{is_some, ◌==◌, ◌||◌}
use Rattle.std.specs.List.{list_any, filter}
use Rattle.std.proofs.Math.Seq.{split_at}
use Rattle.std.proofs.lemmas.List.{length-take-le}
use Rattle.mp4_codec.specs.Cause.{Cause}
use Rattle.mp4_codec.specs.Boxes.{all_refusal}
use Rattle.mp4_codec.specs.WriteLaws.{or_parts}
use Rattle.mp4_codec.specs.Children.{last}
use Rattle.mp4_codec.specs.Cause.{invalid_data, trak_not_found, ◌or◌}
use Rattle.mp4_boxes.specs.declared.moov.MoovBox.{MoovBox}
use Rattle.mp4_boxes.specs.declared.trak.TrakBox.{TrakBox}
use Rattle.mp4_moof.specs.declared.moof.MoofBox.{MoofBox}
use Rattle.mp4_moof.specs.declared.traf.TrafBox.{TrafBox}
use Rattle.mp4_media.specs.MovieTracks.{trak_with_id, zero_id, unknown_id, unknown_ids, id_fault}
use Rattle.mp4_faults.specs.Ids.{IsFirstIn, IsFirstUnknown, known_in, moof_refusal}

pub first-in : {A : Type 0} (refusal : A → Option Cause) (xs : List A) (i : ℕ) (x : A) (c : Cause) → i < length xs
    → x ≡ get_or xs i x → all_refusal refusal (take i xs) ≡ None → refusal x ≡ Some c → IsFirstIn refusal xs i x c
first-in refusal xs i x c lt is none e = record {
  before = take i xs;
  after = drop (suc i) xs;
  is = split_at xs i x lt ∙ ap (λ y. take i xs ++ y ∷ drop (suc i) xs) (sym is);
  count = length-take-le i xs (omega (arith, lt));
  faultless = none;
  refused = e;
}

-- whether there is a last one that passes
any-more : {A : Type 0} (x : A) (ys : List A) → true ≡ is_some (last (x ∷ ys))
any-more x [] = refl
any-more x (y ∷ ys) = any-more y ys

any-is-last : {A : Type 0} (p : A → Bool) (xs : List A) → list_any p xs ≡ is_some (last (filter p xs))
any-is-last p [] = refl
any-is-last p (x ∷ xs) = by (p x) (any-is-last p xs)
  where
    by : (b : Bool) → list_any p xs ≡ is_some (last (filter p xs))
        → (b || list_any p xs) ≡ is_some (last (cond b (x ∷ filter p xs) (filter p xs)))
    by true e = any-more x (filter p xs)
    by false e = e

-- a track is known where there is a last one with its id
known-is : (traks : List TrakBox) (id : ℕ) → known_in traks id ≡ is_some (trak_with_id traks id)
known-is traks id = any-is-last (λ (t : TrakBox). t.tkhd.track_id == id) traks

module _ (k l : ℕ → Bool) (same : (id : ℕ) → k id ≡ l id) where
  pub same-unknown : (trafs : List TrafBox) → all_refusal (unknown_id k) trafs ≡ all_refusal (unknown_id l) trafs
  same-unknown [] = refl
  same-unknown (t ∷ ts) = rw (same t.tfhd.track_id, same-unknown ts) refl

  pub same-unknowns : (moofs : List MoofBox) → unknown_ids k moofs ≡ unknown_ids l moofs
  same-unknowns [] = refl
  same-unknowns (m ∷ ms) = rw (same-unknown m.trafs, same-unknowns ms) refl

all-after : {A : Type 0} (refusal : A → Option Cause) (xs ys : List A) → all_refusal refusal xs ≡ None
    → all_refusal refusal (xs ++ ys) ≡ all_refusal refusal ys
all-after refusal [] ys none = refl
all-after refusal (x ∷ xs) ys none =
    let parts = or_parts (refusal x) (all_refusal refusal xs) none in
    rw parts.0 (all-after refusal xs ys parts.1)

first-refuses : {A : Type 0} (refusal : A → Option Cause) (xs : List A) (i : ℕ) (x : A) (c : Cause)
    → IsFirstIn refusal xs i x c → all_refusal refusal xs ≡ Some c
first-refuses refusal xs i x c f =
    ap (all_refusal refusal) f.is ∙ all-after refusal f.before (x ∷ f.after) f.faultless ∙ rw f.refused refl

pub moof-refuses : (known : ℕ → Bool) (m : MoofBox) (i : ℕ) (t : TrafBox) (id : ℕ)
    → IsFirstIn (unknown_id known) m.trafs i t (trak_not_found id) → moof_refusal known m ≡ Some (trak_not_found id)
moof-refuses known m i t id f = first-refuses (unknown_id known) m.trafs i t (trak_not_found id) f

-- THE FIRST WRONG ID

module _ (moov : MoovBox) (moofs : List MoofBox) where
  fault-is : id_fault moov moofs ≡ (all_refusal zero_id moov.traks or unknown_ids (known_in moov.traks) moofs)
  unfolding id_fault
  fault-is =
      ap (λ (c : Option Cause). all_refusal zero_id moov.traks or c)
      (sym (same-unknowns (known_in moov.traks) (λ id. is_some (trak_with_id moov.traks id)) (known-is moov.traks)
      moofs))

  pub zero-told : (i : ℕ) (t : TrakBox) → IsFirstIn zero_id moov.traks i t invalid_data
      → id_fault moov moofs ≡ Some invalid_data
  zero-told i t f = fault-is ∙ rw (first-refuses zero_id moov.traks i t invalid_data f) refl

  pub unknown-told : (i j id : ℕ) → all_refusal zero_id moov.traks ≡ None
      → IsFirstUnknown (known_in moov.traks) moofs i j id → id_fault moov moofs ≡ Some (trak_not_found id)
  unknown-told i j id none f =
      fault-is
      ∙ rw (none, first-refuses (moof_refusal (known_in moov.traks)) moofs i f.m (trak_not_found id) f.first_moof) refl

  pub none-told : all_refusal zero_id moov.traks ≡ None → unknown_ids (known_in moov.traks) moofs ≡ None
      → id_fault moov moofs ≡ None
  none-told zero unknown = fault-is ∙ rw (zero, unknown) refl
