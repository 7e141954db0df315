-- The ids of tracks as a set, and the first track fragment whose track's id isn't in it.
use Rattle.std.proofs.Common.{◌≡◌, ℕ, ◌+◌, ◌<◌, Bool, true, false, cond, List, [], ◌∷◌, ◌++◌, take, length, get_or}
use Rattle.std.proofs.Common.{Some, None, refl, sym, ap, ◌∙◌}
use Rattle.std.specs.Prelude.{nat_eq, ◌||◌, ◌==◌}
use Rattle.std.specs.List.{list_any}
use Rattle.std.specs.HashSet.{HashSet}
use Rattle.std.proofs.lemmas.List.{take_more}
use Rattle.mp4_codec.specs.Cause.{Cause, trak_not_found}
use Rattle.mp4_boxes.specs.declared.trak.TrakBox.{TrakBox}
use Rattle.mp4_moof.specs.declared.moof.MoofBox.{MoofBox}
use Rattle.mp4_moof.specs.declared.traf.TrafBox.{TrafBox}
use Rattle.mp4_media.specs.MovieTracks.{unknown_id, unknown_ids}
use Rattle.mp4_faults.specs.Ids.{IsFirstIn, IsFirstUnknown, known_in, has_id, moof_refusal}
use Rattle.mp4_faults.proofs.FirstOf.{same-unknown, same-unknowns}

-- whether one passes, with one more at the end
any-more : {A : Type 0} (p : A → Bool) (xs : List A) (x : A)
    → list_any p (xs ++ x ∷ []) ≡ cond (p x) true (list_any p xs)
any-more p [] x = by (p x)
  where
    by : (b : Bool) → (b || false) ≡ cond b true false
    by true = refl
    by false = refl
any-more p (y ∷ ys) x = ap (λ b. p y || b) (any-more p ys x) ∙ by (p y) (p x) (list_any p ys)
  where
    by : (a b c : Bool) → (a || cond b true c) ≡ cond b true (a || c)
    by true true c = refl
    by true false c = refl
    by false b c = refl

module _ {S : Type 0} where
  -- the id of one track more is in the set
  pub ids-more : (before after : HashSet ℕ S) (traks : List TrakBox) (i : ℕ) (t : TrakBox) → i < length traks
      → t ≡ get_or traks i t
      → ((id : ℕ) → has_id after id ≡ cond (nat_eq t.tkhd.track_id id) true (has_id before id))
      → ((id : ℕ) → has_id before id ≡ known_in (take i traks) id)
      → (id : ℕ) → has_id after id ≡ known_in (take (i + 1) traks) id
  ids-more before after traks i t lt is now then id =
      now id
      ∙ ap (λ b. cond (nat_eq t.tkhd.track_id id) true b) (then id)
      ∙ sym (ap (λ (xs : List TrakBox). known_in xs id)
      (take_more traks i t lt ∙ ap (λ (x : TrakBox). take i traks ++ x ∷ []) (sym is))
      ∙ any-more (λ (x : TrakBox). x.tkhd.track_id == id) (take i traks) t)

module _ (k l : ℕ → Bool) (same : (id : ℕ) → k id ≡ l id) where
  -- the first that isn't known to the one isn't known to the other
  first-traf : (trafs : List TrafBox) (i : ℕ) (t : TrafBox) (c : Cause) → IsFirstIn (unknown_id k) trafs i t c
      → IsFirstIn (unknown_id l) trafs i t c
  first-traf trafs i t c f = record {
    before = f.before;
    after = f.after;
    is = f.is;
    count = f.count;
    faultless = sym (same-unknown k l same f.before) ∙ f.faultless;
    refused = sym (ap (λ b. cond b None (Some (trak_not_found t.tfhd.track_id))) (same t.tfhd.track_id)) ∙ f.refused;
  }

  first-moof : (moofs : List MoofBox) (i : ℕ) (m : MoofBox) (c : Cause) → IsFirstIn (moof_refusal k) moofs i m c
      → IsFirstIn (moof_refusal l) moofs i m c
  first-moof moofs i m c f = record {
    before = f.before;
    after = f.after;
    is = f.is;
    count = f.count;
    faultless = sym (same-unknowns k l same f.before) ∙ f.faultless;
    refused = sym (same-unknown k l same m.trafs) ∙ f.refused;
  }

  pub first-unknown : (moofs : List MoofBox) (i j id : ℕ) → IsFirstUnknown k moofs i j id
      → IsFirstUnknown l moofs i j id
  first-unknown moofs i j id f = record {
    m = f.m;
    first_moof = first-moof moofs i f.m _ f.first_moof;
    t = f.t;
    first_traf = first-traf f.m.trafs j f.t _ f.first_traf;
  }

  pub none-unknown : (moofs : List MoofBox) → unknown_ids k moofs ≡ None → unknown_ids l moofs ≡ None
  none-unknown moofs none = sym (same-unknowns k l same moofs) ∙ none
