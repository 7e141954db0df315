-- Lists of pieces, one piece after the other.
use Rattle.std.proofs.Common.{◌≡◌, ℕ, ◌+◌, ◌*◌, ◌≤◌, ◌<◌, min, List, [], ◌∷◌, ◌++◌, length, take, drop, get_or}
use Rattle.std.proofs.Common.{append_assoc, Option, Some, None, refl, sym, ap, ◌∙◌, arith, suc-mul}
use Rattle.std.specs.List.{flat_map}
use Rattle.std.proofs.lemmas.List.{append-nil, length-append, take_more, take-append-drop}
use Rattle.std.proofs.lemmas.List.Concat.{flat_map-cons}
use Rattle.std.proofs.lemmas.Grind.{flat_map-append}
use Rattle.mp4_codec.specs.Cause.{Cause, ◌or◌}
use Rattle.std.proofs.lemmas.List.Folds.{length-flat_map-take}
use Rattle.mp4_codec.specs.declared.box_type.BoxType.{BoxType}
use Rattle.mp4_codec.specs.Bytes.{Appends}
use Rattle.mp4_codec.specs.Boxes.{box_bytes, all_box_bytes, all_refusal}
use Rattle.mp4_codec.specs.FramingLaws.{length-box_bytes}

-- pieces of one length
pub length-flat_map-same : {A : Type 0} (f : A → List ℕ) (n : ℕ) → ((x : A) → length (f x) ≡ n) → (xs : List A)
    → length (flat_map f xs) ≡ length xs * n
length-flat_map-same f n each [] = omega arith
length-flat_map-same f n each (x ∷ xs) =
    rw (flat_map-cons f x xs, length-append (f x) (flat_map f xs), each x, length-flat_map-same f n each xs)
    (omega (arith, suc-mul (length xs) n))

-- the pieces of one element more
pub flat_map-take_more : {A : Type 0} (f : A → List ℕ) (xs : List A) (i : ℕ) (x : A) → i < length xs
    → x ≡ get_or xs i x → flat_map f (take (i + 1) xs) ≡ flat_map f (take i xs) ++ f x
flat_map-take_more f xs i x lt is =
    rw (take_more xs i x lt, ← is, flat_map-append f (take i xs) (x ∷ []), flat_map-cons f x [])
    (ap (λ (y : List ℕ). flat_map f (take i xs) ++ y) (append-nil (f x)))

-- a running size that stops at the limit
pub size-take_more : {A : Type 0} (f : A → List ℕ) (xs : List A) (i : ℕ) (x : A) (limit before own after : ℕ)
    → i < length xs → x ≡ get_or xs i x
    → before ≡ min (length (flat_map f (take i xs))) limit → own ≡ min (length (f x)) limit
    → after ≡ min (before + own) limit
    → after ≡ min (length (flat_map f (take (i + 1) xs))) limit
size-take_more f xs i x limit before own after lt is b o a =
    rw (flat_map-take_more f xs i x lt is, length-append (flat_map f (take i xs)) (f x)) (omega (arith, b, o, a))

or_none : (a : Option Cause) → a or None ≡ a
or_none (Some c) = refl
or_none None = refl

all_refusal-append : {B : Type 0} (refusal : B → Option Cause) (xs ys : List B)
    → all_refusal refusal (xs ++ ys) ≡ all_refusal refusal xs or all_refusal refusal ys
all_refusal-append refusal [] ys = refl
all_refusal-append refusal (x ∷ xs) ys = chosen (refusal x) (all_refusal-append refusal xs ys)
  where
    chosen : (o : Option Cause) → all_refusal refusal (xs ++ ys) ≡ all_refusal refusal xs or all_refusal refusal ys
        → o or all_refusal refusal (xs ++ ys) ≡ (o or all_refusal refusal xs) or all_refusal refusal ys
    chosen (Some c) e = refl
    chosen None e = e

-- the refusal of one element more, where there was none before
pub all_refusal-take_more : {B : Type 0} (refusal : B → Option Cause) (xs : List B) (i : ℕ) (x : B) → i < length xs
    → x ≡ get_or xs i x → all_refusal refusal (take i xs) ≡ None → all_refusal refusal (take (i + 1) xs) ≡ refusal x
all_refusal-take_more refusal xs i x lt is none =
    rw (take_more xs i x lt, ← is, all_refusal-append refusal (take i xs) (x ∷ []), none) (or_none (refusal x))

-- the first refusal of the list
pub all_refusal-first : {B : Type 0} (refusal : B → Option Cause) (xs : List B) (i : ℕ) (x : B) (c : Cause)
    → i < length xs → x ≡ get_or xs i x → all_refusal refusal (take i xs) ≡ None → refusal x ≡ Some c
    → all_refusal refusal xs ≡ Some c
all_refusal-first refusal xs i x c lt is none e =
    ap (all_refusal refusal) (sym (take-append-drop (i + 1) xs))
    ∙ rw (
      all_refusal-append refusal (take (i + 1) xs) (drop (i + 1) xs),
      all_refusal-take_more refusal xs i x lt is none,
      e,
    ) refl

-- one piece more at the end of a buffer
pub pieces-take_more : {A : Type 0} (f : A → List ℕ) (xs : List A) (i : ℕ) (x : A) (old mid new : List ℕ)
    → i < length xs → x ≡ get_or xs i x → Appends old mid (flat_map f (take i xs)) → Appends mid new (f x)
    → Appends old new (flat_map f (take (i + 1) xs))
pieces-take_more f xs i x old mid new lt is before after = record {
  is = after.is ∙ ap (λ (y : List ℕ). y ++ f x) before.is ∙ append_assoc old (flat_map f (take i xs)) (f x)
      ∙ ap (λ (y : List ℕ). old ++ y) (sym (flat_map-take_more f xs i x lt is));
}

module _ {B : Type 0} (name : BoxType) (payload : B → List ℕ) (bs : List B) (i : ℕ) (b : B) (lt : i < length bs)
    (is : b ≡ get_or bs i b) where
  -- the bytes of a child are no longer than all
  pub box_fits : (limit : ℕ) → length (all_box_bytes name payload bs) < limit → 8 + length (payload b) < limit
  box_fits limit small =
      let all : length (flat_map (λ x. box_bytes name (payload x)) (take i bs))
      + length (box_bytes name (payload (get_or bs i b))) ≤ length (all_box_bytes name payload bs) =
      length-flat_map-take (λ x. box_bytes name (payload x)) bs i b lt in
      let one : length (box_bytes name (payload (get_or bs i b))) ≡ 8 + length (payload b) =
      ap (λ x. length (box_bytes name (payload x))) (sym is) ∙ length-box_bytes name (payload b) in
      omega (arith, small, all, one)

  pub all_box_bytes-size : (limit before own after : ℕ)
      → before ≡ min (length (all_box_bytes name payload (take i bs))) limit → own ≡ min (8 + length (payload b)) limit
      → after ≡ min (before + own) limit
      → after ≡ min (length (all_box_bytes name payload (take (i + 1) bs))) limit
  all_box_bytes-size limit before own after e o a =
      size-take_more (λ x. box_bytes name (payload x)) bs i b limit before own after lt is e
      (o ∙ ap (λ n. min n limit) (sym (length-box_bytes name (payload b)))) a

  pub all_box_bytes-more : (old mid new : List ℕ) → Appends old mid (all_box_bytes name payload (take i bs))
      → Appends mid new (box_bytes name (payload b)) → Appends old new (all_box_bytes name payload (take (i + 1) bs))
  all_box_bytes-more old mid new before after =
      pieces-take_more (λ x. box_bytes name (payload x)) bs i b old mid new lt is before after
