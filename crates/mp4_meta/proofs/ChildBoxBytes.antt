-- The boxes of children of any types, one more at a time.
use Rattle.std.proofs.Common.{◌≡◌, ℕ, ◌+◌, ◌≤◌, ◌<◌, min, List, [], ◌∷◌, ◌++◌, length, take, get_or}
use Rattle.std.proofs.Common.{sym, ap, subst, ◌∙◌, arith}
use Rattle.std.proofs.lemmas.List.{take_more}
use Rattle.std.specs.List.{AllByRecursion, flat_map}
use Rattle.std.proofs.lemmas.List.Folds.{length-flat_map-take}
use Rattle.mp4_codec.specs.Bytes.{Appends}
use Rattle.mp4_codec.specs.Boxes.{box_bytes}
use Rattle.mp4_codec.specs.Children.{ChildBox}
use Rattle.mp4_codec.specs.FramingLaws.{length-box_bytes}
use Rattle.mp4_codec.specs.ListLaws.{size-take_more, pieces-take_more}
use Rattle.mp4_meta.specs.Meta.{child_box_bytes}

abbrev box_of : ChildBox → List ℕ
box_of c = box_bytes c.0 c.1

module _ (cs : List ChildBox) (i : ℕ) (c : ChildBox) (lt : i < length cs) (is : c ≡ get_or cs i c) where
  -- the box of a child is no longer than all
  pub child_fits : (limit : ℕ) → length (child_box_bytes cs) < limit → 8 + length c.1 < limit
  unfolding child_box_bytes
  child_fits limit small =
      let all : length (flat_map box_of (take i cs)) + length (box_of (get_or cs i c)) ≤ length (child_box_bytes cs) =
      length-flat_map-take box_of cs i c lt in
      let one : length (box_of (get_or cs i c)) ≡ 8 + length c.1 =
      ap (λ (k : ChildBox). length (box_of k)) (sym is) ∙ length-box_bytes c.0 c.1 in
      omega (arith, small, all, one)

  pub child_box_bytes-size : (limit before own after : ℕ)
      → before ≡ min (length (child_box_bytes (take i cs))) limit → own ≡ min (8 + length c.1) limit
      → after ≡ min (before + own) limit
      → after ≡ min (length (child_box_bytes (take (i + 1) cs))) limit
  unfolding child_box_bytes
  child_box_bytes-size limit before own after e o a =
      size-take_more box_of cs i c limit before own after lt is e
      (o ∙ ap (λ n. min n limit) (sym (length-box_bytes c.0 c.1))) a

  pub child_box_bytes-more : (old mid new : List ℕ) → Appends old mid (child_box_bytes (take i cs))
      → Appends mid new (box_bytes c.0 c.1) → Appends old new (child_box_bytes (take (i + 1) cs))
  unfolding child_box_bytes
  child_box_bytes-more old mid new before after = pieces-take_more box_of cs i c old mid new lt is before after

all_append : (P : ChildBox → Type 0) (xs ys : List ChildBox) → AllByRecursion P xs → AllByRecursion P ys
    → AllByRecursion P (xs ++ ys)
all_append P [] ys h k = k
all_append P (x ∷ xs) ys h k = (h.0, all_append P xs ys h.1 k)

-- what holds of the first children, and of the next, holds of one more
pub all_more : (P : ChildBox → Type 0) (cs : List ChildBox) (i : ℕ) (c : ChildBox) → i < length cs → c ≡ get_or cs i c
    → AllByRecursion P (take i cs) → P c → AllByRecursion P (take (i + 1) cs)
all_more P cs i c lt is before here =
    subst (λ (ks : List ChildBox). AllByRecursion P ks)
    (sym (take_more cs i c lt ∙ ap (λ (k : ChildBox). take i cs ++ k ∷ []) (sym is)))
    (all_append P (take i cs) (c ∷ []) before (here, tt))
