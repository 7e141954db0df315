-- Movie boxes that are as they were, but for some boxes.
use Rattle.std.proofs.Common.{◌≡◌, ℕ, List, subst}
use Rattle.mp4_codec.specs.declared.box_type.BoxType.{BoxType}
use Rattle.mp4_remux.specs.Kept.{IsAmong, IsFirstBox, IsKept, entered, same, next, inside}

-- the same box is next in both
pub same_next : (changing going : List ℕ) {xs ys rest rest_after : List ℕ} (name other : BoxType)
    (header header_after payload payload_after : List ℕ) → IsFirstBox xs name header payload rest
    → IsFirstBox ys other header_after payload_after rest_after
    → (name ≡ other) × ((header ≡ header_after) × (payload ≡ payload_after))
    → IsKept changing going rest rest_after → IsKept changing going xs ys
same_next changing going {xs} {ys} {rest} {rest_after} name other header header_after payload payload_after first
    second is k =
    next xs ys rest rest_after name header payload first
    (rw (is.0, is.1.0, is.1.1) second) k

-- a box with others in it is next in both, whose boxes are as they were
pub same_inside : (changing going : List ℕ) {xs ys rest rest_after : List ℕ} (name other : BoxType)
    (header header_after payload payload_after : List ℕ) → IsFirstBox xs name header payload rest
    → IsFirstBox ys other header_after payload_after rest_after
    → (name ≡ other) × IsAmong entered name → IsKept changing going payload payload_after
    → IsKept changing going rest rest_after → IsKept changing going xs ys
same_inside changing going {xs} {ys} {rest} {rest_after} name other header header_after payload payload_after first
    second is within k =
    inside xs ys rest rest_after name header header_after payload payload_after first
    (rw is.0 second) is.1 within k

-- equal bytes are as they were
pub all_the_same : (changing going xs ys : List ℕ) → xs ≡ ys → IsKept changing going xs ys
all_the_same changing going xs ys e = subst (λ (zs : List ℕ). IsKept changing going xs zs) e (same xs)
