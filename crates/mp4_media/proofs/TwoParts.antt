-- Parts that have to be there.
use Rattle.std.proofs.Common.{◌≡◌, Option, Some, None, Ok, ap}
use Rattle.mp4_codec.specs.declared.box_type.BoxType.{BoxType}
use Rattle.mp4_codec.specs.Steps.{ok_is}
use Rattle.mp4_boxes.specs.Needed.{two_needed}

-- the second of two parts that have to be there is there
pub second_is : {A B : Type 0} (s t : BoxType) (a : Option A) (b : Option B) (both : A × B)
    → two_needed s t a b ≡ Ok both → b ≡ Some both.1
unfolding two_needed
second_is {A = A} {B = B} s t (Some x) (Some y) both e = ap (λ (p : A × B). Some p.1) (ok_is (x, y) both e)
second_is s t (Some x) None both e = absurd cc
second_is s t None b both e = absurd cc
