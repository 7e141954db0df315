-- Types of sound with one number are one type.
use Rattle.std.specs.Prelude.{◌≡◌, ℕ, true, nat_eq}
use Rattle.std.proofs.Common.{subst, ap}
use Rattle.std.proofs.Props.{props}
use Rattle.std.specs.Cmp.{unsigned_Decides}
use Rattle.mp4_entry.specs.AudioObjectType.{IsObjectType}
use Rattle.mp4_entry.specs.declared.audio_object_type.AudioObjectType.{AudioObjectType}

-- the type with a number
of_number : (n : ℕ) → IsObjectType n → AudioObjectType
of_number n is = record { number = n; is_type = is }

one_proof : (n : ℕ) (p q : IsObjectType n) → p ≡ q
one_proof n = hlevel props

same_number : (n m : ℕ) → n ≡ m → (p : IsObjectType n) (q : IsObjectType m)
    → record { number = n; is_type = p } ≡ of_number m q
unfolding of_number
same_number n m e =
    subst (λ k. (p : IsObjectType n) (q : IsObjectType k) → of_number n p ≡ of_number k q) e
    (λ p q. ap (of_number n) (one_proof n p q))

pub exact_object_type : (x y : AudioObjectType) → nat_eq x.number y.number ≡ true → x ≡ y
unfolding of_number
exact_object_type x y h =
    same_number x.number y.number ((unsigned_Decides x.number y.number).0 h) x.is_type y.is_type
