-- The code of a type, and the type of a code.
use Rattle.std.proofs.Common.{◌≡◌, ℕ, Bool, true, false, cond, eqb, List, [], ◌∷◌, refl, sym, ap, subst}
use Rattle.std.proofs.lemmas.Bool.{eqb-true}
use Rattle.mp4_codec.specs.declared.box_type.BoxType.{BoxType}
use Rattle.mp4_codec.specs.BoxType.{code_of, named, among, box_type, IsNamed}

chosen : (b : Bool) (n : ℕ) (t u : BoxType) → (b ≡ true → n ≡ code_of t) → code_of u ≡ n → code_of (cond b t u) ≡ n
chosen true n t u h k = sym (h refl)
chosen false n t u h k = k

code_of-among : (ts : List BoxType) (n : ℕ) → code_of (among ts n) ≡ n
code_of-among [] n = refl
code_of-among (t ∷ ts) n = chosen (eqb n (code_of t)) n t (among ts n) (eqb-true n (code_of t)) (code_of-among ts n)

pub code_of-box_type : (n : ℕ) → code_of (box_type n) ≡ n
unfolding box_type
code_of-box_type n = code_of-among named n

pub is_named : (t : BoxType) (n : ℕ) → t ≡ box_type n → IsNamed t
is_named t n e = subst (λ (u : BoxType). IsNamed u) (sym e) (ap box_type (code_of-box_type n))
