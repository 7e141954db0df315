-- Several children of a container that have to be there.
use Rattle.std.specs.Prelude.{◌≡◌, Option, Some, None, Result, Ok, refl}
use Rattle.mp4_codec.specs.declared.box_type.BoxType.{BoxType}
use Rattle.mp4_codec.specs.Cause.{Cause, ◌>>=◌}
use Rattle.mp4_codec.specs.Children.{needed}

-- two children that have to be there: the first that is missing is the refusal
unfoldable pub two_needed : {A B : Type 0} → BoxType → BoxType → Option A → Option B → Result (A × B) Cause
two_needed t u first second = do
  a ← needed t first
  b ← needed u second
  Ok (a, b)

-- what follows of the two, one after the other, follows of both at once
pub two_needed-then : {A B C : Type 0} (t u : BoxType) (first : Option A) (second : Option B)
    (next : A → B → Result C Cause)
    → (needed t first >>= λ a. needed u second >>= λ b. next a b)
    ≡ (two_needed t u first second >>= λ all. next all.0 all.1)
unfolding two_needed
two_needed-then t u None second next = refl
two_needed-then t u (Some a) None next = refl
two_needed-then t u (Some a) (Some b) next = refl

-- three children that have to be there: the first that is missing is the refusal
unfoldable pub three_needed : {A B C : Type 0} → BoxType → BoxType → BoxType → Option A → Option B → Option C
    → Result (A × B × C) Cause
three_needed t u v first second third = do
  a ← needed t first
  b ← needed u second
  c ← needed v third
  Ok (a, b, c)

-- what follows of the three, one after the other, follows of all at once
pub three_needed-then : {A B C D : Type 0} (t u v : BoxType) (first : Option A) (second : Option B) (third : Option C)
    (next : A → B → C → Result D Cause)
    → (needed t first >>= λ a. needed u second >>= λ b. needed v third >>= λ c. next a b c)
    ≡ (three_needed t u v first second third >>= λ all. next all.0 all.1 all.2)
unfolding three_needed
three_needed-then t u v None second third next = refl
three_needed-then t u v (Some a) None third next = refl
three_needed-then t u v (Some a) (Some b) None next = refl
three_needed-then t u v (Some a) (Some b) (Some c) next = refl

-- four children that have to be there: the first that is missing is the refusal
unfoldable pub four_needed : {A B C D : Type 0} → BoxType → BoxType → BoxType → BoxType → Option A → Option B
    → Option C → Option D → Result (A × B × C × D) Cause
four_needed t u v w first second third fourth = do
  a ← needed t first
  b ← needed u second
  c ← needed v third
  d ← needed w fourth
  Ok (a, b, c, d)

-- what follows of the four, one after the other, follows of all at once
pub four_needed-then : {A B C D E : Type 0} (t u v w : BoxType) (first : Option A) (second : Option B)
    (third : Option C) (fourth : Option D) (next : A → B → C → D → Result E Cause)
    → (needed t first >>= λ a. needed u second >>= λ b. needed v third >>= λ c. needed w fourth >>= λ d. next a b c d)
    ≡ (four_needed t u v w first second third fourth >>= λ all. next all.0 all.1 all.2 all.3)
unfolding four_needed
four_needed-then t u v w None second third fourth next = refl
four_needed-then t u v w (Some a) None third fourth next = refl
four_needed-then t u v w (Some a) (Some b) None fourth next = refl
four_needed-then t u v w (Some a) (Some b) (Some c) None next = refl
four_needed-then t u v w (Some a) (Some b) (Some c) (Some d) next = refl
