-- What a payload shows of its children before memory is requested, as a loop goes over them.
use Rattle.std.proofs.Common.{◌≡◌, ◌⊎◌, ℕ, zero, suc, ◌<◌, ◌≤◌, List, length, Result, Ok, Err, refl, sym}
use Rattle.std.proofs.Common.{◌∙◌, subst, inl, inr, arith}
use Rattle.std.proofs.lemmas.Bool.{lt-ltb, le-ltb}
use Rattle.mp4_codec.specs.declared.error.Error.{Error}
use Rattle.mp4_codec.specs.Cause.{cause_of}
use Rattle.mp4_codec.specs.Children.{ChildBox, children, walk}
use Rattle.mp4_codec.specs.ChildrenLaws.{Begins, Breaks, walk-begins, walk-breaks, walk-ends}
use Rattle.mp4_codec.specs.Early.{Early, fails, succeeds, takes_memory, Shows, ◌and_then◌, early_children}
use Rattle.mp4_codec.specs.Early.{early_gathered}

-- All children show what those of the bytes that are left show, or that memory was requested for one before them.
pub record EarlyGathering (early : ChildBox → Early) (rest payload : List ℕ) : Type 0 where
  pub steps : ℕ
  pub enough : length rest ≤ steps
  pub is : (early_gathered early (children payload) ≡ takes_memory)
      ⊎ (early_gathered early (children payload) ≡ early_gathered early (walk steps rest))

pub starts : (early : ChildBox → Early) (payload : List ℕ) → EarlyGathering early payload payload
unfolding children
starts early payload = record { steps = length payload; enough = omega arith; is = inr refl }

-- memory was requested before, so that any answer is right
after_memory : {X : Type 0} (e : Early) (result : Result X Error) → e ≡ takes_memory → Shows e result
after_memory e result is = subst (λ (x : Early). Shows x result) (sym is) tt

-- a child that is read without memory leaves what the next ones show
passed : {X : Type 0} (own later all : Early) (x : X) → Shows {X = X} own (Ok x) → all ≡ own and_then later
    → (all ≡ takes_memory) ⊎ (all ≡ later)
passed (fails c) later all x shown is = absurd shown
passed succeeds later all x shown is = inr is
passed takes_memory later all x shown is = inl is

-- a child that is refused refuses all
refused : (X Y : Type 0) (own later : Early) (e : Error) → Shows {X = X} own (Err e)
    → Shows {X = Y} (own and_then later) (Err e)
refused X Y (fails c) later e shown = shown
refused X Y succeeds later e shown = absurd shown
refused X Y takes_memory later e shown = tt

module _ (early : ChildBox → Early) (bytes payload : List ℕ) where
  first_child : (n : ℕ) (c : ChildBox) (rest : List ℕ) → Begins bytes c rest
      → early_gathered early (walk (suc n) bytes) ≡ early c and_then early_gathered early (walk n rest)
  unfolding early_children
  first_child n c rest b = rw (walk-begins n bytes c rest b) refl

  pub takes : {X : Type 0} (c : ChildBox) (rest : List ℕ) (x : X) → Begins bytes c rest → length rest < length bytes
      → Shows {X = X} (early c) (Ok x) → EarlyGathering early bytes payload → EarlyGathering early rest payload
  takes {X} c rest x b shorter shown w = stepped w.steps w.enough w.is
    where
      stepped : (n : ℕ) → length bytes ≤ n
          → (early_gathered early (children payload) ≡ takes_memory)
          ⊎ (early_gathered early (children payload) ≡ early_gathered early (walk n bytes))
          → EarlyGathering early rest payload
      stepped zero le is = absurd (omega (arith, b.long))
      stepped (suc n) le (inl memory) = record { steps = n; enough = omega arith; is = inl memory }
      stepped (suc n) le (inr same) = record {
        steps = n;
        enough = omega arith;
        is = passed {X = X} (early c) (early_gathered early (walk n rest)) (early_gathered early (children payload)) x
            shown (same ∙ first_child n c rest b);
      }

  pub refuses : (X Y : Type 0) (c : ChildBox) (rest : List ℕ) (e : Error) → Begins bytes c rest
      → Shows {X = X} (early c) (Err e) → EarlyGathering early bytes payload
      → Shows {X = Y} (early_gathered early (children payload)) (Err e)
  refuses X Y c rest e b shown w = stepped w.steps w.enough w.is
    where
      stepped : (n : ℕ) → length bytes ≤ n
          → (early_gathered early (children payload) ≡ takes_memory)
          ⊎ (early_gathered early (children payload) ≡ early_gathered early (walk n bytes))
          → Shows {X = Y} (early_gathered early (children payload)) (Err e)
      stepped zero le is = absurd (omega (arith, b.long))
      stepped (suc n) le (inl memory) = after_memory _ (Err e) memory
      stepped (suc n) le (inr same) =
          subst (λ (x : Early). Shows {X = Y} x (Err e)) (sym (same ∙ first_child n c rest b))
          (refused X Y (early c) (early_gathered early (walk n rest)) e shown)

  pub breaks_off : (Y : Type 0) (e : Error) → Breaks bytes (cause_of e) → EarlyGathering early bytes payload
      → Shows {X = Y} (early_gathered early (children payload)) (Err e)
  unfolding early_children
  breaks_off Y e b w = elim w.is [
    | inl memory ↦ after_memory _ (Err e) memory
    | inr same ↦ subst (λ (x : Early). Shows {X = Y} x (Err e)) (sym same)
        (rw (walk-breaks w.steps bytes (cause_of e) b, le-ltb _ _ b.long) (sym b.cause))
  ]

  pub is_done : {Y : Type 0} (parts : Y) → length bytes < 8 → EarlyGathering early bytes payload
      → Shows {X = Y} (early_gathered early (children payload)) (Ok parts)
  unfolding early_children
  is_done {Y} parts short w = elim w.is [
    | inl memory ↦ after_memory _ (Ok parts) memory
    | inr same ↦ subst (λ (x : Early). Shows {X = Y} x (Ok parts)) (sym same)
        (rw (walk-ends w.steps bytes short, lt-ltb _ _ short) tt)
  ]
