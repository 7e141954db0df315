-- Going over the children of a payload, as a loop does.
use Rattle.std.proofs.Common.{◌≡◌, ℕ, zero, suc, ◌<◌, ◌≤◌, List, [], ◌∷◌, ◌++◌, length, Option, Some, None, Result}
use Rattle.std.proofs.Common.{Ok, Err, refl, sym, ap, ◌∙◌, append_assoc, arith}
use Rattle.std.proofs.lemmas.Bool.{lt-ltb, le-ltb}
use Rattle.std.proofs.lemmas.List.{append-nil}
use Rattle.mp4_codec.specs.Steps.{ok_is}
use Rattle.mp4_codec.specs.Cause.{Cause, unless}
use Rattle.mp4_codec.specs.Children.{ChildBox, children, walk, first_fault, gathered}
use Rattle.mp4_codec.specs.ChildrenLaws.{Begins, Breaks, walk-begins, walk-breaks, walk-ends}
use Rattle.mp4_codec.specs.GatherLaws.{NoFault, NoFault-append, first_fault-append}

-- Some children are done, of which none is refused; they are followed by those of the bytes that are left.
pub record Gathering {P : Type 0} (fault : ChildBox → Option Cause) (taken : List ChildBox → P) (parts : P)
    (rest payload : List ℕ) : Type 0 where
  pub done : List ChildBox
  pub given : parts ≡ taken done
  pub none : NoFault fault done
  pub steps : ℕ
  pub enough : length rest ≤ steps
  pub is : children payload ≡ (done ++ (walk steps rest).0, (walk steps rest).1)

pub starts : {P : Type 0} (fault : ChildBox → Option Cause) (taken : List ChildBox → P) (parts : P) (payload : List ℕ)
    → parts ≡ taken [] → Gathering fault taken parts payload payload
unfolding children
starts fault taken parts payload e =
    record { done = []; given = e; none = tt; steps = length payload; enough = omega arith; is = refl }

-- a child that is added is not refused, and gives the parts with it
accepted : {P : Type 0} (f : Option Cause) (x y : P) → Ok y ≡ unless f (Ok x) → (f ≡ None) × (y ≡ x)
accepted None x y e = (refl, ok_is y x e)
accepted (Some c) x y e = absurd cc

-- a child that is not added is refused
denied : {P : Type 0} (f : Option Cause) (x : P) (c : Cause) → unless f (Ok x) ≡ Err c → f ≡ Some c
denied None x c e = absurd cc
denied (Some d) x c e = let same : d ≡ c = cc in ap Some same

module _ {P : Type 0} (fault : ChildBox → Option Cause) (taken : List ChildBox → P) (bytes payload : List ℕ) where
  stepped : (done : List ChildBox) (c : ChildBox) (rest : List ℕ) (q : P) → Begins bytes c rest
      → length rest < length bytes → NoFault fault done → fault c ≡ None → q ≡ taken (done ++ c ∷ [])
      → (n : ℕ) → length bytes ≤ n → children payload ≡ (done ++ (walk n bytes).0, (walk n bytes).1)
      → Gathering fault taken q rest payload
  stepped done c rest q b shorter none fine e zero le is = absurd (omega (arith, b.long))
  stepped done c rest q b shorter none fine e (suc n) le is =
      let one : (done ++ (walk (suc n) bytes).0, (walk (suc n) bytes).1)
      ≡ ((done ++ c ∷ []) ++ (walk n rest).0, (walk n rest).1) =
      rw (walk-begins n bytes c rest b)
      (ap (λ (cs : List ChildBox). (cs, (walk n rest).1)) (sym (append_assoc done (c ∷ []) (walk n rest).0))) in
      record {
        done = done ++ c ∷ [];
        given = e;
        none = NoFault-append fault done (c ∷ []) none (fine, tt);
        steps = n;
        enough = omega arith;
        is = is ∙ one;
      }

  refused : (done : List ChildBox) (c : ChildBox) (rest : List ℕ) (cause : Cause) → Begins bytes c rest
      → NoFault fault done → fault c ≡ Some cause
      → (n : ℕ) → length bytes ≤ n → children payload ≡ (done ++ (walk n bytes).0, (walk n bytes).1)
      → gathered fault taken (children payload) ≡ Err cause
  unfolding first_fault
  refused done c rest cause b none fine zero le is = absurd (omega (arith, b.long))
  refused done c rest cause b none fine (suc n) le is =
      rw (
        is,
        walk-begins n bytes c rest b,
        first_fault-append fault done (c ∷ (walk n rest).0) (walk n rest).1 none,
        fine,
      ) refl

pub takes : {P : Type 0} (fault : ChildBox → Option Cause) (taken : List ChildBox → P)
    (added : P → ChildBox → Result P Cause)
    (adds : (done : List ChildBox) (c : ChildBox)
    → added (taken done) c ≡ unless (fault c) (Ok (taken (done ++ c ∷ []))))
    → (p q : P) (bytes rest payload : List ℕ) (c : ChildBox) → Begins bytes c rest → length rest < length bytes
    → added p c ≡ Ok q
    → Gathering fault taken p bytes payload → Gathering fault taken q rest payload
takes fault taken added adds p q bytes rest payload c b shorter fine w =
    let a = accepted (fault c) (taken (w.done ++ c ∷ [])) q (sym fine ∙ ap (λ x. added x c) w.given ∙ adds w.done c) in
    stepped fault taken bytes payload w.done c rest q b shorter w.none a.0 a.1 w.steps w.enough w.is

pub refuses : {P : Type 0} (fault : ChildBox → Option Cause) (taken : List ChildBox → P)
    (added : P → ChildBox → Result P Cause)
    (adds : (done : List ChildBox) (c : ChildBox)
    → added (taken done) c ≡ unless (fault c) (Ok (taken (done ++ c ∷ []))))
    → (p : P) (bytes rest payload : List ℕ) (c : ChildBox) (cause : Cause) → Begins bytes c rest → added p c ≡ Err cause
    → Gathering fault taken p bytes payload → gathered fault taken (children payload) ≡ Err cause
refuses fault taken added adds p bytes rest payload c cause b wrong w =
    let d = denied (fault c) (taken (w.done ++ c ∷ [])) cause
    (sym (adds w.done c) ∙ ap (λ x. added x c) (sym w.given) ∙ wrong) in
    refused fault taken bytes payload w.done c rest cause b w.none d w.steps w.enough w.is

pub breaks_off : {P : Type 0} (fault : ChildBox → Option Cause) (taken : List ChildBox → P) (p : P)
    (bytes payload : List ℕ) (cause : Cause) → Breaks bytes cause
    → Gathering fault taken p bytes payload → gathered fault taken (children payload) ≡ Err cause
unfolding first_fault
breaks_off fault taken p bytes payload cause b w =
    rw (
      w.is,
      walk-breaks w.steps bytes cause b,
      first_fault-append fault w.done [] bytes w.none,
      le-ltb _ _ b.long,
      b.cause,
    ) refl

pub is_done : {P : Type 0} (fault : ChildBox → Option Cause) (taken : List ChildBox → P) (p : P)
    (bytes payload : List ℕ) → length bytes < 8
    → Gathering fault taken p bytes payload → gathered fault taken (children payload) ≡ Ok p
unfolding first_fault
is_done fault taken p bytes payload short w =
    rw (
      w.is,
      walk-ends w.steps bytes short,
      first_fault-append fault w.done [] bytes w.none,
      lt-ltb _ _ short,
      append-nil w.done,
      w.given,
    ) refl
