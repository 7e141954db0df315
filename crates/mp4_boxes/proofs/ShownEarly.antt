-- What a container shows before memory is requested, where its children are read.
use Rattle.std.proofs.Common.{◌≡◌, Result, Ok, Err, refl, sym, subst}
use Rattle.mp4_codec.specs.declared.error.Error.{Error}
use Rattle.mp4_codec.specs.Cause.{Cause, cause_of, Gives}
use Rattle.mp4_codec.specs.Early.{Early, fails, succeeds, takes_memory, Shows, at_once, ◌and_then◌}

-- the answer itself, where no child takes memory
answer_shows : {X : Type 0} (answer : Result X Cause) (result : Result X Error) → Gives (λ x. x) result answer
    → Shows (at_once answer) result
answer_shows {X} answer (Ok x) is = subst (λ (r : Result X Cause). Shows {X = X} (at_once r) (Ok x)) (sym is) tt
answer_shows {X} answer (Err e) is =
    subst (λ (r : Result X Cause). Shows {X = X} (at_once r) (Err e)) (sym is) refl

-- after children that were read, the answer shows itself
pub shown_after : {P X : Type 0} (children : Early) (parts : P) (answer : Result X Cause) (result : Result X Error)
    → Shows {X = P} children (Ok parts) → Gives (λ x. x) result answer
    → Shows (children and_then at_once answer) result
shown_after (fails c) parts answer result shown is = absurd shown
shown_after succeeds parts answer result shown is = answer_shows answer result is
shown_after takes_memory parts answer result shown is = tt
