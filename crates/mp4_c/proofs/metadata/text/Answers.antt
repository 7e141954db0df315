-- A text that was found is given, and only memory is refused.
use Rattle.std.proofs.Common.{◌≡◌, ◌⊎◌, ℕ, List, Option, None, Result, Ok, Err, ap, sym, ◌∙◌, inl, inr, rules}
use Rattle.std.specs.Cow.{cow_str_bytes}
use Rattle.std.specs.Option.{option_map}
use Rattle.mp4_codec.specs.declared.error.Error.{Error}
use Rattle.mp4_codec.specs.declared.error.Error.TheVariants.{OutOfMemory}
use Rattle.mp4_codec.specs.Cause.{Cause, cause_of}
use Rattle.mp4_c.specs.Answers.{refused}
use Rattle.mp4_c.specs.Metadata.{found_reply}
use Rattle.mp4_c.proofs.metadata.text.Goals as goal

abbrev found_in : Result (Option (List ℕ)) Cause → Option (List ℕ)
found_in (Ok found) = found
found_in (Err c) = None

no_memory : (found : Option (List ℕ)) (e : Error) (c : Cause) → (e ≡ OutOfMemory) ⊎ (Ok found ≡ Err c) → e ≡ OutOfMemory
no_memory found e c (inl memory) = memory
no_memory found e c (inr other) = search rules

pub returns-in-Ok : goal.returns-in-Ok
returns-in-Ok c = λ found is.
    let shown : Ok found ≡ Ok (option_map cow_str_bytes c.in-Ok.words) = rw c.in-Ok.is at is in
    let same = ap found_in shown in
    inl (ap (λ f. found_reply f c.args.room.now) same ∙ c.text_found.ensures)

pub returns-in-Err : goal.returns-in-Err
returns-in-Err c = λ found is.
    let shown : (c.in-Err.error ≡ OutOfMemory) ⊎ (Ok found ≡ Err (cause_of c.in-Err.error)) = rw c.in-Err.is at is in
    let answered = c.refused.ensures ∙ ap (λ e. refused (cause_of e)) (no_memory found c.in-Err.error _ shown) in
    inr (λ i. record { answer = sym answered i; room = c.args.room.now })
