-- The lines of a script whose movie goes to a sink.
use Rattle.std.proofs.Common.{◌≡◌, ◌⊎◌, inl, inr, ℕ, true, false, eqb, List, [], ◌∷◌, length, Option, Some, None}
use Rattle.std.proofs.Common.{Result, Ok, Err, refl, sym, ap, subst, ◌∙◌, arith}
use Rattle.std.proofs.lemmas.Bool.{eqb-true}
use Rattle.mp4_media.specs.Error.{Error}
use Rattle.mp4_media.specs.Error.TheVariants.{OutOfMemory}
use Rattle.mp4_media.specs.Cause.{Cause, AnswersCause}
use Rattle.mp4_media.specs.Calls.{Call, step, call_cause}
use Rattle.mp4_media.specs.WriterAnswers.{RefusesWrite}
use Rattle.mp4_media.specs.WriterFields.{KeptMovie}
use Rattle.mp4_media.specs.Writing.{WriterState}
use Rattle.mp4_media.specs.declared.write_error.WriteError.{WriteError}
use Rattle.mp4_media.specs.declared.write_error.WriteError.TheVariants.{Mp4, Io, Failed}
use Rattle.mp4_script.specs.Commands.{command_in}
use Rattle.mp4_script.specs.Script.{called, line_step, script_cause_of, RanOutAt}
use Rattle.mp4_script.specs.ScriptSink.{AnswersInSink, IsToldAs}
use Rattle.mp4_script.specs.declared.script.ScriptFault.{ScriptFault}
use Rattle.mp4_script.specs.declared.script.ScriptFault.TheVariants.{Refused}
use Rattle.mp4_script.specs.declared.script_writer.ScriptWriteFault.{ScriptWriteFault}
use Rattle.mp4_script.specs.declared.script_writer.ScriptWriteFault.TheVariants.{Script, Sink}
use Rattle.mp4_script.proofs.Scripted.{call_was_made, call_was_refused, its_step}

-- an empty line changes nothing
pub empty_line : (number : ℕ) (line : List ℕ) → true ≡ eqb (length line) 0 → (writer : WriterState)
    → line_step number line writer ≡ Ok writer
empty_line number [] e writer = refl
empty_line number (b ∷ bs) e writer =
    let none = eqb-true (length (b ∷ bs)) 0 (sym e) in absurd (omega (arith, none))

-- a call without a cause is made
pub call_goes : (number : ℕ) (writer : WriterState) (call : Call) → call_cause writer call ≡ None
    → called number writer (Some call) ≡ Ok (step writer call)
call_goes number writer call none =
    call_was_made number writer call (step writer call)
    (subst (λ (c : Option Cause). AnswersCause {X = Unit {0}} c (Ok tt)) (sym none) tt) refl

same_refusal : (P : Type 0) (cause : Option Cause) (e : Error) → RefusesWrite P cause (Mp4 e)
    → AnswersCause {X = Unit {0}} cause (Err e)
same_refusal P None e a = a
same_refusal P (Some c) e a = a

-- and one that a writer refuses is refused
pub call_fails : (X : Type 0) (number : ℕ) (writer : WriterState) (call : Call) (P : Type 0) (after : KeptMovie)
    (e : WriteError) (fault : ScriptWriteFault) → IsToldAs (λ e. Refused number e) e fault
    → RefusesWrite P (call_cause writer call) e
    → AnswersInSink {X = X} (λ f. f ≡ Refused number OutOfMemory) P after (Err fault) (called number writer (Some call))
call_fails X number writer call P after (Mp4 e) (Script f) told a =
    by (call_was_refused number writer call e (same_refusal P (call_cause writer call) e a))
  where
    by : (Refused number e ≡ Refused number OutOfMemory)
        ⊎ (called number writer (Some call) ≡ Err (script_cause_of (Refused number e)))
        → (f ≡ Refused number OutOfMemory) ⊎ (called number writer (Some call) ≡ Err (script_cause_of f))
    by (inl memory) = inl (told ∙ memory)
    by (inr refused) = inr (refused ∙ ap (λ (x : ScriptFault). Err (script_cause_of x)) (sym told))
call_fails X number writer call P after (Mp4 e) (Sink x) told a = absurd told
call_fails X number writer call P after (Io e) (Script f) told a = absurd told
call_fails X number writer call P after (Io e) (Sink x) told a = by (call_cause writer call) refl a
  where
    by : (cause : Option Cause) → call_cause writer call ≡ cause → RefusesWrite P cause (Io e)
        → P × ((next : WriterState) × (called number writer (Some call) ≡ Ok next))
    by None none may = (may, (step writer call, call_goes number writer call none))
    by (Some c) some never = absurd never
call_fails X number writer call P after Failed (Script f) told a = absurd told
call_fails X number writer call P after Failed (Sink x) told a = absurd (never (call_cause writer call) a)
  where
    never : (cause : Option Cause) → RefusesWrite P cause Failed → ⊥
    never None a = a
    never (Some c) a = a

-- The line of this number, which is a command, answers what its call does.
pub line_answers : {X : Type 0} (number : ℕ) (line : List ℕ) (call : Call) → false ≡ eqb (length line) 0
    → command_in line ≡ Some call → (writer : WriterState) (P : Type 0) (after : KeptMovie)
    (result : Result X ScriptWriteFault)
    → AnswersInSink (λ f. f ≡ Refused number OutOfMemory) P after result (called number writer (Some call))
    → AnswersInSink (RanOutAt number line) P after result (line_step number line writer)
line_answers number line call some is writer P after (Ok x) a =
    (a.0, its_step number line call some (sym is) writer ∙ a.1, a.2)
line_answers number line call some is writer P after (Err (Script f)) (inl memory) = inl ((call, is), memory)
line_answers number line call some is writer P after (Err (Script f)) (inr refused) =
    inr (its_step number line call some (sym is) writer ∙ refused)
line_answers number line call some is writer P after (Err (Sink x)) a =
    (a.0, (a.1.0, its_step number line call some (sym is) writer ∙ a.1.1))
