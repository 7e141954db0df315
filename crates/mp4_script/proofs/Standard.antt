-- The movie of a script: it is begun, its lines are run, and it is ended.
use Rattle.std.proofs.Common.{◌≡◌, ◌⊎◌, inl, inr, ℕ, List, [], None, Some, Result, Ok, Err, refl, sym, ap}
use Rattle.std.proofs.Common.{subst, ◌∙◌, arith}
use Rattle.std.specs.Prelude.{Option, IfOk}
use Rattle.mp4_media.specs.Error.{Error}
use Rattle.mp4_media.specs.Error.TheVariants.{OutOfMemory}
use Rattle.mp4_media.specs.Cause.{Cause, cause_of, Answers, AnswersCause}
use Rattle.mp4_media.specs.Mp4Config.{Mp4Config}
use Rattle.mp4_media.specs.Writing.{WriterState, started, with_end, whole_of, start_cause, end_cause}
use Rattle.mp4_media.proofs.StartLaws.{start_cause-few}
use Rattle.mp4_script.specs.declared.script.ScriptFault.{ScriptFault}
use Rattle.mp4_script.specs.declared.script.ScriptFault.TheVariants.{End}
use Rattle.mp4_script.specs.Script.{ScriptCause, script_cause_of, at_end, standard_config, standard_writer, run_all}
use Rattle.mp4_script.specs.Script.{ended_movie, movie_made_by, RanOutIn, RanOut, AnswersScript, ◌>>=◌}

-- it is begun for no cause
pub begins : start_cause standard_config ≡ None
begins = start_cause-few standard_config (omega arith)

-- where there is no cause, a refusal says that memory ran out
of_memory : (X : Type 0) (cause : Option Cause) (e : Error)
    → cause ≡ None → AnswersCause {X = X} cause (Err e) → e ≡ OutOfMemory
of_memory X cause e none answers = subst (λ why. AnswersCause {X = X} why (Err e)) none answers

pub same_config : (config : Mp4Config) (x : Result Mp4Config Cause)
    → x ≡ Ok standard_config → x ≡ Ok config → config ≡ standard_config
same_config config x e f = cc

-- what a writer that was begun so is
pub begun : (config : Mp4Config) (front : List ℕ) (result : Result WriterState Error)
    → front ≡ [] → Answers (λ c. c) (Ok config) (Ok standard_config) → AnswersCause (start_cause config) result
    → IfOk result (λ writer. writer ≡ started front config) → Answers (λ writer. writer) result (Ok standard_writer)
begun config front (Ok writer) nothing standard answers is =
    let same = same_config config (Ok standard_config) refl standard in
    ap Ok (sym (is ∙ ap (λ (xs : List ℕ). started xs config) nothing ∙ ap (started []) same))
begun config front (Err e) nothing standard answers is =
    let same = same_config config (Ok standard_config) refl standard in
    inl (of_memory WriterState (start_cause config) e (ap start_cause same ∙ begins) answers)

-- where the lines are refused, so is the movie
pub lines_are_refused : {X : Type 0} (script : List ℕ) (writer : WriterState) (fault : ScriptFault)
    (view : X → List ℕ) (result : Result X ScriptFault)
    → writer ≡ standard_writer → result ≡ Err fault
    → RanOutIn script writer fault ⊎ (run_all script writer ≡ Err (script_cause_of fault))
    → AnswersScript (RanOut script) view result (movie_made_by script)
lines_are_refused script writer fault view (Ok x) begun-is is answers = absurd cc
lines_are_refused script writer fault view (Err e) begun-is is (inl ran_out) =
    let same : fault ≡ e = cc in
    inl (inr (subst (RanOutIn script standard_writer) same (subst (λ w. RanOutIn script w fault) begun-is ran_out)))
lines_are_refused script writer fault view (Err e) begun-is is (inr refused) =
    let same : fault ≡ e = cc in
    inr (ap (λ (r : Result WriterState ScriptCause). r >>= ended_movie) (ap (run_all script) (sym begun-is) ∙ refused)
    ∙ ap (λ f. Err (script_cause_of f)) same)

-- the movie of a script whose lines were run
run_and_ended : (script : List ℕ) (writer next : WriterState)
    → writer ≡ standard_writer → run_all script writer ≡ Ok next
    → movie_made_by script ≡ ended_movie next
run_and_ended script writer next begun-is run =
    ap (λ (r : Result WriterState ScriptCause). r >>= ended_movie) (ap (run_all script) (sym begun-is) ∙ run)

-- a movie whose end has no cause is ended
pub ended_for_none : (next : WriterState) → end_cause next ≡ None → ended_movie next ≡ Ok (whole_of (with_end next))
ended_for_none next is =
    ap (λ (why : Option Cause). elim why [ None ↦ Ok (whole_of (with_end next)) | Some c ↦ Err (at_end c) ]) is

-- and any other is refused for it
pub ended_for_cause : (next : WriterState) (cause : Cause) → end_cause next ≡ Some cause
    → ended_movie next ≡ Err (at_end cause)
ended_for_cause next cause is =
    ap (λ (why : Option Cause). elim why [ None ↦ Ok (whole_of (with_end next)) | Some c ↦ Err (at_end c) ]) is

-- the same where the end is refused, for this cause
end_refused_for : (next : WriterState) (e : Error) (cause : Option Cause)
    → end_cause next ≡ cause → AnswersCause {X = Unit {0}} cause (Err e)
    → (e ≡ OutOfMemory) ⊎ (ended_movie next ≡ Err (at_end (cause_of e)))
end_refused_for next e None is answers = inl answers
end_refused_for next e (Some cause) is answers =
    inr (ended_for_cause next cause is ∙ ap (λ c. Err (at_end c)) answers)

or_at_end : (script : List ℕ) (next : WriterState) (e : Error) → movie_made_by script ≡ ended_movie next
    → (e ≡ OutOfMemory) ⊎ (ended_movie next ≡ Err (at_end (cause_of e)))
    → RanOut script (End e) ⊎ (movie_made_by script ≡ Err (at_end (cause_of e)))
or_at_end script next e made (inl memory) = inl (inl (ap End memory))
or_at_end script next e made (inr refused) = inr (made ∙ refused)

-- where the end is refused, so is the movie
pub end_is_refused : (script : List ℕ) (writer next : WriterState) (e : Error)
    → writer ≡ standard_writer → run_all script writer ≡ Ok next
    → AnswersCause {X = Unit {0}} (end_cause next) (Err e)
    → RanOut script (End e) ⊎ (movie_made_by script ≡ Err (at_end (cause_of e)))
end_is_refused script writer next e begun-is run answers =
    or_at_end script next e
    (run_and_ended script writer next begun-is run)
    (end_refused_for next e (end_cause next) refl answers)

-- an end that is Ok has no cause
ended_ok : (next : WriterState) (cause : Option Cause)
    → end_cause next ≡ cause → AnswersCause {X = Unit {0}} cause (Ok tt)
    → ended_movie next ≡ Ok (whole_of (with_end next))
ended_ok next None is answers = ended_for_none next is
ended_ok next (Some cause) is answers = absurd answers

-- where the end is Ok, its bytes are the movie
pub end_is_ok : (script : List ℕ) (writer next ended : WriterState) (bytes : List ℕ)
    → writer ≡ standard_writer → run_all script writer ≡ Ok next → AnswersCause {X = Unit {0}} (end_cause next) (Ok tt)
    → ended ≡ with_end next → bytes ≡ whole_of ended
    → movie_made_by script ≡ Ok bytes
end_is_ok script writer next ended bytes begun-is run answers end-is bytes-are =
    run_and_ended script writer next begun-is run
    ∙ ended_ok next (end_cause next) refl answers
    ∙ ap Ok (sym (bytes-are ∙ ap whole_of end-is))

-- and there is no cause to refuse it
pub no_cause : (cause : Option Cause) → AnswersCause {X = Unit {0}} cause (Ok tt) → cause ≡ None
no_cause None answers = refl
no_cause (Some c) answers = absurd answers
