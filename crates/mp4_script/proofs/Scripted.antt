-- The calls that the lines of a script name, and what they accept.
use Rattle.std.proofs.Common.{◌≡◌, ◌⊎◌, inl, inr, ℕ, ◌+◌, true, false, eqb, List, [], ◌∷◌, ◌++◌, length, map, Option}
use Rattle.std.proofs.Common.{Some, None}
use Rattle.std.proofs.Common.{Result, Ok, Err, refl, sym, ap, subst, ◌∙◌, true≢false, arith}
use Rattle.std.specs.Prelude.{IfOk}
use Rattle.std.proofs.lemmas.Bool.{eqb-true}
use Rattle.mp4_media.specs.Error.{Error}
use Rattle.mp4_media.specs.Error.TheVariants.{OutOfMemory}
use Rattle.mp4_script.specs.declared.script.ScriptFault.{ScriptFault}
use Rattle.mp4_script.specs.declared.script.ScriptFault.TheVariants.{Refused}
use Rattle.std.specs.List.{AllByRecursion, fold}
use Rattle.mp4_media.specs.Cause.{Cause, AnswersCause}
use Rattle.mp4_media.specs.Writing.{WriterState, AcceptedTrack, with_end, end_cause}
use Rattle.mp4_media.proofs.EndedStates.{all-append}
use Rattle.mp4_media.specs.Calls.{Call, Reply, write_end, step, call_cause, after, Answered, accept, accepted_after}
use Rattle.mp4_media.specs.Calls.{IsInRangeCall, Session, IsAnswered, IsEnded, writer_of, accepted_by}
use Rattle.mp4_media.proofs.CallLaws.{after_one_more, answered_one_more}
use Rattle.mp4_script.specs.Commands.{command_in}
use Rattle.mp4_script.specs.Lines.{lines_of}
use Rattle.mp4_script.specs.Script.{ScriptCause, refused, called, line_step, run_from, run_all, calls_in}
use Rattle.mp4_script.specs.Script.{accepted_by_script}
use Rattle.mp4_script.specs.Script.{standard_config, standard_writer, script_cause_of, RanOutAt, AnswersScript, ◌>>=◌}
use Rattle.mp4_script.specs.Script.{IsFaultOfLine}

-- an empty line is no command
no_command : command_in [] ≡ None
unfolding command_in
no_command = refl

-- and makes no call
pub no_calls : (line : List ℕ) → true ≡ eqb (length line) 0 → AllByRecursion IsInRangeCall (calls_in (line ∷ []))
unfolding calls_in
no_calls [] e =
    subst (λ (o : Option Call).
    AllByRecursion IsInRangeCall (elim o as (λ _. List Call) [ None ↦ [] | Some call ↦ call ∷ [] ]))
    (sym no_command) tt
no_calls (b ∷ bs) e = let none = eqb-true (length (b ∷ bs)) 0 (sym e) in absurd (omega (arith, none))

-- a line that gives no call is at fault
pub no_call : (number : ℕ) (line : List ℕ) → false ≡ eqb (length line) 0 → (fault : ScriptFault)
    → IsFaultOfLine number line fault → (writer : WriterState)
    → RanOutAt number line fault ⊎ (line_step number line writer ≡ Err (script_cause_of fault))
no_call number [] some fault f writer = absurd (true≢false (sym some))
no_call number (b ∷ bs) some fault (inr ran_out) writer = inl ran_out
no_call number (b ∷ bs) some fault (inl none) writer =
    inr (ap (called number writer) none.0 ∙ ap (λ (f : ScriptFault). Err (script_cause_of f)) (sym none.1))

-- The line of this number, which is a command.
module _ (number : ℕ) (line : List ℕ) (call : Call) (some : false ≡ eqb (length line) 0)
    (is : Some call ≡ command_in line) where
  pub its_step : (writer : WriterState) → line_step number line writer ≡ called number writer (Some call)
  its_step writer = by line some is
    where
      by : (ls : List ℕ) → false ≡ eqb (length ls) 0 → Some call ≡ command_in ls
          → line_step number ls writer ≡ called number writer (Some call)
      by [] e f = absurd (true≢false (sym e))
      by (b ∷ bs) e f = ap (called number writer) (sym f)

  -- it answers what its call does
  pub its_answer : {X : Type 0} (writer : WriterState) (view : X → WriterState) (result : Result X ScriptFault)
      → AnswersScript (λ fault. fault ≡ Refused number OutOfMemory) view result (called number writer (Some call))
      → AnswersScript (RanOutAt number line) view result (line_step number line writer)
  its_answer writer view (Ok x) answers = its_step writer ∙ answers
  its_answer writer view (Err fault) (inl memory) = inl ((call, sym is), memory)
  its_answer writer view (Err fault) (inr refusal) = inr (its_step writer ∙ refusal)

  -- and its call is the one of the line
  pub its_call : {X : Type 0} (result : Result X ScriptFault) → IsInRangeCall call
      → IfOk result (λ _. AllByRecursion IsInRangeCall (calls_in (line ∷ [])))
  unfolding calls_in
  its_call (Ok x) fits =
      subst (λ (o : Option Call).
      AllByRecursion IsInRangeCall (elim o as (λ _. List Call) [ None ↦ [] | Some c ↦ c ∷ [] ]))
      is (fits, tt)
  its_call (Err fault) fits = tt

-- A call that was made, or refused.
module _ (number : ℕ) (writer : WriterState) (call : Call) where
  pub call_was_made : (new : WriterState) → AnswersCause {X = Unit {0}} (call_cause writer call) (Ok tt)
      → new ≡ step writer call → called number writer (Some call) ≡ Ok new
  call_was_made new answers is = by (call_cause writer call) answers
    where
      by : (c : Option Cause) → AnswersCause {X = Unit {0}} c (Ok tt)
          → (elim c as (λ _. Result WriterState ScriptCause) [
            | None ↦ Ok (step writer call)
            | Some why ↦ Err (refused number why)
          ]) ≡ Ok new
      by None a = ap Ok (sym is)
      by (Some why) a = absurd a

  pub call_was_refused : (e : Error) → AnswersCause {X = Unit {0}} (call_cause writer call) (Err e)
      → (Refused number e ≡ Refused number OutOfMemory)
      ⊎ (called number writer (Some call) ≡ Err (script_cause_of (Refused number e)))
  call_was_refused e answers = by (call_cause writer call) answers
    where
      by : (c : Option Cause) → AnswersCause {X = Unit {0}} c (Err e)
          → (Refused number e ≡ Refused number OutOfMemory)
          ⊎ ((elim c as (λ _. Result WriterState ScriptCause) [
            | None ↦ Ok (step writer call)
            | Some why ↦ Err (refused number why)
          ]) ≡ Err (script_cause_of (Refused number e)))
      by None memory = inl (ap (λ (x : Error). Refused number x) memory)
      by (Some why) is = inr (ap (λ (x : Cause). Err (refused number x)) is)

-- the calls of lines, and of others after them
pub calls_in-append : (lines others : List (List ℕ)) → calls_in (lines ++ others) ≡ calls_in lines ++ calls_in others
unfolding calls_in
calls_in-append [] others = refl
calls_in-append (line ∷ lines) others = by (calls_in-append lines others) (command_in line)
  where
    by : calls_in (lines ++ others) ≡ calls_in lines ++ calls_in others → (o : Option Call)
        → (elim o as (λ _. List Call)
        [ None ↦ calls_in (lines ++ others) | Some call ↦ call ∷ calls_in (lines ++ others) ])
        ≡ (elim o as (λ _. List Call) [ None ↦ calls_in lines | Some call ↦ call ∷ calls_in lines ]) ++ calls_in others
    by rest None = rest
    by rest (Some call) = ap (λ (cs : List Call). call ∷ cs) rest

-- replies of which each is Ok
abbrev pub all_ok : List Call → List Reply
all_ok calls = map (λ _. Ok tt) calls

-- lines that were run have made their calls, each of which was Ok
pub record HasMade (calls : List Call) (writer next : WriterState) : Type 0 where
  pub is : next ≡ after calls (all_ok calls) writer
  pub answered : Answered calls (all_ok calls) writer

one_made : (call : Call) (calls : List Call) (writer next : WriterState) → call_cause writer call ≡ None
    → HasMade calls (step writer call) next → HasMade (call ∷ calls) writer next
unfolding after Answered
one_made call calls writer next none h =
    record { is = h.is; answered = (subst (λ c. AnswersCause {X = Unit {0}} c (Ok tt)) (sym none) tt, h.answered) }

none_made : (writer next : WriterState) → next ≡ writer → HasMade [] writer next
unfolding after Answered
none_made writer next e = record { is = e; answered = tt }

pub lines_have_called : (number : ℕ) (lines : List (List ℕ)) (writer next : WriterState)
    → run_from number lines writer ≡ Ok next → HasMade (calls_in lines) writer next
unfolding run_from calls_in
lines_have_called number [] writer next e = none_made writer next cc
lines_have_called number ([] ∷ lines) writer next e =
    subst (λ (o : Option Call).
    HasMade (elim o as (λ _. List Call) [ None ↦ calls_in lines | Some call ↦ call ∷ calls_in lines ]) writer next)
    (sym no_command) (lines_have_called (number + 1) lines writer next e)
lines_have_called number ((b ∷ bs) ∷ lines) writer next e =
    by (λ w f. lines_have_called (number + 1) lines w next f) (command_in (b ∷ bs)) e
  where
    by : ((w : WriterState) → run_from (number + 1) lines w ≡ Ok next → HasMade (calls_in lines) w next)
        → (o : Option Call) → (called number writer o >>= run_from (number + 1) lines) ≡ Ok next
        → HasMade (elim o as (λ _. List Call) [ None ↦ calls_in lines | Some call ↦ call ∷ calls_in lines ]) writer next
    by rest None f = absurd cc
    by rest (Some call) f = made (call_cause writer call) refl f
      where
        made : (c : Option Cause) → call_cause writer call ≡ c
            → ((elim c as (λ _. Result WriterState ScriptCause)
            [ None ↦ Ok (step writer call) | Some why ↦ Err (refused number why) ])
            >>= run_from (number + 1) lines) ≡ Ok next
            → HasMade (call ∷ calls_in lines) writer next
        made None is g = one_made call (calls_in lines) writer next is (rest (step writer call) g)
        made (Some why) is g = absurd cc

-- and an end after them accepts nothing
accepts : (calls : List Call) (tracks : List AcceptedTrack)
    → accepted_after (calls ++ write_end ∷ []) (all_ok calls ++ Ok tt ∷ []) tracks ≡ fold accept tracks calls
unfolding accepted_after
accepts [] tracks = refl
accepts (call ∷ calls) tracks = accepts calls (accept tracks call)

-- A script whose lines were run, and whose movie was ended: a session of its calls, and of an end.
module _ (script : List ℕ) (next : WriterState) (run : run_all script standard_writer ≡ Ok next)
    (end : end_cause next ≡ None) (fits : AllByRecursion IsInRangeCall (calls_in (lines_of script))) where
  abbrev calls : List Call
  calls = calls_in (lines_of script)

  abbrev pub session : Session
  session = record {
    front = [];
    config = standard_config;
    calls = calls ++ write_end ∷ [];
    replies = all_ok calls ++ Ok tt ∷ [];
  }

  made : HasMade calls standard_writer next
  made = lines_have_called 1 (lines_of script) standard_writer next run

  pub session-is : writer_of session ≡ with_end next
  session-is =
      after_one_more calls (all_ok calls) standard_writer write_end (Ok tt) made.answered
      ∙ ap with_end (sym made.is)

  answered : IsAnswered session
  answered = record {
    fits = all-append IsInRangeCall calls (write_end ∷ []) fits (tt, tt);
    replies = answered_one_more calls (all_ok calls) standard_writer write_end (Ok tt) made.answered
        (subst (λ (st : WriterState). AnswersCause {X = Unit {0}} (end_cause st) (Ok tt)) made.is
        (subst (λ c. AnswersCause {X = Unit {0}} c (Ok tt)) (sym end) tt));
  }

  pub session-ended : IsEnded session
  session-ended = record { answered = answered; ended = ap (λ (st : WriterState). st.ended) session-is }

  pub session-accepts : accepted_by session ≡ accepted_by_script script
  session-accepts = accepts calls []
