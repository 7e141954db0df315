-- A script that is written part by part to a writer of a sink.
use Rattle.std.proofs.Common.{◌≡◌, ◌⊎◌, inl, inr, ℕ, ◌+◌, ◌-◌, ◌^◌, ◌<◌, List, [], ◌∷◌, ◌++◌, length, Option, Some}
use Rattle.std.proofs.Common.{None, Result, Ok, Err, refl, sym, ap, subst, ◌∙◌, append_assoc, append-nil, length-append}
use Rattle.std.proofs.Common.{arith}
use Rattle.std.specs.Prelude.{Bool, IfSome, IfErr, OnOk}
use Rattle.mp4_media.specs.Error.TheVariants.{OutOfMemory}
use Rattle.mp4_media.specs.Cause.{Cause}
use Rattle.mp4_media.specs.WriterAnswers.{RefusesWrite}
use Rattle.mp4_media.specs.WriterFields.{KeptMovie, MayHold}
use Rattle.mp4_media.specs.Writing.{WriterState, with_end, end_cause, whole_of}
use Rattle.mp4_media.specs.declared.write_error.WriteError.{WriteError}
use Rattle.mp4_media.specs.declared.write_error.WriteError.TheVariants.{Mp4, Io, Failed}
use Rattle.mp4_media.proofs.WritingToSinks.{counted_whole, known_whole}
use Rattle.mp4_script.specs.Lines.{lines_of}
use Rattle.mp4_script.specs.Script.{ScriptCause, script_cause_of, at_end, line_step, run_from, run_all, ended_movie}
use Rattle.mp4_script.specs.Script.{RanOutAt}
use Rattle.mp4_script.specs.Script.{◌>>=◌}
use Rattle.mp4_script.specs.ScriptSink.{AnswersInSink, MayRefuse, IsToldAs, IsToldIn, next_number, IsAfter, IsReached}
use Rattle.mp4_script.specs.ScriptSink.{IsFirstFault, IsFirstRefusal, IsEndRefusal, AnswersPart, AnswersEnd}
use Rattle.mp4_script.specs.ScriptSink.{RanOutOfMemory}
use Rattle.mp4_script.specs.declared.script.ScriptFault.{ScriptFault}
use Rattle.mp4_script.specs.declared.script.ScriptFault.TheVariants.{Refused, End}
use Rattle.mp4_script.specs.declared.script_writer.ScriptWriteFault.{ScriptWriteFault}
use Rattle.mp4_script.specs.declared.script_writer.ScriptWriteFault.TheVariants.{Script, Sink}
use Rattle.mp4_script.proofs.Cutting.{count-lines}
use Rattle.mp4_script.proofs.Parts.{lines_go_on, is_unended, first_line_joins, some-lines}
use Rattle.mp4_script.proofs.Standard.{ended_for_none, ended_for_cause}
use Rattle.mp4_script.proofs.Steps.{run_more, then-nothing}

-- While a part is written: the lines that ended so far were run, and what is kept begins the first line of the rest.
pub record GoesOn (text : List ℕ) (begun : WriterState) (writer : KeptMovie) (count : ℕ) (kept rest : List ℕ) : Type 0 where
  pub lines : List (List ℕ)
  pub cut : lines_of text ≡ lines ++ lines_of (kept ++ rest)
  pub unended : lines_of kept ≡ kept ∷ []
  pub next : WriterState
  pub run : run_from 1 lines begun ≡ Ok next
  pub may_hold : MayHold writer next
  pub counted : count ≡ length lines

pub begins : (script part : List ℕ) (begun : WriterState) (writer : KeptMovie) (count : ℕ) (kept : List ℕ)
    → IsAfter script begun writer count kept → GoesOn (script ++ part) begun writer count kept part
begins script part begun writer count kept a = record {
  lines = a.lines;
  cut = lines_go_on script part a.lines kept a.cut;
  unended = is_unended script a.lines kept a.cut;
  next = a.next;
  run = a.run;
  may_hold = a.may_hold;
  counted = a.counted;
}

-- a line after those that were run
run_one_more : (lines : List (List ℕ)) (line : List ℕ) (begun next : WriterState) (number : ℕ) → number ≡ length lines + 1
    → run_from 1 lines begun ≡ Ok next → run_from 1 (lines ++ line ∷ []) begun ≡ line_step number line next
run_one_more lines line begun next number is ran =
    let same : 1 + length lines ≡ number = omega (arith, is) in
    run_more 1 lines line [] begun next ran
    ∙ then-nothing (1 + length lines + 1) (line_step (1 + length lines) line next)
    ∙ ap (λ m. line_step m line next) same

module _ (text : List ℕ) (begun : WriterState) (writer : KeptMovie) (count : ℕ) (kept rest : List ℕ)
    (g : GoesOn text begun writer count kept rest) (short : length text < 2 ^ 64 - 1)
  where
    -- a number of 64 bits says the next line
    pub number_is : next_number count ≡ length g.lines + 1
    number_is =
        omega (
          arith,
          g.counted,
          short,
          count-lines text,
          ap length g.cut,
          length-append g.lines (lines_of (kept ++ rest)),
          some-lines (kept ++ rest),
        )

    module _ (line after : List ℕ) (is : lines_of rest ≡ line ∷ lines_of after) where
      first_is : lines_of (kept ++ rest) ≡ (kept ++ line) ∷ lines_of after
      first_is = first_line_joins kept rest line (lines_of after) g.unended is

      all : lines_of text ≡ g.lines ++ (kept ++ line) ∷ lines_of after
      all = g.cut ∙ ap (λ (ls : List (List ℕ)). g.lines ++ ls) first_is

      empty : (none : List ℕ) → none ≡ [] → lines_of none ≡ none ∷ []
      unfolding lines_of
      empty none e = rw e refl

      -- where the first line of the rest was run, the rest is what is after it
      pub goes_on : (later : KeptMovie) (number : ℕ) (none : List ℕ) → none ≡ [] → number ≡ next_number count
          → (next : WriterState) → line_step (next_number count) (kept ++ line) g.next ≡ Ok next → MayHold later next
          → GoesOn text begun later number none after
      goes_on later number none e same next ok may = record {
        lines = g.lines ++ (kept ++ line) ∷ [];
        cut =
            all ∙ sym (append_assoc g.lines ((kept ++ line) ∷ []) (lines_of after))
            ∙ ap (λ (x : List ℕ). (g.lines ++ (kept ++ line) ∷ []) ++ lines_of (x ++ after)) (sym e);
        unended = empty none e;
        next = next;
        run = run_one_more g.lines (kept ++ line) begun g.next (next_number count) number_is g.run ∙ ok;
        may_hold = may;
        counted = omega (arith, same, number_is, length-append g.lines ((kept ++ line) ∷ []));
      }

      reached : IsReached text begun (next_number count) (kept ++ line) (length (lines_of after)) g.next
      reached = record {
        before = g.lines;
        after = lines_of after;
        lines = all;
        run = g.run;
        counted = number_is;
        others = refl;
      }

      -- where it isn't run, it is the first that is at fault, or at which the sink refused
      pub fault_is_told : (X : Type 0) (later : KeptMovie) (can_refuse : Bool) → writer.media.can_refuse ≡ can_refuse
          → (e : ScriptWriteFault)
          → AnswersInSink {X = X} (λ fault. fault ≡ Refused (next_number count) OutOfMemory)
          (MayRefuse writer.media.can_refuse writer.media.len) later (Err e)
          (line_step (next_number count) (kept ++ line) g.next)
          → IsToldIn e (IsFirstFault text begun) (IsFirstRefusal text begun can_refuse)
      fault_is_told X later can_refuse same (Script fault) a = record {
        number = next_number count;
        line = kept ++ line;
        more = length (lines_of after);
        next = g.next;
        reached = reached;
        cause = by a;
      }
        where
          by : (fault ≡ Refused (next_number count) OutOfMemory)
              ⊎ (line_step (next_number count) (kept ++ line) g.next ≡ Err (script_cause_of fault))
              → (fault ≡ Refused (next_number count) OutOfMemory)
              ⊎ ((0 < length (lines_of after))
              × (line_step (next_number count) (kept ++ line) g.next ≡ Err (script_cause_of fault)))
          by (inl memory) = inl memory
          by (inr refused) = inr (omega (arith, some-lines after), refused)
      fault_is_told X later can_refuse same (Sink e) a = record {
        number = next_number count;
        line = kept ++ line;
        more = length (lines_of after);
        next = g.next;
        reached = reached;
        later = a.1.0;
        no_fault = a.1.1;
        may_refuse = same_refusal can_refuse same a.0;
      }
        where
          same_refusal : (c : Bool) → writer.media.can_refuse ≡ c → MayRefuse writer.media.can_refuse writer.media.len
              → MayRefuse c (length (whole_of g.next))
          same_refusal c is may =
              subst (λ (b : Bool). MayRefuse b (length (whole_of g.next))) is
              (subst (λ (n : ℕ). MayRefuse writer.media.can_refuse n) (counted_whole writer g.next g.may_hold) may)

    module _ (is : lines_of rest ≡ rest ∷ []) where
      last_is : lines_of text ≡ g.lines ++ (kept ++ rest) ∷ []
      last_is = g.cut ∙ ap (λ (ls : List (List ℕ)). g.lines ++ ls) (first_line_joins kept rest rest [] g.unended is)

      -- what has no line feed is kept
      pub is_kept : (later : KeptMovie) (number : ℕ) (more : List ℕ) → more ≡ kept ++ rest → later ≡ writer
          → number ≡ count → IsAfter text begun later number more
      is_kept later number more e same counted = record {
        lines = g.lines;
        cut = last_is ∙ ap (λ (x : List ℕ). g.lines ++ x ∷ []) (sym e);
        next = g.next;
        run = g.run;
        may_hold = subst (λ (w : KeptMovie). MayHold w g.next) (sym same) g.may_hold;
        counted = counted ∙ g.counted;
      }

      -- or memory runs out for it
      pub is_not_kept : (e : ScriptWriteFault) → e ≡ Script (Refused (next_number count) OutOfMemory)
          → (P : Type 0) → IsToldIn e (IsFirstFault text begun) P
      is_not_kept e memory P = rw memory (record {
        number = next_number count;
        line = kept ++ rest;
        more = 0;
        next = g.next;
        reached = record {
          before = g.lines;
          after = [];
          lines = last_is;
          run = g.run;
          counted = number_is;
          others = refl;
        };
        cause = inl refl;
      })

      -- so what is kept answers the part
      pub kept_answers : {X : Type 0} (result : Result X ScriptWriteFault) (later : KeptMovie) (number : ℕ)
          (more : List ℕ) → OnOk result (more ≡ kept ++ rest)
          → IfErr result (λ e. e ≡ Script (Refused (next_number count) OutOfMemory)) → later ≡ writer
          → number ≡ count → AnswersPart text begun later number more result
      kept_answers (Ok x) later number more is memory same counted = is_kept later number more is same counted
      kept_answers (Err e) later number more is memory same counted = is_not_kept e memory _

-- before its first part nothing of a script was written
pub nothing_yet : (begun : WriterState) (writer : KeptMovie) → MayHold writer begun → (kept : List ℕ) → kept ≡ []
    → IsAfter [] begun writer 0 kept
unfolding lines_of run_from
nothing_yet begun writer may kept none = record {
  lines = [];
  cut = rw none refl;
  next = begun;
  run = refl;
  may_hold = may;
  counted = refl;
}

-- a movie that isn't begun, for no cause
pub start_is_told : (P : Type 0) (cause : Option Cause) → cause ≡ None → (e : WriteError) (fault : ScriptWriteFault)
    → IsToldAs (λ e. End e) e fault → RefusesWrite P cause e → IsToldIn fault (λ f. f ≡ End OutOfMemory) P
start_is_told P cause none e fault told refuses =
    by e fault told (subst (λ (c : Option Cause). RefusesWrite P c e) none refuses)
  where
    by : (e : WriteError) (fault : ScriptWriteFault) → IsToldAs (λ e. End e) e fault → RefusesWrite P None e
        → IsToldIn fault (λ f. f ≡ End OutOfMemory) P
    by (Mp4 e) (Script f) told memory = told ∙ ap End memory
    by (Mp4 e) (Sink x) told memory = absurd told
    by (Io e) (Script f) told may = absurd told
    by (Io e) (Sink x) told may = may
    by Failed (Script f) told never = absurd told
    by Failed (Sink x) told never = absurd never

-- out of memory in the call of a line, or for the line
pub as_memory : {X : Type 0} (number : ℕ) (line : List ℕ) (P : Type 0) (after : KeptMovie)
    (result : Result X ScriptWriteFault) (answer : Result WriterState ScriptCause)
    → AnswersInSink (RanOutAt number line) P after result answer
    → AnswersInSink (λ fault. fault ≡ Refused number OutOfMemory) P after result answer
as_memory number line P after (Ok x) answer a = a
as_memory number line P after (Err (Script fault)) answer (inl ran_out) = inl ran_out.1
as_memory number line P after (Err (Script fault)) answer (inr refused) = inr refused
as_memory number line P after (Err (Sink e)) answer a = a

-- The end of a script of which all was written.
module _ (script : List ℕ) (begun : WriterState) (writer : KeptMovie) (count : ℕ) (kept : List ℕ)
    (a : IsAfter script begun writer count kept) (short : length script < 2 ^ 64 - 1)
  where
    number_is_last : next_number count ≡ length a.lines + 1
    number_is_last =
        omega (
          arith,
          a.counted,
          short,
          count-lines script,
          ap length a.cut,
          length-append a.lines (kept ∷ []),
        )

    whole : kept ++ [] ≡ kept
    whole = append-nil kept

    -- the last line is the last step
    run_is : run_all script begun ≡ line_step (next_number count) (kept ++ []) a.next
    run_is =
        ap (λ (ls : List (List ℕ)). run_from 1 ls begun) a.cut
        ∙ run_one_more a.lines kept begun a.next (next_number count) number_is_last a.run
        ∙ ap (λ (l : List ℕ). line_step (next_number count) l a.next) (sym whole)

    -- where the last line is at fault, so is the script; or the sink refused at it
    pub last_is_told : (X : Type 0) {S : Type 0} (later : KeptMovie) (contents : S → Option (List ℕ)) (len : S → ℕ)
        (e : ScriptWriteFault)
        → AnswersInSink {X = X} (λ fault. fault ≡ Refused (next_number count) OutOfMemory)
        (MayRefuse writer.media.can_refuse writer.media.len) later (Err e)
        (line_step (next_number count) (kept ++ []) a.next)
        → AnswersEnd script begun contents len writer.media.can_refuse (Err e)
    last_is_told X later contents len (Script fault) (inl memory) = inl (inr (next_number count, memory))
    last_is_told X later contents len (Script fault) (inr refused) =
        inr (ap (λ (r : Result WriterState ScriptCause). r >>= ended_movie) (run_is ∙ refused))
    last_is_told X later contents len (Sink e) told =
        inl (record {
          number = next_number count;
          line = kept;
          more = 0;
          next = a.next;
          reached = record {
            before = a.lines;
            after = [];
            lines = a.cut;
            run = a.run;
            counted = number_is_last;
            others = refl;
          };
          later = told.1.0;
          no_fault = ap (λ (l : List ℕ). line_step (next_number count) l a.next) (sym whole) ∙ told.1.1;
          may_refuse =
              subst (λ (n : ℕ). MayRefuse writer.media.can_refuse n) (counted_whole writer a.next a.may_hold) told.0;
        })

    module _ (next : WriterState) (ok : line_step (next_number count) (kept ++ []) a.next ≡ Ok next) where
      made_is : (run_all script begun >>= ended_movie) ≡ ended_movie next
      made_is = ap (λ (r : Result WriterState ScriptCause). r >>= ended_movie) (run_is ∙ ok)

      -- where the movie is ended, the sink has its bytes
      pub movie_is_there : {S : Type 0} (contents : S → Option (List ℕ)) (len : S → ℕ) (sink : S)
          → end_cause next ≡ None → (ended : KeptMovie) → MayHold ended (with_end next)
          → contents sink ≡ ended.media.contents → len sink ≡ ended.media.len
          → AnswersEnd script begun contents len writer.media.can_refuse (Ok sink)
      movie_is_there contents len sink none ended may held counted = (
        whole_of (with_end next),
        made_is ∙ ended_for_none next none,
        counted ∙ counted_whole ended (with_end next) may,
        by (contents sink) held,
      )
        where
          by : (found : Option (List ℕ)) → found ≡ ended.media.contents
              → IfSome found (λ (bytes : List ℕ). bytes ≡ whole_of (with_end next))
          by None e = tt
          by (Some bytes) e = known_whole ended (with_end next) bytes may (sym e)

      -- where it isn't, its cause is the answer, or the sink refused
      pub end_is_told : {S : Type 0} (contents : S → Option (List ℕ)) (len : S → ℕ) (last : KeptMovie)
          → MayHold last next → last.media.can_refuse ≡ writer.media.can_refuse → (e : WriteError)
          (fault : ScriptWriteFault) → IsToldAs (λ e. End e) e fault
          → RefusesWrite (MayRefuse last.media.can_refuse last.media.len) (end_cause next) e
          → AnswersEnd script begun contents len writer.media.can_refuse (Err fault)
      end_is_told contents len last may same (Mp4 e) (Script fault) told refuses = by (end_cause next) refl refuses
        where
          by : (cause : Option Cause) → end_cause next ≡ cause
              → RefusesWrite (MayRefuse last.media.can_refuse last.media.len) cause (Mp4 e)
              → RanOutOfMemory fault
              ⊎ ((run_all script begun >>= ended_movie) ≡ Err (script_cause_of fault))
          by None none memory = inl (inl (told ∙ ap End memory))
          by (Some c) some is =
              inr (made_is ∙ ended_for_cause next c some ∙ ap (λ (x : Cause). Err (at_end x)) is
              ∙ ap (λ (f : ScriptFault). Err (script_cause_of f)) (sym told))
      end_is_told contents len last may same (Mp4 e) (Sink x) told refuses = absurd told
      end_is_told contents len last may same (Io e) (Script fault) told refuses = absurd told
      end_is_told contents len last may same (Io e) (Sink x) told refuses = inr (by (end_cause next) refl refuses)
        where
          by : (cause : Option Cause) → end_cause next ≡ cause
              → RefusesWrite (MayRefuse last.media.can_refuse last.media.len) cause (Io e)
              → IsEndRefusal script begun writer.media.can_refuse
          by None none refused = record {
            next = next;
            run = run_is ∙ ok;
            no_fault = none;
            may_refuse =
                subst (λ (b : Bool). MayRefuse b (length (whole_of next))) same
                (subst (λ (n : ℕ). MayRefuse last.media.can_refuse n) (counted_whole last next may) refused);
          }
          by (Some c) some never = absurd never
      end_is_told contents len last may same Failed (Script fault) told refuses = absurd told
      end_is_told contents len last may same Failed (Sink x) told refuses = absurd (never (end_cause next) refuses)
        where
          never : (cause : Option Cause) → RefusesWrite (MayRefuse last.media.can_refuse last.media.len) cause Failed → ⊥
          never None a = a
          never (Some c) a = a
