-- The steps of the lines of a script.
use Rattle.std.proofs.Common.{◌≡◌, ◌⊎◌, inl, inr, ℕ, ◌+◌, ◌<◌, ◌≤◌, List, [], ◌∷◌, ◌++◌, length, get_or, take, drop}
use Rattle.std.proofs.Common.{Result, Ok, Err, refl, sym, ap, subst, ◌∙◌, arith}
use Rattle.std.proofs.lemmas.List.{take_more, drop_more, take_all, take-append-drop, length-take-le, length-drop}
use Rattle.mp4_media.specs.Writing.{WriterState}
use Rattle.mp4_script.specs.declared.script.ScriptFault.{ScriptFault}
use Rattle.mp4_script.specs.Lines.{lines_of}
use Rattle.mp4_script.specs.Script.{ScriptCause, script_cause_of, line_step, run_from, run_all, RanOutAt, RanOutIn}
use Rattle.mp4_script.specs.Script.{AnswersScript, ◌>>=◌}

-- The lines of a script, of which so many were run.
module _ (n : ℕ) (lines others : List (List ℕ)) (line : List ℕ) (left : drop n lines ≡ line ∷ others) where
  -- one more is there
  pub one_more : n < length lines
  one_more = omega (arith, ap length left, length-drop n lines)

  same : get_or lines n line ∷ drop (n + 1) lines ≡ line ∷ others
  same = sym (drop_more lines n line one_more) ∙ left

  rest : List (List ℕ) → List (List ℕ)
  rest [] = []
  rest (x ∷ xs) = xs

  pub lines_after : drop (n + 1) lines ≡ others
  unfolding rest
  lines_after = ap rest same

  pub line_before : take (n + 1) lines ≡ take n lines ++ line ∷ []
  line_before =
      take_more lines n line one_more
      ∙ ap (λ (x : List ℕ). take n lines ++ x ∷ []) (ap (λ (xs : List (List ℕ)). get_or xs 0 line) same)

  pub so_many : length (take n lines) ≡ n
  so_many = length-take-le n lines (omega (arith, one_more))

-- after the last line nothing is run
pub then-nothing : (number : ℕ) (r : Result WriterState ScriptCause) → (r >>= run_from number []) ≡ r
unfolding run_from
then-nothing number (Ok w) = refl
then-nothing number (Err c) = refl

-- lines that were run, and one more
pub run_more : (number : ℕ) (before : List (List ℕ)) (line : List ℕ) (others : List (List ℕ))
    (writer next : WriterState)
    → run_from number before writer ≡ Ok next
    → run_from number (before ++ line ∷ others) writer
    ≡ (line_step (number + length before) line next >>= run_from (number + length before + 1) others)
unfolding run_from
run_more number [] line others writer next e =
    let same : writer ≡ next = cc in
    let first : number + 0 ≡ number = omega arith in
    rw (first, same) refl
run_more number (l ∷ ls) line others writer next e =
    by (λ w f. run_more (number + 1) ls line others w next f) (line_step number l writer) e
  where
    by : ((w : WriterState) → run_from (number + 1) ls w ≡ Ok next
        → run_from (number + 1) (ls ++ line ∷ others) w
        ≡ (line_step (number + 1 + length ls) line next >>= run_from (number + 1 + length ls + 1) others))
        → (r : Result WriterState ScriptCause) → (r >>= run_from (number + 1) ls) ≡ Ok next
        → (r >>= run_from (number + 1) (ls ++ line ∷ others))
        ≡ (line_step (number + length (l ∷ ls)) line next >>= run_from (number + length (l ∷ ls) + 1) others)
    by rest (Ok w) f =
        let further : number + 1 + length ls ≡ number + length (l ∷ ls) = omega arith in
        rest w f ∙ ap (λ m. line_step m line next >>= run_from (m + 1) others) further
    by rest (Err c) f = absurd cc

-- The lines of a script up to one of them.
module _ (script : List ℕ) (n : ℕ) (others : List (List ℕ)) (line : List ℕ) (begun writer : WriterState)
    (left : drop n (lines_of script) ≡ line ∷ others) (ran : run_from 1 (take n (lines_of script)) begun ≡ Ok writer)
  where
    abbrev lines : List (List ℕ)
    lines = lines_of script

    number : 1 + length (take n lines) ≡ n + 1
    number = omega (arith, so_many n lines others line left)

    all : lines ≡ take n lines ++ line ∷ others
    all = sym (take-append-drop n lines) ∙ ap (λ (xs : List (List ℕ)). take n lines ++ xs) left

    -- where the line is run, so are all up to it
    pub line_is_run : (next : WriterState) → line_step (n + 1) line writer ≡ Ok next
        → run_from 1 (take (n + 1) lines) begun ≡ Ok next
    line_is_run next ok =
        ap (λ (ls : List (List ℕ)). run_from 1 ls begun) (line_before n lines others line left)
        ∙ run_more 1 (take n lines) line [] begun writer ran
        ∙ then-nothing (1 + length (take n lines) + 1) (line_step (1 + length (take n lines)) line writer)
        ∙ ap (λ m. line_step m line writer) number
        ∙ ok

    stops : (cause : ScriptCause) → line_step (n + 1) line writer ≡ Err cause → run_all script begun ≡ Err cause
    stops cause fault =
        ap (λ (ls : List (List ℕ)). run_from 1 ls begun) all
        ∙ run_more 1 (take n lines) line others begun writer ran
        ∙ ap (λ (s : Result WriterState ScriptCause). s >>= run_from (1 + length (take n lines) + 1) others)
        (ap (λ m. line_step m line writer) number ∙ fault)

    -- where it is refused, so is the script
    pub line_is_refused : {X : Type 0} (fault : ScriptFault) (view : X → WriterState) (result : Result X ScriptFault)
        → result ≡ Err fault → RanOutAt (n + 1) line fault
        ⊎ (line_step (n + 1) line writer ≡ Err (script_cause_of fault))
        → AnswersScript (RanOutIn script begun) view result (run_all script begun)
    line_is_refused fault view (Ok x) is answers = absurd cc
    line_is_refused fault view (Err e) is (inl ran_out) =
        let is_that : fault ≡ e = cc in
        let count : n + 1 ≡ length (take n lines) + 1 = omega (arith, number) in
        inl (record {
          before = take n lines;
          line = line;
          after = others;
          next = writer;
          lines = all;
          run = ran;
          ran_out = subst (λ m. RanOutAt m line e) count (subst (RanOutAt (n + 1) line) is_that ran_out);
        })
    line_is_refused fault view (Err e) is (inr at_fault) =
        let is_that : fault ≡ e = cc in
        inr (stops (script_cause_of fault) at_fault ∙ ap (λ f. Err (script_cause_of f)) is_that)

-- after the last line all lines were run
pub all_are_run : (script : List ℕ) (n : ℕ) (begun writer : WriterState) → drop n (lines_of script) ≡ []
    → run_from 1 (take n (lines_of script)) begun ≡ Ok writer → run_all script begun ≡ Ok writer
all_are_run script n begun writer left ran =
    let past : length (lines_of script) ≤ n = omega (arith, ap length left, length-drop n (lines_of script)) in
    ap (λ (ls : List (List ℕ)). run_from 1 ls begun) (sym (take_all n (lines_of script) past)) ∙ ran
