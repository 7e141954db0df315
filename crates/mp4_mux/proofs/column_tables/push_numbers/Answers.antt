use Rattle.std.proofs.Common.{◌≡◌, ◌+◌, ◌++◌, [], ◌∷◌, ◌∙◌, ap, sym, append_assoc, replicate, true, arith, List, ℕ}
use Rattle.std.proofs.lemmas.List.{append-nil}
use Rattle.mp4_mux.specs.ColumnTables.{true_numbers_from}
use Rattle.mp4_mux.proofs.ColumnRuns.{numbers-nil, numbers-push}
use Rattle.mp4_mux.proofs.column_tables.push_numbers.Goals as goal

pub loop-k-init : goal.loop-k-init
loop-k-init c =
    let old = c.args.numbers.now.items in
    sym (ap (λ (ns : List ℕ). old ++ ns) (numbers-nil (c.args.before + 1)) ∙ append-nil old)

pub loop-k-preserved : goal.loop-k-preserved
loop-k-preserved c =
    let old = c.args.numbers.now.items in
    let first = c.args.before + 1 in
    let k = c.loop-k.k in
    let at : c.args.before + k + 1 ≡ first + k = omega arith in
    c.in_ok-push.ensures.items
    ∙ ap (λ (ns : List ℕ). ns ++ (c.args.before + k + 1) ∷ []) c.loop-k.invariant
    ∙ append_assoc old (true_numbers_from first (replicate k true)) ((c.args.before + k + 1) ∷ [])
    ∙ ap (λ (n : ℕ). old ++ (true_numbers_from first (replicate k true) ++ n ∷ [])) at
    ∙ ap (λ (ns : List ℕ). old ++ ns) (numbers-push first k)
