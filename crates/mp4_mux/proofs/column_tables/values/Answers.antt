use Rattle.std.proofs.Common.{◌∙◌, ◌+◌, ◌++◌, ap, sym, append_assoc, replicate, arith, List, ℕ}
use Rattle.std.proofs.lemmas.List.{append-nil}
use Rattle.mp4_mux.proofs.ColumnRuns.{rest, rest-more, rest-end}
use Rattle.mp4_mux.proofs.column_tables.values.Goals as goal

pub loop-i-preserved : goal.loop-i-preserved
loop-i-preserved c =
    let r = c.run_at.result in
    let rs = c.args.column.now in
    rw c.in_ok-push_run.ensures
    (append_assoc c.loop-i.values.items (replicate r.count r.value) (rest rs (c.loop-i.i + 1))
    ∙ ap (λ (xs : List ℕ). c.loop-i.values.items ++ xs)
    (sym (rest-more rs c.loop-i.i r (omega (arith, c.loop-i-test.true, c.run_count-i-end.ensures)) c.run_at.ensures.is))
    ∙ c.loop-i.invariant)

pub returns : goal.returns
returns c =
    sym (ap (λ (xs : List ℕ). c.loop-i.values.items ++ xs)
    (rest-end c.args.column.now c.loop-i.i (omega (arith, c.loop-i-test.false, c.run_count-i-end.ensures)))
    ∙ append-nil c.loop-i.values.items)
    ∙ c.loop-i.invariant
