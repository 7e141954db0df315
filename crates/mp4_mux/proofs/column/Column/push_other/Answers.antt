use Rattle.std.proofs.Common.{◌≡◌, [], arith, sym}
use Rattle.std.proofs.lemmas.Bool.{eqb-true, eqb-false}
use Rattle.std.proofs.lemmas.List.{nil_from_length}
use Rattle.mp4_mux.specs.Columns.{one_run}
use Rattle.mp4_mux.proofs.ColumnLaws.{each-column, longer-column, run-column, values-each, values-longer, values-run}
use Rattle.mp4_mux.proofs.ColumnLaws.{length-values_in, replicate-first}
use Rattle.mp4_mux.proofs.column.Column.push_other.Goals as goal

pub invariant_of-self-then-not-is_empty : goal.invariant_of-self-then-not-is_empty
invariant_of-self-then-not-is_empty g c =
    rw c.in_ok-push.ensures.items
    (each-column c.self.inside.runs.items c.self.inside.last c.self.inside.each.items c.self.inside.len c.self.invariant
    c.args.value
    (c.self.invariant.some_at_end (omega (
      arith,
      c.self.invariant.counted,
      length-values_in c.self.inside.runs.items c.self.inside.last c.self.inside.each.items,
      eqb-false _ _ (sym c.if-not-is_empty.ensures),
      c.self.inside.each.ok.0,
    ))))

pub returns-then-not-is_empty-clause-ok : goal.returns-then-not-is_empty-clause-ok
returns-then-not-is_empty-clause-ok g c =
    rw (← c.self.view_is, c.in_ok-push.ensures.items)
    (values-each c.self.inside.runs.items c.self.inside.last c.args.value c.self.inside.each.items)

pub invariant_of-self-then-self-eq0 : goal.invariant_of-self-then-self-eq0
invariant_of-self-then-self-eq0 g c =
    let w = c.self.inside in
    let none : w.each.items ≡ [] =
    nil_from_length w.each.items (omega (arith, eqb-true _ _ (sym c.if-not-is_empty.ensures), w.each.ok.0)) in
    rw none
    (longer-column w.runs.items w.last w.len (rw none at c.self.invariant) (one_run c.args.value) c.args.value
    (replicate-first w.last c.args.value c.if-self-eq0.true) (omega arith))

pub returns-then-self-eq0-clause-ok : goal.returns-then-self-eq0-clause-ok
returns-then-self-eq0-clause-ok g c =
    let w = c.self.inside in
    let none : w.each.items ≡ [] =
    nil_from_length w.each.items (omega (arith, eqb-true _ _ (sym c.if-not-is_empty.ensures), w.each.ok.0)) in
    rw (← c.self.view_is, none)
    (values-longer w.runs.items w.last c.args.value (one_run c.args.value)
    (replicate-first w.last c.args.value c.if-self-eq0.true))

pub invariant_of-self-then-are_varied : goal.invariant_of-self-then-are_varied
invariant_of-self-then-are_varied g c =
    rw c.in_ok-push-2.ensures.items
    (each-column c.self.inside.runs.items c.self.inside.last c.self.inside.each.items c.self.inside.len c.self.invariant
    c.args.value (omega arith))

pub returns-then-are_varied-clause-ok : goal.returns-then-are_varied-clause-ok
returns-then-are_varied-clause-ok g c =
    rw (← c.self.view_is, c.in_ok-push-2.ensures.items)
    (values-each c.self.inside.runs.items c.self.inside.last c.args.value c.self.inside.each.items)

pub invariant_of-self-2 : goal.invariant_of-self-2
invariant_of-self-2 g c =
    let none : c.self.inside.each.items ≡ [] =
    nil_from_length c.self.inside.each.items (omega (arith, eqb-true _ _ (sym c.if-not-is_empty.ensures), c.self.inside.each.ok.0)) in
    rw (c.in_ok-push-3.ensures.items, none)
    (run-column c.self.inside.runs.items c.self.inside.last c.self.inside.len (rw none at c.self.invariant)
    c.args.value (omega arith))

pub returns-clause-ok : goal.returns-clause-ok
returns-clause-ok g c =
    let none : c.self.inside.each.items ≡ [] =
    nil_from_length c.self.inside.each.items (omega (arith, eqb-true _ _ (sym c.if-not-is_empty.ensures), c.self.inside.each.ok.0)) in
    rw (← c.self.view_is, c.in_ok-push-3.ensures.items, none)
    (values-run c.self.inside.runs.items c.self.inside.last c.args.value)
