use Rattle.std.proofs.Common.{◌≡◌, ◌+◌, [], arith, sym}
use Rattle.std.proofs.lemmas.Bool.{eqb-true}
use Rattle.std.proofs.lemmas.List.{nil_from_length}
use Rattle.mp4_mux.proofs.ColumnLaws.{last-small, longer-column, values-longer, replicate-next}
use Rattle.mp4_mux.proofs.column.Column.push.Goals as goal

pub overflow_add-self : goal.overflow_add-self
overflow_add-self g c =
    omega (
      arith,
      last-small c.self.inside.runs.items c.self.inside.last c.self.inside.each.items c.self.inside.len c.self.invariant,
      c.self.invariant.counted,
      rw (← c.self.view_is) at c.requires,
    )

pub invariant_of-self : goal.invariant_of-self
invariant_of-self g c =
    let w = c.self.inside in
    let none : w.each.items ≡ [] =
    nil_from_length w.each.items (omega (arith, eqb-true _ _ (sym c.if-is_empty.ensures), w.each.ok.0)) in
    rw none
    (longer-column w.runs.items w.last w.len (rw none at c.self.invariant)
    (record { count = w.last.count + 1; value = w.last.value }) c.args.value
    (replicate-next w.last c.args.value (g.met.T.ExactEq.exact w.last.value c.args.value (sym c.if-eq.ensures)))
    (omega arith))

pub returns-then-eq-clause-ok : goal.returns-then-eq-clause-ok
returns-then-eq-clause-ok g c =
    let w = c.self.inside in
    let none : w.each.items ≡ [] =
    nil_from_length w.each.items (omega (arith, eqb-true _ _ (sym c.if-is_empty.ensures), w.each.ok.0)) in
    rw (← c.self.view_is, none)
    (values-longer w.runs.items w.last c.args.value (record { count = w.last.count + 1; value = w.last.value })
    (replicate-next w.last c.args.value (g.met.T.ExactEq.exact w.last.value c.args.value (sym c.if-eq.ensures))))
