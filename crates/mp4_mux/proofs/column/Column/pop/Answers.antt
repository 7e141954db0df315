use Rattle.std.proofs.Common.{◌≡◌, ◌-◌, ◌≤◌, ◌<◌, [], length, arith, ap, sym}
use Rattle.std.proofs.lemmas.Bool.{eqb-true}
use Rattle.std.proofs.lemmas.List.{nil_from_length}
use Rattle.mp4_mux.proofs.ColumnLaws.{column-each, column-shorter, column-run, values-each, values-shorter}
use Rattle.mp4_mux.proofs.ColumnLaws.{length-values_in, last-small, no-values, values-run-one}
use Rattle.mp4_mux.proofs.column.Column.pop.Goals as goal

pub invariant_of-self : goal.invariant_of-self
invariant_of-self g c =
    column-each c.self.inside.runs.items c.self.inside.last c.take_last.new.self.items c.take_last.result
    c.self.inside.len (rw (← c.take_last.ensures.items) c.self.invariant)

pub returns-then-not-is_empty : goal.returns-then-not-is_empty
returns-then-not-is_empty g c =
    rw (← c.self.view_is, c.take_last.ensures.items)
    (values-each c.self.inside.runs.items c.self.inside.last c.take_last.result c.take_last.new.self.items)

pub invariant_of-self-then-self-gt1 : goal.invariant_of-self-then-self-gt1
invariant_of-self-then-self-gt1 g c =
    let w = c.self.inside in
    let none : w.each.items ≡ [] =
    nil_from_length w.each.items (omega (arith, eqb-true _ _ (sym c.if-not-is_empty.ensures), w.each.ok.0)) in
    rw none
    (column-shorter w.runs.items w.last w.len (rw none at c.self.invariant)
    (omega (arith, c.if-self-gt1.true, last-small w.runs.items w.last w.each.items w.len c.self.invariant))
    (record { count = w.last.count - 1; value = w.last.value })
    (omega (arith, c.if-self-gt1.true)) (λ _. omega (arith, c.if-self-gt1.true)))

pub returns-then-self-gt1 : goal.returns-then-self-gt1
returns-then-self-gt1 g c =
    let w = c.self.inside in
    let none : w.each.items ≡ [] =
    nil_from_length w.each.items (omega (arith, eqb-true _ _ (sym c.if-not-is_empty.ensures), w.each.ok.0)) in
    rw (← c.self.view_is, none)
    (values-shorter w.runs.items w.last (w.last.count - 1) (omega (arith, c.if-self-gt1.true)))

pub invariant_of-self-then-is_empty : goal.invariant_of-self-then-is_empty
invariant_of-self-then-is_empty g c =
    let w = c.self.inside in
    let none : w.each.items ≡ [] =
    nil_from_length w.each.items (omega (arith, eqb-true _ _ (sym c.if-not-is_empty.ensures), w.each.ok.0)) in
    let no_run : w.runs.items ≡ [] =
    nil_from_length w.runs.items (omega (arith, eqb-true _ _ (sym c.if-is_empty.ensures), w.runs.ok.0)) in
    let some = rw (← c.self.view_is) at c.requires in
    let more : 0 < w.len = omega (arith, some, c.self.invariant.counted) in
    let one : 1 ≤ w.last.count = c.self.invariant.some_at_end more in
    let whole : w.len ≡ w.last.count =
    omega (
      arith,
      c.self.invariant.counted,
      length-values_in w.runs.items w.last w.each.items,
      no-values w.runs.items no_run,
      ap length none,
    ) in
    rw none
    (column-shorter w.runs.items w.last w.len (rw none at c.self.invariant) more
    (record { count = 0; value = w.last.value })
    (omega (arith, c.if-self-gt1.false, one)) (λ more. absurd (omega (arith, c.if-self-gt1.false, whole, more))))

pub returns-then-is_empty : goal.returns-then-is_empty
returns-then-is_empty g c =
    let w = c.self.inside in
    let none : w.each.items ≡ [] =
    nil_from_length w.each.items (omega (arith, eqb-true _ _ (sym c.if-not-is_empty.ensures), w.each.ok.0)) in
    let some = rw (← c.self.view_is) at c.requires in
    let one : 1 ≤ w.last.count = c.self.invariant.some_at_end (omega (arith, some, c.self.invariant.counted)) in
    rw (← c.self.view_is, none)
    (values-shorter w.runs.items w.last 0 (omega (arith, c.if-self-gt1.false, one)))

pub invariant_of-self-2 : goal.invariant_of-self-2
invariant_of-self-2 g c =
    let w = c.self.inside in
    let none : w.each.items ≡ [] =
    nil_from_length w.each.items (omega (arith, eqb-true _ _ (sym c.if-not-is_empty.ensures), w.each.ok.0)) in
    let some = rw (← c.self.view_is) at c.requires in
    let one : 1 ≤ w.last.count = c.self.invariant.some_at_end (omega (arith, some, c.self.invariant.counted)) in
    rw none
    (column-run c.take_last-self-inside.new.self.items c.take_last-self-inside.result w.last w.len
    (rw (c.take_last-self-inside.ensures.items, none) at c.self.invariant)
    (omega (arith, c.if-self-gt1.false, one)))

pub returns : goal.returns
returns g c =
    let w = c.self.inside in
    let none : w.each.items ≡ [] =
    nil_from_length w.each.items (omega (arith, eqb-true _ _ (sym c.if-not-is_empty.ensures), w.each.ok.0)) in
    let some = rw (← c.self.view_is) at c.requires in
    let one : 1 ≤ w.last.count = c.self.invariant.some_at_end (omega (arith, some, c.self.invariant.counted)) in
    rw (← c.self.view_is, none, c.take_last-self-inside.ensures.items)
    (values-run-one c.take_last-self-inside.new.self.items c.take_last-self-inside.result w.last
    (omega (arith, c.if-self-gt1.false, one)))
