use Rattle.std.proofs.Common.{arith, inl, inr, rules}
use Rattle.mp4_remux.proofs.Referring.{no_header, not_whole}
use Rattle.mp4_remux.proofs.Sizing.{is_header}
use Rattle.mp4_remux.proofs.box_bytes.first_box.Goals.{
  then-header-eq-OPEN_END-via-then-header-eq-OPEN_END,
  then-header-eq-OPEN_END-via-else-header-eq-OPEN_END+then-from-len,
  then-header-eq-OPEN_END-via-else-header-eq-OPEN_END+else-from-len+then-header-len,
}
use Rattle.mp4_remux.proofs.box_bytes.first_box.Goals as goal

pub returns-in_default-clause-none : goal.returns-in_default-clause-none
returns-in_default-clause-none c =
    no_header c.args.bytes.now _ (rw c.new-cursor.ensures at c.in_default.ensures.value)

pub returns-then-header-eq-OPEN_END-clause-none : goal.returns-then-header-eq-OPEN_END-clause-none
returns-then-header-eq-OPEN_END-clause-none c =
    not_whole c.args.bytes.now c.in-Ok.header _ (rw c.new-cursor.ensures at c.in-Ok.ensures.value)
    (elim c.then-header-eq-OPEN_END.branch [
      | then-header-eq-OPEN_END-via-then-header-eq-OPEN_END w ↦ inl (omega (arith, w.if-header-eq-OPEN_END.true))
      | then-header-eq-OPEN_END-via-else-header-eq-OPEN_END+then-from-len w ↦
          inr (omega (arith, w.if-from-len.true, c.position-from.ensures))
      | then-header-eq-OPEN_END-via-else-header-eq-OPEN_END+else-from-len+then-header-len w ↦
          inr (omega (arith, w.if-header-len.true, w.if-from-len.false, c.position-from.ensures))
    ])

pub returns-clause-first : goal.returns-clause-first
returns-clause-first c = search rules

pub returns-clause-framed : goal.returns-clause-framed
returns-clause-framed c = is_header c.args.bytes.now _ _ _ _ (returns-clause-first c)
