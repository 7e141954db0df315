use Rattle.std.proofs.Common.{◌≡◌, arith, rules, true, ap, sym, ◌∙◌, not}
use Rattle.std.proofs.lemmas.Result.{err_from_is_err_and}
use Rattle.mp4_extract.specs.ByteStream.{has_bytes, length_size}
use Rattle.mp4_extract.proofs.Turning.{begun, finished, nil_when, passed, put, unit-moves}
use Rattle.mp4_extract.proofs.annex_b.AnnexB.put_sample.Goals as goal

pub loop-fields-init : goal.loop-fields-init
loop-fields-init c = rw c.new-fields.ensures (begun c.args.self.now c.args.sample.now c.args.out.now.items)

pub loop-fields-smaller-then-not-is_empty : goal.loop-fields-smaller-then-not-is_empty
loop-fields-smaller-then-not-is_empty c =
    let moves = unit-moves (length_size c.args.self.now) c.loop-fields.fields c.in-Ok.unit.now
    c.next_unit.new.fields c.in-Ok.ensures in
    omega arith

pub loop-fields-smaller : goal.loop-fields-smaller
loop-fields-smaller c =
    let moves = unit-moves (length_size c.args.self.now) c.loop-fields.fields c.in-Ok.unit.now
    c.next_unit.new.fields c.in-Ok.ensures in
    omega arith

pub loop-fields-preserved-then-not-is_empty : goal.loop-fields-preserved-then-not-is_empty
loop-fields-preserved-then-not-is_empty c =
    rw (c.progress_after-progress.ensures.first, c.progress_after-progress.ensures.kinds)
    (put c.args.self.now c.args.sample.now c.args.out.now.items c.loop-fields.fields c.loop-fields.out.items
    c.in-Ok.unit.now c.next_unit.new.fields c.loop-fields.progress.is_first c.loop-fields.progress.kinds
    c.loop-fields.invariant c.in-Ok.ensures (ap not (sym c.is_empty-in-loop-fields.ensures) ∙ search rules)
    c.put_next.new.out.items c.in_ok-put_next.ensures)

pub loop-fields-preserved : goal.loop-fields-preserved
loop-fields-preserved c =
    passed c.args.self.now c.args.sample.now c.args.out.now.items c.loop-fields.fields c.loop-fields.out.items
    c.in-Ok.unit.now c.next_unit.new.fields c.loop-fields.progress.is_first c.loop-fields.progress.kinds
    c.loop-fields.invariant c.in-Ok.ensures (ap not (sym c.is_empty-in-loop-fields.ensures) ∙ search rules)

pub returns-clause-stream : goal.returns-clause-stream
returns-clause-stream c =
    finished c.args.self.now c.args.sample.now c.loop-fields.fields c.args.out.now.items c.loop-fields.out.items
    c.loop-fields.progress.is_first c.loop-fields.progress.kinds c.loop-fields.invariant
    (nil_when c.loop-fields.fields (search rules))

pub returns-in_err-put_next-clause-memory : goal.returns-in_err-put_next-clause-memory
returns-in_err-put_next-clause-memory c =
    let so_far = c.loop-fields.invariant in
    let p = err_from_is_err_and c.from_residual.result c.from_residual.ensures.1 in
    let some : has_bytes c.in-Ok.unit.now ≡ true =
    ap not (sym c.is_empty-in-loop-fields.ensures) ∙ search rules in
    rw (p.1, p.2) (λ memory. (
      so_far.units,
      c.loop-fields.fields,
      so_far.held,
      c.in-Ok.unit.now,
      c.next_unit.new.fields,
      c.in-Ok.ensures,
      some,
    ))
