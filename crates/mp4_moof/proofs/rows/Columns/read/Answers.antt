use Rattle.std.proofs.Common.{◌≡◌, ℕ, List, Some, None, inr, refl, sym, ◌∙◌}
use Rattle.std.proofs.lemmas.Result.{err_from_is_err_and}
use Rattle.mp4_codec.specs.Cause.{cause_of}
use Rattle.mp4_codec.specs.Bytes.{count_cause}
use Rattle.mp4_moof.specs.Rows.{row_length, columns_at}
use Rattle.mp4_moof.specs.RowLaws.{columns-nothing, columns-short, columns-enough}
use Rattle.mp4_moof.proofs.ColumnLaws.{columns_at-rows, count_cause-fits}
use Rattle.mp4_codec.specs.Early.{takes_memory, refused_at_once}
use Rattle.mp4_moof.proofs.rows.Columns.read.Goals as goal

pub returns-then-each-eq0-clause-value : goal.returns-then-each-eq0-clause-value
returns-then-each-eq0-clause-value c =
    rw c.new.ensures (columns-nothing c.args.flags c.args.count c.args.fields.now
    (sym c.row_size-each.ensures ∙ c.if-each-eq0.true))

pub returns-then-each-eq0-clause-nothing : goal.returns-then-each-eq0-clause-nothing
returns-then-each-eq0-clause-nothing c =
    λ e. rw c.new.ensures (columns-nothing c.args.flags c.args.count c.args.fields.now e)

pub returns-then-each-eq0-clause-early : goal.returns-then-each-eq0-clause-early
returns-then-each-eq0-clause-early c =
    rw (columns-nothing c.args.flags c.args.count c.args.fields.now
    (sym c.row_size-each.ensures ∙ c.if-each-eq0.true)) tt

pub returns-in_err-check_rows : goal.returns-in_err-check_rows
returns-in_err-check_rows c =
    let p = err_from_is_err_and c.from_residual.result c.from_residual.ensures.1 in
    let passes : count_cause c.args.count (row_length c.args.flags) c.args.fields.now
    ≡ Some (cause_of c.in_err-check_rows.field-0.0) = rw c.row_size-each.ensures at c.in_err-check_rows.ensures in
    let short = columns-short c.args.flags c.args.count c.args.fields.now (cause_of c.in_err-check_rows.field-0.0)
    passes in
    rw (p.1, p.2, short) (record { value = inr refl; early = refl; nothing = λ e. refl })

-- after the check all rows are there, so that memory may be requested
enough : (flags count : ℕ) (bytes : List ℕ) → count_cause count (row_length flags) bytes ≡ None
    → refused_at_once (columns_at flags count bytes) ≡ takes_memory
enough flags count bytes e = let read = columns-enough flags count bytes e in rw read.1 refl

pub returns-in_err-columns-clause-early : goal.returns-in_err-columns-clause-early
returns-in_err-columns-clause-early c =
    let none : count_cause c.args.count (row_length c.args.flags) c.args.fields.now ≡ None =
    rw c.row_size-each.ensures at c.in_ok-check_rows.ensures in
    rw (enough c.args.flags c.args.count c.args.fields.now none) tt

pub returns-clause-early : goal.returns-clause-early
returns-clause-early c =
    let none : count_cause c.args.count (row_length c.args.flags) c.args.fields.now ≡ None =
    rw c.row_size-each.ensures at c.in_ok-check_rows.ensures in
    rw (enough c.args.flags c.args.count c.args.fields.now none) tt

pub returns-clause-value : goal.returns-clause-value
returns-clause-value c =
    let none : count_cause c.args.count (row_length c.args.flags) c.args.fields.now ≡ None =
    rw c.row_size-each.ensures at c.in_ok-check_rows.ensures in
    rw (
      columns_at-rows c.args.flags c.args.count c.args.fields.now (count_cause-fits _ _ _ none),
      c.in_ok-columns.ensures,
      c.new-2.ensures,
      c.split_at.ensures.back,
      c.rest-rows.ensures,
      c.row_size-each.ensures,
    ) refl
