use Rattle.std.proofs.Common.{◌≡◌, ◌∙◌, [], ap, sym, Option, arith}
use Rattle.mp4_table.specs.declared.stss.StssBox.{StssBox}
use Rattle.mp4_samples.specs.Tables.{sync_numbers}
use Rattle.mp4_lookup.proofs.Counts.{none_compared}
use Rattle.mp4_lookup.proofs.Syncs.{last_in_table, last_of_all, none_of_none}
use Rattle.mp4_lookup.proofs.seek.last_sync_upto.Goals as goal

pub returns-then-k-eq0-clause-number : goal.returns-then-k-eq0-clause-number
returns-then-k-eq0-clause-number c = λ j h. rw c.in-None.is (none_of_none c.args.k j c.if-k-eq0.true h)

pub returns-else-k-eq0-clause-number : goal.returns-else-k-eq0-clause-number
returns-else-k-eq0-clause-number c =
    rw c.in-None.is (last_of_all c.args.k (omega (arith, c.if-k-eq0.false)))

pub returns-then-index-clause-number : goal.returns-then-index-clause-number
returns-then-index-clause-number c =
    let numbers : c.args.index.now.sync_numbers ≡ c.in-Some.stss.entries =
    c.requires.sync ∙ ap (λ (s : Option StssBox). sync_numbers s) c.in-Some.is in
    rw c.in-Some.is (last_in_table c.in-Some.stss c.args.k c.last_upto.result
    (rw numbers at c.last_upto.ensures.number))

pub returns-else-index-clause-number : goal.returns-else-index-clause-number
returns-else-index-clause-number c =
    rw c.in-Some.is (last_in_table c.in-Some.stss c.args.k c.largest_upto.result
    (rw c.as_slice.ensures at c.largest_upto.ensures))

pub returns-then-k-eq0-clause-counted : goal.returns-then-k-eq0-clause-counted
returns-then-k-eq0-clause-counted c =
    let numbers : c.args.index.now.sync_numbers ≡ [] =
    c.requires.sync ∙ ap (λ (s : Option StssBox). sync_numbers s) c.in-None.is in
    c.requires.fresh ∙ sym (none_compared c.args.index.now c.args.k numbers)

pub returns-else-k-eq0-clause-counted : goal.returns-else-k-eq0-clause-counted
returns-else-k-eq0-clause-counted c =
    let numbers : c.args.index.now.sync_numbers ≡ [] =
    c.requires.sync ∙ ap (λ (s : Option StssBox). sync_numbers s) c.in-None.is in
    c.requires.fresh ∙ sym (none_compared c.args.index.now c.args.k numbers)
