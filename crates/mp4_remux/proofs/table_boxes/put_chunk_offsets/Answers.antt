use Rattle.std.proofs.Common.{◌∙◌, sym}
use Rattle.mp4_remux.proofs.BoxLaws.{far_box, near_box}
use Rattle.mp4_remux.proofs.table_boxes.put_chunk_offsets.Goals as goal

pub returns-then-are_far-clause-added : goal.returns-then-are_far-clause-added
returns-then-are_far-clause-added c =
    rw (far_box c.args.offsets.items c.in_ok-from_items.field-0
    (rw c.deref.ensures.value at (sym c.are_far.ensures ∙ c.if-are_far.true))
    (c.in_ok-from_items.ensures.value ∙ c.into.ensures)) at c.put_table.ensures.added

pub returns-then-are_far-clause-refused : goal.returns-then-are_far-clause-refused
returns-then-are_far-clause-refused c =
    rw (far_box c.args.offsets.items c.in_ok-from_items.field-0
    (rw c.deref.ensures.value at (sym c.are_far.ensures ∙ c.if-are_far.true))
    (c.in_ok-from_items.ensures.value ∙ c.into.ensures)) at c.put_table.ensures.refused

pub returns-clause-added : goal.returns-clause-added
returns-clause-added c =
    rw (near_box c.args.offsets.items c.in_ok-from_items-2.field-0
    (rw c.deref.ensures.value at (sym c.are_far.ensures ∙ c.if-are_far.false))
    (c.in_ok-from_items-2.ensures.value ∙ c.into-2.ensures ∙ c.in_ok-near.ensures ∙ c.deref-2.ensures.value))
    at c.put_table-2.ensures.added

pub returns-clause-refused : goal.returns-clause-refused
returns-clause-refused c =
    rw (near_box c.args.offsets.items c.in_ok-from_items-2.field-0
    (rw c.deref.ensures.value at (sym c.are_far.ensures ∙ c.if-are_far.false))
    (c.in_ok-from_items-2.ensures.value ∙ c.into-2.ensures ∙ c.in_ok-near.ensures ∙ c.deref-2.ensures.value))
    at c.put_table-2.ensures.refused

pub returns-then-are_far-clause-fits : goal.returns-then-are_far-clause-fits
returns-then-are_far-clause-fits c =
    rw (far_box c.args.offsets.items c.in_ok-from_items.field-0
    (rw c.deref.ensures.value at (sym c.are_far.ensures ∙ c.if-are_far.true))
    (c.in_ok-from_items.ensures.value ∙ c.into.ensures)) at c.put_table.ensures.fits

pub returns-clause-fits : goal.returns-clause-fits
returns-clause-fits c =
    rw (near_box c.args.offsets.items c.in_ok-from_items-2.field-0
    (rw c.deref.ensures.value at (sym c.are_far.ensures ∙ c.if-are_far.false))
    (c.in_ok-from_items-2.ensures.value ∙ c.into-2.ensures ∙ c.in_ok-near.ensures ∙ c.deref-2.ensures.value))
    at c.put_table-2.ensures.fits
