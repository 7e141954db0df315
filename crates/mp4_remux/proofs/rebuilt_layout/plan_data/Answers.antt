use Rattle.std.proofs.Common.{◌∙◌, ◌++◌, ℕ, List, ap, arith}
use Rattle.mp4_remux.proofs.PlanningRebuilt.{data_is_planned}
use Rattle.mp4_remux.proofs.rebuilt_layout.plan_data.Goals as goal

pub returns-clause-planned : goal.returns-clause-planned
returns-clause-planned c =
    data_is_planned c.args.edit.now c.args.frame.now c.args.extents.now c.args.keeps.now.ids.now
    c.args.keeps.now.references.now c.in_ok-made.made.items c.extend_from_slice.new.self.items
    c.in_ok-header.header.items c.in_ok-pieces.pieces.items c.len_of.result c.len.result c.len-movie_len.result
    c.len-2.result c.requires.few c.len_of.ensures c.in_ok-header.ensures (omega (arith, c.len.ensures))
    (c.in_ok-made.ensures.settled c.args.extents.now c.requires.closed)
    (rw c.deref.ensures.value at (c.in_ok-has_references.ensures.0 cc)) (omega (arith, c.len-movie_len.ensures))
    (omega (arith, c.len-2.ensures)) (c.in_ok-extend_from_slice.ensures.items
    ∙ ap (λ (xs : List ℕ). c.in_ok-made.made.items ++ xs) c.deref-2.ensures.value)
    c.in_ok-pieces.ensures.stretches c.in_ok-pieces.ensures.bytes
