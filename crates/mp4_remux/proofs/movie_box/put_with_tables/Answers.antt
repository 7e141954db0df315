use Rattle.std.proofs.Common.{◌∙◌, ◌++◌, List, ℕ, ap}
use Rattle.mp4_remux.proofs.Editing.{tables_fit}
use Rattle.mp4_remux.proofs.movie_box.put_with_tables.Goals as goal

pub returns-clause-added : goal.returns-clause-added
returns-clause-added c =
    tables_fit c.args.out.now.items c.put_whole.new.out.items c.extend_from_slice.new.self.items
    c.put_offsets.new.out.items (c.args.one.now.header.now ++ c.args.one.now.payload.now) c.args.base
    c.args.tables.now c.in_ok-put_offsets.ensures.fits c.in_ok-put_whole.ensures
    (c.in_ok-extend_from_slice.ensures.items
    ∙ ap (λ (xs : List ℕ). c.put_whole.new.out.items ++ xs) c.deref.ensures.value)
    c.in_ok-put_offsets.ensures.added
