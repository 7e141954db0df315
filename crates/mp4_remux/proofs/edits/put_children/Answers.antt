use Rattle.std.proofs.Common.{◌∙◌, Some, List, ℕ, ap, sym}
use Rattle.std.proofs.lemmas.Result.{err_from_is_err_and}
use Rattle.mp4_remux.specs.Edit.{edit_box, joined}
use Rattle.mp4_remux.proofs.Editing.{each_end, each_more, each_none, none_after, why_none}
use Rattle.mp4_remux.proofs.edits.put_children.Goals as goal

pub returns-in_err-put_child-clause-refused : goal.returns-in_err-put_child-clause-refused
returns-in_err-put_child-clause-refused c =
    let p = err_from_is_err_and c.from_residual.result c.from_residual.ensures.1 in
    let child = c.in-Some.child in
    rw (p.1, p.2) (why_none (edit_box c.args.last child.name child.header.now child.payload.now) _ _
    (λ none. none_after _ c.args.out.now.items (sym c.loop-child.invariant.upto
    ∙ ap (joined (Some c.loop-child.out.items)) (each_none (edit_box c.args.last) (λ rest. rest) c.loop-child.rest.now
    child.name child.header.now child.payload.now child.after.now c.in-Some.ensures.header c.in-Some.ensures.first
    none)))
    c.in_err-put_child.ensures.refused)

pub loop-child-preserved : goal.loop-child-preserved
loop-child-preserved c =
    let child = c.in-Some.child in
    record {
      upto = each_more (edit_box c.args.last) (λ rest. rest) c.loop-child.rest.now child.name child.header.now
          child.payload.now child.after.now c.in-Some.ensures.header c.in-Some.ensures.first c.loop-child.out.items
          c.put_child.new.out.items c.in_ok-put_child.ensures.added
          ∙ c.loop-child.invariant.upto;
      last = c.loop-child.invariant.last;
    }

pub returns-clause-added : goal.returns-clause-added
returns-clause-added c =
    sym c.loop-child.invariant.upto
    ∙ ap (joined (Some c.loop-child.out.items))
    (each_end (edit_box c.args.last) (λ rest. rest) c.loop-child.rest.now c.in_default.ensures.none)
    ∙ ap (λ (xs : List ℕ). Some xs) (sym c.in_ok-extend_from_slice.ensures.items)
