use Rattle.std.proofs.Common.{◌∙◌, [], Some, List, ℕ, ap, sym}
use Rattle.std.proofs.lemmas.List.{append-nil}
use Rattle.std.proofs.lemmas.Result.{err_from_is_err_and}
use Rattle.mp4_remux.specs.Edit.{joined, reference_box}
use Rattle.mp4_remux.proofs.Editing.{each_end, each_more, each_none, none_after, why_none}
use Rattle.mp4_remux.proofs.references.put_kinds.Goals as goal

pub returns-in_err-put_kind-clause-refused : goal.returns-in_err-put_kind-clause-refused
returns-in_err-put_kind-clause-refused c =
    let p = err_from_is_err_and c.from_residual.result c.from_residual.ensures.1 in
    let kind = c.in-Some.kind in
    rw (p.1, p.2) (why_none (reference_box c.args.ids.now kind.name kind.header.now kind.payload.now) _ _
    (λ none. none_after _ c.args.out.now.items (sym c.loop-kind.invariant.upto
    ∙ ap (joined (Some c.loop-kind.out.items)) (each_none (reference_box c.args.ids.now) (λ rest. [])
    c.loop-kind.rest.now kind.name kind.header.now kind.payload.now kind.after.now c.in-Some.ensures.header
    c.in-Some.ensures.first none)))
    c.in_err-put_kind.ensures.refused)

pub loop-kind-preserved : goal.loop-kind-preserved
loop-kind-preserved c =
    let kind = c.in-Some.kind in
    record {
      upto = each_more (reference_box c.args.ids.now) (λ rest. []) c.loop-kind.rest.now kind.name kind.header.now
          kind.payload.now kind.after.now c.in-Some.ensures.header c.in-Some.ensures.first c.loop-kind.out.items
          c.put_kind.new.out.items c.in_ok-put_kind.ensures.added
          ∙ c.loop-kind.invariant.upto;
    }

pub returns-clause-added : goal.returns-clause-added
returns-clause-added c =
    sym c.loop-kind.invariant.upto
    ∙ ap (joined (Some c.loop-kind.out.items))
    (each_end (reference_box c.args.ids.now) (λ rest. []) c.loop-kind.rest.now c.in_default.ensures.none)
    ∙ ap (λ (xs : List ℕ). Some xs) (append-nil c.loop-kind.out.items)
