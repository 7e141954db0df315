use Rattle.std.proofs.Common.{◌∙◌, Err, ap}
use Rattle.mp4_media.specs.FileBoxes.{opened_movie}
use Rattle.mp4_remux.proofs.Fronting.{writes_moved}
use Rattle.std.proofs.lemmas.Result.{err_from_is_err_and}
use Rattle.mp4_remux.specs.declared.error.RemuxError.{RemuxError}
use Rattle.mp4_remux.proofs.Choosing.{are_all}
use Rattle.mp4_remux.proofs.Faults.{moved_later, no_fault, no_file_to_move, passed_on, refused_anyhow, refused_unnamed}
use Rattle.mp4_remux.specs.Front.{HasToMove}
use Rattle.mp4_remux.proofs.NotInFront.{copy_why, made_why, no_fault_why, plan_why}
use Rattle.mp4_remux.proofs.Planning.{planned_moved}
use Rattle.mp4_remux.proofs.front.move_to_front.Goals as goal

pub returns-clause-written : goal.returns-clause-written
returns-clause-written g c =
    writes_moved (g.S.ByteSource.contents c.args.source) _ _ c.write_layout.result c.in-Some.layout
    (opened_movie c.in_ok-source.before) _
    (rw (c.in_ok-source-2.ensures.contents, c.in_ok-source.ensures.contents) at c.write_layout.ensures.written)
    (planned_moved (g.S.ByteSource.contents c.args.source) c.in-Some.layout.made.items c.in-Some.layout.pieces.items
    (rw (c.in-Some.is, c.in_ok-source.ensures.contents) at c.in_ok-source-2.ensures.planned))
    (c.deref.ensures.value ∙ c.in_ok-ids.ensures.ids)

pub returns-in_err-source-clause-fault : goal.returns-in_err-source-clause-fault
returns-in_err-source-clause-fault g c =
    let p = err_from_is_err_and c.from_residual.result c.from_residual.ensures.1 in
    passed_on (g.S.ByteSource.contents c.args.source) (g.S.ByteSource.can_refuse c.args.source)
    c.in_err-source.field-0.0 c.from_residual.result (p.1 ∙ ap (λ (e : RemuxError). Err e) p.2)
    c.in_err-source.ensures.fault

pub returns-in_err-source-2-clause-fault : goal.returns-in_err-source-2-clause-fault
returns-in_err-source-2-clause-fault g c =
    no_fault (g.S.ByteSource.contents c.args.source) (g.S.ByteSource.can_refuse c.args.source)
    c.from_residual-in_err-source-2.result c.in_ok-source.ensures.fault

pub returns-in_default-clause-fault : goal.returns-in_default-clause-fault
returns-in_default-clause-fault g c =
    no_fault (g.S.ByteSource.contents c.args.source) (g.S.ByteSource.can_refuse c.args.source)
    c.copy_all.result c.in_ok-source.ensures.fault

pub returns-in_err-ids-clause-fault : goal.returns-in_err-ids-clause-fault
returns-in_err-ids-clause-fault g c =
    no_fault (g.S.ByteSource.contents c.args.source) (g.S.ByteSource.can_refuse c.args.source)
    c.from_residual-in_err-ids.result c.in_ok-source.ensures.fault

pub returns-clause-fault : goal.returns-clause-fault
returns-clause-fault g c =
    no_fault (g.S.ByteSource.contents c.args.source) (g.S.ByteSource.can_refuse c.args.source)
    c.write_layout.result c.in_ok-source.ensures.fault

pub returns-in_err-source-clause-as_it_is : goal.returns-in_err-source-clause-as_it_is
returns-in_err-source-clause-as_it_is g c =
    let p = err_from_is_err_and c.from_residual.result c.from_residual.ensures.1 in
    rw (p.1 ∙ ap (λ (e : RemuxError). Err e) p.2)
    (λ named. no_file_to_move (g.S.ByteSource.contents c.args.source) (c.in_err-source.ensures.opens named))

pub returns-in_err-source-2-clause-as_it_is : goal.returns-in_err-source-2-clause-as_it_is
returns-in_err-source-2-clause-as_it_is g c =
    let p = err_from_is_err_and c.from_residual-in_err-source-2.result c.from_residual-in_err-source-2.ensures.1 in
    rw (p.1 ∙ ap (λ (e : RemuxError). Err e) p.2)
    (λ named. moved_later (g.S.ByteSource.contents c.args.source)
    (rw c.in_ok-source.ensures.contents at (c.in_err-source-2.ensures.named named)))

pub returns-in_default-clause-as_it_is : goal.returns-in_default-clause-as_it_is
returns-in_default-clause-as_it_is g c =
    refused_unnamed (HasToMove (g.S.ByteSource.contents c.args.source)) _ _ c.copy_all.result c.copy_all.ensures.err

pub returns-in_err-ids-clause-as_it_is : goal.returns-in_err-ids-clause-as_it_is
returns-in_err-ids-clause-as_it_is g c =
    refused_anyhow (HasToMove (g.S.ByteSource.contents c.args.source)) c.from_residual-in_err-ids.result
    (moved_later (g.S.ByteSource.contents c.args.source)
    (rw (c.in-Some.is, c.in_ok-source.ensures.contents) at c.in_ok-source-2.ensures.later))

pub returns-clause-as_it_is : goal.returns-clause-as_it_is
returns-clause-as_it_is g c =
    refused_anyhow (HasToMove (g.S.ByteSource.contents c.args.source)) c.write_layout.result
    (moved_later (g.S.ByteSource.contents c.args.source)
    (rw (c.in-Some.is, c.in_ok-source.ensures.contents) at c.in_ok-source-2.ensures.later))

pub write_layout-requires-clause-kept : goal.write_layout-requires-clause-kept
write_layout-requires-clause-kept g c =
    are_all (opened_movie c.in_ok-source.before) _ (c.deref.ensures.value ∙ c.in_ok-ids.ensures.ids)

pub returns-in_err-source-clause-why : goal.returns-in_err-source-clause-why
returns-in_err-source-clause-why g c =
    let p = err_from_is_err_and c.from_residual.result c.from_residual.ensures.1 in
    rw (p.1 ∙ ap (λ (e : RemuxError). Err e) p.2)
    (no_fault_why (g.S.ByteSource.contents c.args.source) (g.S.ByteSource.can_refuse c.args.source) _
    c.in_err-source.ensures.no_fault)

pub returns-in_err-source-2-clause-why : goal.returns-in_err-source-2-clause-why
returns-in_err-source-2-clause-why g c =
    let p = err_from_is_err_and c.from_residual-in_err-source-2.result c.from_residual-in_err-source-2.ensures.1 in
    rw (p.1 ∙ ap (λ (e : RemuxError). Err e) p.2)
    (plan_why (g.S.ByteSource.contents c.args.source) _
    (rw c.in_ok-source.ensures.contents at c.in_err-source-2.ensures.why))

pub returns-in_default-clause-why : goal.returns-in_default-clause-why
returns-in_default-clause-why g c =
    copy_why (g.S.ByteSource.contents c.args.source) _ _ c.copy_all.result c.copy_all.ensures.err

pub returns-clause-why : goal.returns-clause-why
returns-clause-why g c =
    made_why (g.S.ByteSource.contents c.args.source) (opened_movie c.in_ok-source.before) _
    c.in-Some.layout.made.items c.in-Some.layout.pieces.items c.write_layout.result
    (rw (c.in-Some.is, c.in_ok-source.ensures.contents) at c.in_ok-source-2.ensures.planned)
    (c.deref.ensures.value ∙ c.in_ok-ids.ensures.ids) c.in_ok-source.ensures.only
    (rw (c.in_ok-source-2.ensures.contents, c.in_ok-source.ensures.contents) at c.write_layout.ensures.why)
