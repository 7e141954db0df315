use Rattle.std.proofs.Common.{◌∙◌, Err, ap}
use Rattle.std.proofs.lemmas.Result.{err_from_is_err_and}
use Rattle.mp4_remux.specs.declared.error.RemuxError.{RemuxError}
use Rattle.mp4_remux.proofs.Faults.{fault_by_len, memory_passed_on, none_by_len, none_of_len, only_of_len}
use Rattle.mp4_remux.proofs.Faults.{no_fault_of_len, passed_on, room_by_len}
use Rattle.mp4_remux.proofs.rewrite.open_source.Goals as goal

pub returns-in_err-source-clause-fault : goal.returns-in_err-source-clause-fault
returns-in_err-source-clause-fault g c =
    let p = err_from_is_err_and c.from_residual.result c.from_residual.ensures.1 in
    passed_on (g.S.ByteSource.contents c.args.source) (g.S.ByteSource.can_refuse c.args.source)
    c.in_err-source.field-0.0 c.from_residual.result (p.1 ∙ ap (λ (e : RemuxError). Err e) p.2)
    (fault_by_len (g.S.ByteSource.contents c.args.source) (g.S.ByteSource.can_refuse c.args.source) c.in-Ok.len
    c.in_err-source.field-0.0 c.in-Ok.ensures.value
    (rw (c.in-Ok.ensures.contents, c.in-Ok.ensures.can_refuse) at c.in_err-source.ensures.fault))

pub returns-clause-fault : goal.returns-clause-fault
returns-clause-fault g c =
    none_by_len (g.S.ByteSource.contents c.args.source) c.in-Ok.len c.in-Ok.ensures.value
    (rw c.in-Ok.ensures.contents at c.in_ok-source.ensures.fault)

pub returns-in_err-source-clause-memory : goal.returns-in_err-source-clause-memory
returns-in_err-source-clause-memory g c =
    let p = err_from_is_err_and c.from_residual.result c.from_residual.ensures.1 in
    memory_passed_on (g.S.ByteSource.contents c.args.source) c.in-Ok.len c.in_err-source.field-0.0
    c.from_residual.result (p.1 ∙ ap (λ (e : RemuxError). Err e) p.2) c.in-Ok.ensures.value
    c.in_err-source.ensures.memory

pub returns-clause-room : goal.returns-clause-room
returns-clause-room g c =
    room_by_len (g.S.ByteSource.contents c.args.source) c.in-Ok.len c.in-Ok.ensures.value
    (rw c.in-Ok.ensures.contents at c.in_ok-source.ensures.room)

pub returns-in_err-source-clause-opens : goal.returns-in_err-source-clause-opens
returns-in_err-source-clause-opens g c =
    let p = err_from_is_err_and c.from_residual.result c.from_residual.ensures.1 in
    rw (p.1 ∙ ap (λ (e : RemuxError). Err e) p.2)
    (λ named. none_of_len (g.S.ByteSource.contents c.args.source) c.in-Ok.len c.in-Ok.ensures.value
    (rw c.in-Ok.ensures.contents at (c.in_err-source.ensures.opens named)))

pub returns-clause-only : goal.returns-clause-only
returns-clause-only g c =
    only_of_len (g.S.ByteSource.contents c.args.source) c.in-Ok.len _ c.in-Ok.ensures.value
    (rw c.in-Ok.ensures.contents at c.in_ok-source.ensures.only)

pub returns-in_err-source-clause-no_fault : goal.returns-in_err-source-clause-no_fault
returns-in_err-source-clause-no_fault g c =
    let p = err_from_is_err_and c.from_residual.result c.from_residual.ensures.1 in
    rw (p.1 ∙ ap (λ (e : RemuxError). Err e) p.2)
    (no_fault_of_len (g.S.ByteSource.contents c.args.source) (g.S.ByteSource.can_refuse c.args.source) c.in-Ok.len
    c.in_err-source.field-0.0 c.in-Ok.ensures.value
    (rw (c.in-Ok.ensures.contents, c.in-Ok.ensures.can_refuse) at c.in_err-source.ensures.no_fault))
