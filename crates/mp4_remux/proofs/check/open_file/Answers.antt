use Rattle.std.proofs.Common.{◌∙◌, Err, ap}
use Rattle.std.proofs.lemmas.Result.{err_from_is_err_and}
use Rattle.mp4_media.specs.FileBoxes.{opened_movie}
use Rattle.mp4_remux.specs.declared.error.RemuxError.{RemuxError}
use Rattle.mp4_remux.proofs.Faults.{fault_by_len, fault_of_opening, none_by_len, none_of_len, only_of_len}
use Rattle.mp4_remux.proofs.Faults.{opened_alone, opened_has_room, opened_without_fault, opens_or_is_none}
use Rattle.mp4_remux.proofs.Faults.{passed_on, room_by_len}
use Rattle.mp4_remux.specs.Errors.{of_file}
use Rattle.mp4_remux.proofs.check.open_file.Goals as goal

pub returns-in_err-file-clause-fault : goal.returns-in_err-file-clause-fault
returns-in_err-file-clause-fault g c =
    let p = err_from_is_err_and c.from_residual.result c.from_residual.ensures.1 in
    let e = of_file c.in_err-file.field-0.0 in
    passed_on (g.S.ByteSource.contents c.args.source) (g.S.ByteSource.can_refuse c.args.source) e
    c.from_residual.result (p.1 ∙ ap (λ (e : RemuxError). Err e) p.2)
    (fault_by_len (g.S.ByteSource.contents c.args.source) (g.S.ByteSource.can_refuse c.args.source) c.in-Ok.len e
    c.in-Ok.ensures.value
    (rw (c.in-Ok.ensures.contents, c.in-Ok.ensures.can_refuse) at
    (fault_of_opening (g.S.ByteSource.contents _) (g.S.ByteSource.can_refuse _) (λ f. opened_movie f.movie) c.in-Ok.len
    c.in_err-file.field-0.0 c.in_err-file.ensures.opening)))

pub returns-clause-fault : goal.returns-clause-fault
returns-clause-fault g c =
    none_by_len (g.S.ByteSource.contents c.args.source) c.in-Ok.len c.in-Ok.ensures.value
    (opened_without_fault (g.S.ByteSource.contents c.args.source) (g.S.ByteSource.can_refuse c.args.source)
    (λ f. opened_movie f.movie) c.in-Ok.len c.in_ok-file.file
    (rw (c.in-Ok.ensures.contents, c.in-Ok.ensures.can_refuse) at c.in_ok-file.ensures.opening))

pub returns-clause-room : goal.returns-clause-room
returns-clause-room g c =
    room_by_len (g.S.ByteSource.contents c.args.source) c.in-Ok.len c.in-Ok.ensures.value
    (opened_has_room (g.S.ByteSource.contents c.args.source) (g.S.ByteSource.can_refuse c.args.source)
    (λ f. opened_movie f.movie) c.in-Ok.len c.in_ok-file.file
    (rw (c.in-Ok.ensures.contents, c.in-Ok.ensures.can_refuse) at c.in_ok-file.ensures.opening))

pub returns-in_err-file-clause-opens : goal.returns-in_err-file-clause-opens
returns-in_err-file-clause-opens g c =
    let p = err_from_is_err_and c.from_residual.result c.from_residual.ensures.1 in
    rw (p.1 ∙ ap (λ (e : RemuxError). Err e) p.2)
    (λ named. none_of_len (g.S.ByteSource.contents c.args.source) c.in-Ok.len c.in-Ok.ensures.value
    (rw c.in-Ok.ensures.contents at
    (opens_or_is_none (g.S.ByteSource.contents _) (g.S.ByteSource.can_refuse _) (λ f. opened_movie f.movie) c.in-Ok.len
    c.in_err-file.field-0.0 c.in_err-file.ensures.opening named)))

pub returns-clause-only : goal.returns-clause-only
returns-clause-only g c =
    only_of_len (g.S.ByteSource.contents c.args.source) c.in-Ok.len _ c.in-Ok.ensures.value
    (rw c.in-Ok.ensures.contents at
    (opened_alone (g.S.ByteSource.contents _) (g.S.ByteSource.can_refuse _) (λ f. opened_movie f.movie) c.in-Ok.len
    c.in_ok-file.file c.in_ok-file.ensures.opening))
