use Rattle.std.proofs.Common.{◌∙◌, Err, ap, arith}
use Rattle.std.proofs.lemmas.Result.{err_from_is_err_and}
use Rattle.mp4_media.specs.FileBoxes.{opened_movie}
use Rattle.mp4_remux.specs.declared.error.RemuxError.{RemuxError}
use Rattle.mp4_remux.proofs.Faults.{fault_of_opening, given_on, memory_of_file, opened_alone, opened_has_room}
use Rattle.mp4_remux.proofs.Faults.{opened_without_fault, opens_or_is_none, opens_without_fault}
use Rattle.mp4_remux.proofs.Refusing.{closed}
use Rattle.mp4_remux.proofs.rewrite.open_whole.Goals as goal

pub returns-in_err-file-clause-fault : goal.returns-in_err-file-clause-fault
returns-in_err-file-clause-fault g c =
    let p = err_from_is_err_and c.from_residual.result c.from_residual.ensures.1 in
    given_on (g.S.ByteSource.contents c.args.source) (g.S.ByteSource.can_refuse c.args.source) c.args.len _
    c.from_residual.result (p.1 ∙ ap (λ (e : RemuxError). Err e) p.2)
    (fault_of_opening (g.S.ByteSource.contents c.args.source) (g.S.ByteSource.can_refuse c.args.source)
    (λ f. opened_movie f.movie) c.args.len c.in_err-file.field-0.0 c.in_err-file.ensures.opening)

pub returns-clause-fault : goal.returns-clause-fault
returns-clause-fault g c =
    opened_without_fault (g.S.ByteSource.contents c.args.source) (g.S.ByteSource.can_refuse c.args.source)
    (λ f. opened_movie f.movie) c.args.len c.in_ok-file.file c.in_ok-file.ensures.opening

pub returns-in_err-file-clause-memory : goal.returns-in_err-file-clause-memory
returns-in_err-file-clause-memory g c =
    let p = err_from_is_err_and c.from_residual.result c.from_residual.ensures.1 in
    rw (p.1 ∙ ap (λ (e : RemuxError). Err e) p.2)
    (memory_of_file c.in_err-file.field-0.0 c.args.len (λ e. omega (arith, (c.in_err-file.ensures.memory e).1)))

pub returns-clause-room : goal.returns-clause-room
returns-clause-room g c =
    opened_has_room (g.S.ByteSource.contents c.args.source) (g.S.ByteSource.can_refuse c.args.source)
    (λ f. opened_movie f.movie) c.args.len c.in_ok-file.file c.in_ok-file.ensures.opening

pub returns-in_err-file-clause-opens : goal.returns-in_err-file-clause-opens
returns-in_err-file-clause-opens g c =
    let p = err_from_is_err_and c.from_residual.result c.from_residual.ensures.1 in
    rw (p.1 ∙ ap (λ (e : RemuxError). Err e) p.2)
    (opens_or_is_none (g.S.ByteSource.contents c.args.source) (g.S.ByteSource.can_refuse c.args.source)
    (λ f. opened_movie f.movie) c.args.len c.in_err-file.field-0.0 c.in_err-file.ensures.opening)

pub returns-clause-only : goal.returns-clause-only
returns-clause-only g c =
    rw c.into_parts.ensures
    (opened_alone (g.S.ByteSource.contents c.args.source) (g.S.ByteSource.can_refuse c.args.source)
    (λ f. opened_movie f.movie) c.args.len c.in_ok-file.file c.in_ok-file.ensures.opening)

pub returns-in_err-file-clause-no_fault : goal.returns-in_err-file-clause-no_fault
returns-in_err-file-clause-no_fault g c =
    let p = err_from_is_err_and c.from_residual.result c.from_residual.ensures.1 in
    rw (p.1 ∙ ap (λ (e : RemuxError). Err e) p.2)
    (opens_without_fault (g.S.ByteSource.contents c.args.source) (g.S.ByteSource.can_refuse c.args.source)
    (λ f. opened_movie f.movie) c.args.len c.in_err-file.field-0.0 c.in_err-file.ensures.opening)

pub returns-in_err-file-clause-why : goal.returns-in_err-file-clause-why
returns-in_err-file-clause-why g c =
    let p = err_from_is_err_and c.from_residual.result c.from_residual.ensures.1 in
    rw (p.1 ∙ ap (λ (e : RemuxError). Err e) p.2)
    (closed (g.S.ByteSource.contents c.args.source) (g.S.ByteSource.can_refuse c.args.source)
    (λ f. opened_movie f.movie) c.args.len c.in_err-file.field-0.0 c.in_err-file.ensures.opening)
