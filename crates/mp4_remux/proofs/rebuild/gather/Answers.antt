use Rattle.std.proofs.Common.{refl, sym, ◌∙◌, Err, ap}
use Rattle.mp4_media.specs.FileBoxes.{opened_movie}
use Rattle.mp4_remux.proofs.Rebuilding.{made_not_alone, not_alone, writes_as_it_is, writes_gathered}
use Rattle.mp4_remux.specs.Gathered.{HasMoreThanTables}
use Rattle.std.proofs.lemmas.Result.{err_from_is_err_and}
use Rattle.mp4_remux.specs.declared.error.RemuxError.{RemuxError}
use Rattle.mp4_remux.proofs.Choosing.{are_all}
use Rattle.mp4_remux.proofs.Faults.{no_fault, passed_on, refused_anyhow, refused_unnamed}
use Rattle.mp4_remux.proofs.PlanningRebuilt.{copy_rebuilt, memory_opened, no_fault_rebuilt, none_gathered}
use Rattle.mp4_remux.proofs.PlanningRebuilt.{rebuilt_opened, some_gathered}
use Rattle.mp4_codec.specs.declared.error.Error.TheVariants.{OutOfMemory}
use Rattle.mp4_remux.specs.declared.error.RemuxError.TheVariants.{Mp4}
use Rattle.mp4_remux.specs.Remuxed.{ids_of}
use Rattle.mp4_remux.proofs.rebuild.gather.Goals as goal

pub returns-then-not-has_fragments-clause-written : goal.returns-then-not-has_fragments-clause-written
returns-then-not-has_fragments-clause-written g c =
    let none = c.has_fragments.ensures.none cc in
    writes_as_it_is (g.S.ByteSource.contents c.args.source) _ _ c.copy_all.result (opened_movie c.in_ok-source.movie)
    (rw c.in_ok-source.ensures.contents at c.copy_all.ensures.ok) c.in_ok-source.ensures.file none.0 none.1

pub returns-clause-written : goal.returns-clause-written
returns-clause-written g c =
    writes_gathered (g.S.ByteSource.contents c.args.source) _ _
    (opened_movie c.in_ok-source.movie) _ _ c.in_ok-write_chosen.field-0.items
    (rw c.in_ok-source.ensures.contents at c.in_ok-write_chosen.ensures.written)
    (c.deref.ensures.value ∙ c.in_ok-ids.ensures.ids) (c.deref-2.ensures.value
    ∙ c.in_ok-ids.ensures.ids) (c.has_fragments.ensures.some cc)

pub returns-in_err-source-clause-fault : goal.returns-in_err-source-clause-fault
returns-in_err-source-clause-fault g c =
    let p = err_from_is_err_and c.from_residual.result c.from_residual.ensures.1 in
    passed_on (g.S.ByteSource.contents c.args.source) (g.S.ByteSource.can_refuse c.args.source)
    c.in_err-source.field-0.0 c.from_residual.result (p.1 ∙ ap (λ (e : RemuxError). Err e) p.2)
    c.in_err-source.ensures.fault

pub returns-then-not-has_fragments-clause-fault : goal.returns-then-not-has_fragments-clause-fault
returns-then-not-has_fragments-clause-fault g c =
    no_fault (g.S.ByteSource.contents c.args.source) (g.S.ByteSource.can_refuse c.args.source)
    c.copy_all.result c.in_ok-source.ensures.fault

pub returns-in_err-ids-clause-fault : goal.returns-in_err-ids-clause-fault
returns-in_err-ids-clause-fault g c =
    no_fault (g.S.ByteSource.contents c.args.source) (g.S.ByteSource.can_refuse c.args.source)
    c.from_residual-in_err-ids.result c.in_ok-source.ensures.fault

pub returns-in_err-write_chosen-clause-fault : goal.returns-in_err-write_chosen-clause-fault
returns-in_err-write_chosen-clause-fault g c =
    no_fault (g.S.ByteSource.contents c.args.source) (g.S.ByteSource.can_refuse c.args.source)
    c.from_residual-in_err-write_chosen.result c.in_ok-source.ensures.fault

pub returns-in_err-source-clause-as_it_is : goal.returns-in_err-source-clause-as_it_is
returns-in_err-source-clause-as_it_is g c =
    let p = err_from_is_err_and c.from_residual.result c.from_residual.ensures.1 in
    rw (p.1 ∙ ap (λ (e : RemuxError). Err e) p.2)
    (λ named. not_alone (g.S.ByteSource.contents c.args.source) (c.in_err-source.ensures.opens named))

pub returns-then-not-has_fragments-clause-as_it_is : goal.returns-then-not-has_fragments-clause-as_it_is
returns-then-not-has_fragments-clause-as_it_is g c =
    refused_unnamed (HasMoreThanTables (g.S.ByteSource.contents c.args.source)) _ _ c.copy_all.result
    c.copy_all.ensures.err

pub returns-in_err-ids-clause-as_it_is : goal.returns-in_err-ids-clause-as_it_is
returns-in_err-ids-clause-as_it_is g c =
    refused_anyhow (HasMoreThanTables (g.S.ByteSource.contents c.args.source)) c.from_residual-in_err-ids.result
    (made_not_alone (g.S.ByteSource.contents c.args.source) (opened_movie c.in_ok-source.movie)
    (c.has_fragments.ensures.some cc) c.in_ok-source.ensures.only)

pub returns-in_err-write_chosen-clause-as_it_is : goal.returns-in_err-write_chosen-clause-as_it_is
returns-in_err-write_chosen-clause-as_it_is g c =
    refused_anyhow (HasMoreThanTables (g.S.ByteSource.contents c.args.source))
    c.from_residual-in_err-write_chosen.result
    (made_not_alone (g.S.ByteSource.contents c.args.source) (opened_movie c.in_ok-source.movie)
    (c.has_fragments.ensures.some cc) c.in_ok-source.ensures.only)

pub write_chosen-requires-clause-kept : goal.write_chosen-requires-clause-kept
write_chosen-requires-clause-kept g c =
    are_all (opened_movie c.in_ok-source.movie) _ (c.deref-2.ensures.value ∙ c.in_ok-ids.ensures.ids)

pub write_chosen-requires-clause-all : goal.write_chosen-requires-clause-all
write_chosen-requires-clause-all g c = c.deref.ensures.value ∙ c.in_ok-ids.ensures.ids

pub returns-then-not-has_fragments-clause-planned : goal.returns-then-not-has_fragments-clause-planned
returns-then-not-has_fragments-clause-planned g c =
    none_gathered c.copy_all.result (g.S.ByteSource.contents c.args.source) _ _ (opened_movie c.in_ok-source.movie)
    c.in_ok-source.ensures.only (sym c.has_fragments.ensures.tables ∙ c.if-not-has_fragments.true)

pub returns-clause-planned : goal.returns-clause-planned
returns-clause-planned g c =
    some_gathered (g.S.ByteSource.contents c.args.source) _ _ (opened_movie c.in_ok-source.movie) _
    c.in_ok-source.ensures.only (c.deref-2.ensures.value ∙ c.in_ok-ids.ensures.ids)
    (rw c.in_ok-source.ensures.contents at c.in_ok-write_chosen.ensures.planned)

pub returns-in_err-source-clause-why : goal.returns-in_err-source-clause-why
returns-in_err-source-clause-why g c =
    let p = err_from_is_err_and c.from_residual.result c.from_residual.ensures.1 in
    rw (p.1 ∙ ap (λ (e : RemuxError). Err e) p.2)
    (no_fault_rebuilt (g.S.ByteSource.contents c.args.source) (g.S.ByteSource.can_refuse c.args.source)
    (λ o. ids_of o.moov) _ c.in_err-source.ensures.no_fault)

pub returns-then-not-has_fragments-clause-why : goal.returns-then-not-has_fragments-clause-why
returns-then-not-has_fragments-clause-why g c =
    copy_rebuilt (g.S.ByteSource.contents c.args.source) _ _ (λ o. ids_of o.moov) c.copy_all.result
    c.copy_all.ensures.err

pub returns-in_err-ids-clause-why : goal.returns-in_err-ids-clause-why
returns-in_err-ids-clause-why g c =
    let p = err_from_is_err_and c.from_residual-in_err-ids.result c.from_residual-in_err-ids.ensures.1 in
    rw (p.1 ∙ ap (λ (e : RemuxError). Err e) p.2)
    (memory_opened (g.S.ByteSource.contents c.args.source) (λ o. ids_of o.moov) (Mp4 OutOfMemory) refl)

pub returns-in_err-write_chosen-clause-why : goal.returns-in_err-write_chosen-clause-why
returns-in_err-write_chosen-clause-why g c =
    let p = err_from_is_err_and c.from_residual-in_err-write_chosen.result
    c.from_residual-in_err-write_chosen.ensures.1 in
    rw (p.1 ∙ ap (λ (e : RemuxError). Err e) p.2)
    (rebuilt_opened (g.S.ByteSource.contents c.args.source) (opened_movie c.in_ok-source.movie) _ (λ ids. ids) _
    c.in_ok-source.ensures.only (c.deref-2.ensures.value ∙ c.in_ok-ids.ensures.ids)
    (rw c.in_ok-source.ensures.contents at c.in_err-write_chosen.ensures.why))
