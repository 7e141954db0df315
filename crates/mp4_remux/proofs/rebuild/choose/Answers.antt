use Rattle.std.proofs.Common.{◌∙◌, Err, ap, inl, refl, sym}
use Rattle.mp4_remux.specs.Remuxed.{ids_of, kept_of}
use Rattle.mp4_media.specs.FileBoxes.{opened_movie}
use Rattle.mp4_remux.proofs.Choosing.{missing_said, missing_unopened, none_missing}
use Rattle.mp4_remux.proofs.Rebuilding.{writes_chosen}
use Rattle.std.proofs.lemmas.Result.{err_from_is_err_and}
use Rattle.mp4_codec.specs.declared.error.Error.TheVariants.{OutOfMemory}
use Rattle.mp4_remux.specs.declared.error.RemuxError.{RemuxError}
use Rattle.mp4_remux.proofs.Faults.{no_fault, passed_on}
use Rattle.mp4_remux.proofs.PlanningRebuilt.{answer_chosen, answer_made, chosen_opened, missing_opened}
use Rattle.mp4_remux.proofs.PlanningRebuilt.{no_fault_rebuilt}
use Rattle.mp4_remux.proofs.rebuild.choose.Goals as goal

pub returns-clause-written : goal.returns-clause-written
returns-clause-written g c =
    writes_chosen (λ list. list.items) (g.S.ByteSource.contents c.args.source) _ _ c.write_chosen.result
    (opened_movie c.in_ok-source.movie) _ _ c.args.ids.now
    (rw c.in_ok-source.ensures.contents at c.write_chosen.ensures.written)
    (c.deref-2.ensures.value ∙ c.in_ok-all.ensures.ids)
    (c.deref-3.ensures.value ∙ c.in_ok-kept.ensures.ids
    ∙ ap (kept_of c.args.ids.now) (c.deref.ensures.value ∙ sym c.deref-2.ensures.value)) c.in_ok-kept.ensures.there

pub returns-in_err-source-clause-fault : goal.returns-in_err-source-clause-fault
returns-in_err-source-clause-fault g c =
    let p = err_from_is_err_and c.from_residual.result c.from_residual.ensures.1 in
    passed_on (g.S.ByteSource.contents c.args.source) (g.S.ByteSource.can_refuse c.args.source)
    c.in_err-source.field-0.0 c.from_residual.result (p.1 ∙ ap (λ (e : RemuxError). Err e) p.2)
    c.in_err-source.ensures.fault

pub returns-in_err-kept-clause-fault : goal.returns-in_err-kept-clause-fault
returns-in_err-kept-clause-fault g c =
    no_fault (g.S.ByteSource.contents c.args.source) (g.S.ByteSource.can_refuse c.args.source)
    c.from_residual-in_err-kept.result c.in_ok-source.ensures.fault

pub returns-clause-fault : goal.returns-clause-fault
returns-clause-fault g c =
    no_fault (g.S.ByteSource.contents c.args.source) (g.S.ByteSource.can_refuse c.args.source)
    c.write_chosen.result c.in_ok-source.ensures.fault

pub returns-in_err-all-clause-fault : goal.returns-in_err-all-clause-fault
returns-in_err-all-clause-fault g c =
    no_fault (g.S.ByteSource.contents c.args.source) (g.S.ByteSource.can_refuse c.args.source)
    c.from_residual-in_err-all.result c.in_ok-source.ensures.fault

pub returns-in_err-source-clause-missing : goal.returns-in_err-source-clause-missing
returns-in_err-source-clause-missing g c =
    let p = err_from_is_err_and c.from_residual.result c.from_residual.ensures.1 in
    missing_unopened (g.S.ByteSource.contents c.args.source) (g.S.ByteSource.can_refuse c.args.source) c.args.ids.now
    c.in_err-source.field-0.0 c.from_residual.result (p.1 ∙ ap (λ (e : RemuxError). Err e) p.2)
    c.in_err-source.ensures.no_fault

pub returns-in_err-all-clause-missing : goal.returns-in_err-all-clause-missing
returns-in_err-all-clause-missing g c =
    let p = err_from_is_err_and c.from_residual-in_err-all.result c.from_residual-in_err-all.ensures.1 in
    missing_said (g.S.ByteSource.contents c.args.source) (g.S.ByteSource.can_refuse c.args.source)
    (opened_movie c.in_ok-source.movie) c.args.ids.now OutOfMemory c.from_residual-in_err-all.result
    (p.1 ∙ ap (λ (e : RemuxError). Err e) p.2) c.in_ok-source.ensures.only (inl refl)

pub returns-in_err-kept-clause-missing : goal.returns-in_err-kept-clause-missing
returns-in_err-kept-clause-missing g c =
    let p = err_from_is_err_and c.from_residual-in_err-kept.result c.from_residual-in_err-kept.ensures.1 in
    missing_said (g.S.ByteSource.contents c.args.source) (g.S.ByteSource.can_refuse c.args.source)
    (opened_movie c.in_ok-source.movie) c.args.ids.now c.in_err-kept.field-0.0 c.from_residual-in_err-kept.result
    (p.1 ∙ ap (λ (e : RemuxError). Err e) p.2) c.in_ok-source.ensures.only c.in_err-kept.ensures.missing

pub returns-clause-missing : goal.returns-clause-missing
returns-clause-missing g c =
    none_missing (g.S.ByteSource.contents c.args.source) (g.S.ByteSource.can_refuse c.args.source)
    (opened_movie c.in_ok-source.movie) c.args.ids.now c.write_chosen.result c.in_ok-source.ensures.only
    c.in_ok-kept.ensures.there

pub write_chosen-requires-clause-kept : goal.write_chosen-requires-clause-kept
write_chosen-requires-clause-kept g c = (
  c.args.ids.now,
  c.deref-3.ensures.value ∙ c.in_ok-kept.ensures.ids
      ∙ ap (kept_of c.args.ids.now) (c.deref.ensures.value ∙ c.in_ok-all.ensures.ids),
)

pub write_chosen-requires-clause-all : goal.write_chosen-requires-clause-all
write_chosen-requires-clause-all g c = c.deref-2.ensures.value ∙ c.in_ok-all.ensures.ids

pub returns-in_err-source-clause-why : goal.returns-in_err-source-clause-why
returns-in_err-source-clause-why g c =
    let p = err_from_is_err_and c.from_residual.result c.from_residual.ensures.1 in
    rw (p.1 ∙ ap (λ (e : RemuxError). Err e) p.2)
    (chosen_opened (g.S.ByteSource.contents c.args.source) c.args.ids.now _
    (no_fault_rebuilt (g.S.ByteSource.contents c.args.source) (g.S.ByteSource.can_refuse c.args.source)
    (λ o. kept_of c.args.ids.now (ids_of o.moov)) _ c.in_err-source.ensures.no_fault))

pub returns-in_err-all-clause-why : goal.returns-in_err-all-clause-why
returns-in_err-all-clause-why g c =
    let p = err_from_is_err_and c.from_residual-in_err-all.result c.from_residual-in_err-all.ensures.1 in
    rw (p.1 ∙ ap (λ (e : RemuxError). Err e) p.2)
    (missing_opened (g.S.ByteSource.contents c.args.source) (opened_movie c.in_ok-source.movie) c.args.ids.now
    OutOfMemory c.in_ok-source.ensures.only (inl refl))

pub returns-in_err-kept-clause-why : goal.returns-in_err-kept-clause-why
returns-in_err-kept-clause-why g c =
    let p = err_from_is_err_and c.from_residual-in_err-kept.result c.from_residual-in_err-kept.ensures.1 in
    rw (p.1 ∙ ap (λ (e : RemuxError). Err e) p.2)
    (missing_opened (g.S.ByteSource.contents c.args.source) (opened_movie c.in_ok-source.movie) c.args.ids.now
    c.in_err-kept.field-0.0 c.in_ok-source.ensures.only c.in_err-kept.ensures.missing)

pub returns-clause-why : goal.returns-clause-why
returns-clause-why g c =
    answer_chosen c.write_chosen.result (g.S.ByteSource.contents c.args.source) (opened_movie c.in_ok-source.movie) _
    c.args.ids.now c.in_ok-source.ensures.only
    (c.deref-3.ensures.value ∙ c.in_ok-kept.ensures.ids
    ∙ ap (kept_of c.args.ids.now) (c.deref.ensures.value ∙ c.in_ok-all.ensures.ids))
    (rw c.in_ok-source.ensures.contents at c.write_chosen.ensures.why)

pub returns-clause-planned : goal.returns-clause-planned
returns-clause-planned g c =
    answer_made c.write_chosen.result (g.S.ByteSource.contents c.args.source) _ _
    (opened_movie c.in_ok-source.movie) _ (kept_of c.args.ids.now) c.in_ok-source.ensures.only
    (c.deref-3.ensures.value ∙ c.in_ok-kept.ensures.ids
    ∙ ap (kept_of c.args.ids.now) (c.deref.ensures.value ∙ c.in_ok-all.ensures.ids))
    (rw c.in_ok-source.ensures.contents at c.write_chosen.ensures.planned)
