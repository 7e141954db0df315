use Rattle.std.proofs.Common.{refl, inr, arith}
use Rattle.std.proofs.lemmas.Result.{err_from_is_err_and}
use Rattle.mp4_leaf.specs.Ftyp.{ftyp_of}
use Rattle.mp4_moof.specs.Emsg.{emsg_of}
use Rattle.mp4_boxes.specs.Moov.{moov_of}
use Rattle.mp4_boxes.specs.MoovLaws.{moov_of-has_first_samples}
use Rattle.mp4_moof.specs.Moof.{moof_of}
use Rattle.mp4_media.specs.FileBoxes.{Ftyp, Moov, Moof, Emsg}
use Rattle.mp4_media.proofs.Contents.{has_meaning, meaning-ftyp, meaning-moov, meaning-moof, meaning-emsg, meaning-none}
use Rattle.mp4_media.proofs.FoundBoxes.{box_is_added, box_is_refused, all_known}
use Rattle.mp4_media.proofs.opening.add_content.Goals as goal

pub returns-in_err-ftyp-in-FtypBox-clause-answer : goal.returns-in_err-ftyp-in-FtypBox-clause-answer
returns-in_err-ftyp-in-FtypBox-clause-answer g c =
    let reader = c.args.reader.now in
    let p = err_from_is_err_and c.from_residual.result c.from_residual.ensures.1 in
    rw (p.1, p.2) (box_is_refused Ftyp ftyp_of c.args.header.name (meaning-ftyp c.args.header.name c.in-FtypBox.is)
    (g.S.ByteSource.contents reader.source) c.args.header.size reader.position 0 c.args.found.now c.args.place
    (g.S.ByteSource.can_refuse reader.source) c.in_err-ftyp-in-FtypBox.field-0.0
    c.in_err-ftyp-in-FtypBox.ensures.answer)

pub returns-in_ok-ftyp-in-FtypBox-clause-answer : goal.returns-in_ok-ftyp-in-FtypBox-clause-answer
returns-in_ok-ftyp-in-FtypBox-clause-answer g c =
    let reader = c.args.reader.now in
    box_is_added Ftyp ftyp_of c.args.header.name (meaning-ftyp c.args.header.name c.in-FtypBox.is)
    (g.S.ByteSource.contents reader.source) c.args.header.size reader.position c.read_box.new.self.position
    c.args.found.now c.args.place
    c.in_ok-ftyp-in-FtypBox.ftyp c.in_ok-ftyp-in-FtypBox.ensures.answer

pub returns-in_err-moov-in-MoovBox-clause-answer : goal.returns-in_err-moov-in-MoovBox-clause-answer
returns-in_err-moov-in-MoovBox-clause-answer g c =
    let reader = c.args.reader.now in
    let p = err_from_is_err_and c.from_residual-in_err-moov-in-MoovBox.result
    c.from_residual-in_err-moov-in-MoovBox.ensures.1 in
    rw (p.1, p.2) (box_is_refused Moov moov_of c.args.header.name (meaning-moov c.args.header.name c.in-MoovBox.is)
    (g.S.ByteSource.contents reader.source) c.args.header.size reader.position 0 c.args.found.now c.args.place
    (g.S.ByteSource.can_refuse reader.source) c.in_err-moov-in-MoovBox.field-0.0
    c.in_err-moov-in-MoovBox.ensures.answer)

pub returns-in_ok-moov-in-MoovBox-clause-answer : goal.returns-in_ok-moov-in-MoovBox-clause-answer
returns-in_ok-moov-in-MoovBox-clause-answer g c =
    let reader = c.args.reader.now in
    box_is_added Moov moov_of c.args.header.name (meaning-moov c.args.header.name c.in-MoovBox.is)
    (g.S.ByteSource.contents reader.source) c.args.header.size reader.position c.read_box-in-MoovBox.new.self.position
    c.args.found.now c.args.place
    c.in_ok-moov-in-MoovBox.moov c.in_ok-moov-in-MoovBox.ensures.answer

pub returns-in_err-moof-in-MoofBox-clause-answer : goal.returns-in_err-moof-in-MoofBox-clause-answer
returns-in_err-moof-in-MoofBox-clause-answer g c =
    let reader = c.args.reader.now in
    let p = err_from_is_err_and c.from_residual-in_err-moof-in-MoofBox.result
    c.from_residual-in_err-moof-in-MoofBox.ensures.1 in
    rw (p.1, p.2) (box_is_refused Moof moof_of c.args.header.name (meaning-moof c.args.header.name c.in-MoofBox.is)
    (g.S.ByteSource.contents reader.source) c.args.header.size reader.position 0 c.args.found.now c.args.place
    (g.S.ByteSource.can_refuse reader.source) c.in_err-moof-in-MoofBox.field-0.0
    c.in_err-moof-in-MoofBox.ensures.answer)

pub returns-in_ok-push-in-MoofBox-2-clause-answer : goal.returns-in_ok-push-in-MoofBox-2-clause-answer
returns-in_ok-push-in-MoofBox-2-clause-answer g c =
    let reader = c.args.reader.now in
    rw (c.in_ok-push-in-MoofBox.ensures.ok, c.in_ok-push-in-MoofBox-2.ensures.ok)
    (box_is_added Moof moof_of c.args.header.name (meaning-moof c.args.header.name c.in-MoofBox.is)
    (g.S.ByteSource.contents reader.source) c.args.header.size reader.position c.read_box-in-MoofBox.new.self.position
    c.args.found.now c.args.place
    c.in_ok-moof-in-MoofBox.moof c.in_ok-moof-in-MoofBox.ensures.answer)

pub returns-in_err-emsg-in-EmsgBox-clause-answer : goal.returns-in_err-emsg-in-EmsgBox-clause-answer
returns-in_err-emsg-in-EmsgBox-clause-answer g c =
    let reader = c.args.reader.now in
    let p = err_from_is_err_and c.from_residual-in_err-emsg-in-EmsgBox.result
    c.from_residual-in_err-emsg-in-EmsgBox.ensures.1 in
    rw (p.1, p.2) (box_is_refused Emsg emsg_of c.args.header.name (meaning-emsg c.args.header.name c.in-EmsgBox.is)
    (g.S.ByteSource.contents reader.source) c.args.header.size reader.position 0 c.args.found.now c.args.place
    (g.S.ByteSource.can_refuse reader.source) c.in_err-emsg-in-EmsgBox.field-0.0
    c.in_err-emsg-in-EmsgBox.ensures.answer)

pub returns-in_ok-push-in-EmsgBox-clause-answer : goal.returns-in_ok-push-in-EmsgBox-clause-answer
returns-in_ok-push-in-EmsgBox-clause-answer g c =
    let reader = c.args.reader.now in
    rw c.in_ok-push-in-EmsgBox.ensures.ok
    (box_is_added Emsg emsg_of c.args.header.name (meaning-emsg c.args.header.name c.in-EmsgBox.is)
    (g.S.ByteSource.contents reader.source) c.args.header.size reader.position c.read_box-in-EmsgBox.new.self.position
    c.args.found.now c.args.place
    c.in_ok-emsg-in-EmsgBox.emsg c.in_ok-emsg-in-EmsgBox.ensures.answer)

pub returns-in_ok-moov-in-MoovBox-clause-numbered : goal.returns-in_ok-moov-in-MoovBox-clause-numbered
returns-in_ok-moov-in-MoovBox-clause-numbered g c =
    let value = c.in_ok-moov-in-MoovBox.ensures.value in
    λ before. moov_of-has_first_samples value.0 c.in_ok-moov-in-MoovBox.moov value.1

pub returns-in_err-after-in_default-clause-answer : goal.returns-in_err-after-in_default-clause-answer
returns-in_err-after-in_default-clause-answer g c =
    let p = err_from_is_err_and c.from_residual-in_err-after-in_default.result
    c.from_residual-in_err-after-in_default.ensures.1 in
    let none = meaning-none c.args.header.name c.requires.named c.in_default.not-FtypBox c.in_default.not-MoovBox
    c.in_default.not-MoofBox c.in_default.not-EmsgBox in
    all_known (g.S.ByteSource.contents c.args.reader.now.source) _
    (λ bytes. let skipped = rw c.position-payload.ensures at (c.in_err-after-in_default.ensures.value bytes) in
    rw (p.1, p.2, none, skipped) (inr refl))

pub returns-in_ok-after-in_default-clause-answer : goal.returns-in_ok-after-in_default-clause-answer
returns-in_ok-after-in_default-clause-answer g c =
    let none = meaning-none c.args.header.name c.requires.named c.in_default.not-FtypBox c.in_default.not-MoovBox
    c.in_default.not-MoofBox c.in_default.not-EmsgBox in
    all_known (g.S.ByteSource.contents c.args.reader.now.source) _
    (λ bytes. let skipped = rw c.position-payload.ensures at (c.in_ok-after-in_default.ensures.value bytes) in
    rw (none, skipped, c.set_position.ensures) refl)

pub returns-in_err-ftyp-in-FtypBox-clause-memory : goal.returns-in_err-ftyp-in-FtypBox-clause-memory
returns-in_err-ftyp-in-FtypBox-clause-memory g c =
    let p = err_from_is_err_and c.from_residual.result c.from_residual.ensures.1 in
    rw (p.1, p.2) (λ memory. (
      has_meaning c.args.header.name _ (meaning-ftyp c.args.header.name c.in-FtypBox.is),
      c.in_err-ftyp-in-FtypBox.ensures.fits memory,
    ))

pub returns-in_err-moov-in-MoovBox-clause-memory : goal.returns-in_err-moov-in-MoovBox-clause-memory
returns-in_err-moov-in-MoovBox-clause-memory g c =
    let p = err_from_is_err_and c.from_residual-in_err-moov-in-MoovBox.result c.from_residual-in_err-moov-in-MoovBox.ensures.1 in
    rw (p.1, p.2) (λ memory. (
      has_meaning c.args.header.name _ (meaning-moov c.args.header.name c.in-MoovBox.is),
      c.in_err-moov-in-MoovBox.ensures.fits memory,
    ))

pub returns-in_err-moof-in-MoofBox-clause-memory : goal.returns-in_err-moof-in-MoofBox-clause-memory
returns-in_err-moof-in-MoofBox-clause-memory g c =
    let p = err_from_is_err_and c.from_residual-in_err-moof-in-MoofBox.result c.from_residual-in_err-moof-in-MoofBox.ensures.1 in
    rw (p.1, p.2) (λ memory. (
      has_meaning c.args.header.name _ (meaning-moof c.args.header.name c.in-MoofBox.is),
      c.in_err-moof-in-MoofBox.ensures.fits memory,
    ))

pub returns-in_err-emsg-in-EmsgBox-clause-memory : goal.returns-in_err-emsg-in-EmsgBox-clause-memory
returns-in_err-emsg-in-EmsgBox-clause-memory g c =
    let p = err_from_is_err_and c.from_residual-in_err-emsg-in-EmsgBox.result c.from_residual-in_err-emsg-in-EmsgBox.ensures.1 in
    rw (p.1, p.2) (λ memory. (
      has_meaning c.args.header.name _ (meaning-emsg c.args.header.name c.in-EmsgBox.is),
      c.in_err-emsg-in-EmsgBox.ensures.fits memory,
    ))

pub returns-in_err-push-in-MoofBox-clause-memory : goal.returns-in_err-push-in-MoofBox-clause-memory
returns-in_err-push-in-MoofBox-clause-memory g c =
    let p = err_from_is_err_and c.from_residual-in_err-push-in-MoofBox.result
    c.from_residual-in_err-push-in-MoofBox.ensures.1 in
    let read = c.in_ok-moof-in-MoofBox.ensures in
    rw (p.1, p.2) (λ memory. (
      has_meaning c.args.header.name _ (meaning-moof c.args.header.name c.in-MoofBox.is),
      omega (arith, read.moved, read.within),
    ))

pub returns-in_err-push-in-MoofBox-2-clause-memory : goal.returns-in_err-push-in-MoofBox-2-clause-memory
returns-in_err-push-in-MoofBox-2-clause-memory g c =
    let p = err_from_is_err_and c.from_residual-in_err-push-in-MoofBox-2.result
    c.from_residual-in_err-push-in-MoofBox-2.ensures.1 in
    let read = c.in_ok-moof-in-MoofBox.ensures in
    rw (p.1, p.2) (λ memory. (
      has_meaning c.args.header.name _ (meaning-moof c.args.header.name c.in-MoofBox.is),
      omega (arith, read.moved, read.within),
    ))

pub returns-in_err-push-in-EmsgBox-clause-memory : goal.returns-in_err-push-in-EmsgBox-clause-memory
returns-in_err-push-in-EmsgBox-clause-memory g c =
    let p = err_from_is_err_and c.from_residual-in_err-push-in-EmsgBox.result
    c.from_residual-in_err-push-in-EmsgBox.ensures.1 in
    let read = c.in_ok-emsg-in-EmsgBox.ensures in
    rw (p.1, p.2) (λ memory. (
      has_meaning c.args.header.name _ (meaning-emsg c.args.header.name c.in-EmsgBox.is),
      omega (arith, read.moved, read.within),
    ))
