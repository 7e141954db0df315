use Rattle.std.proofs.Common.{refl}
use Rattle.mp4_codec.specs.Cause.{cause_of}
use Rattle.mp4_leaf.specs.Ftyp.{ftyp_of}
use Rattle.mp4_boxes.specs.Moov.{moov_of}
use Rattle.mp4_moof.specs.Moof.{moof_of}
use Rattle.mp4_moof.specs.Emsg.{emsg_of}
use Rattle.mp4_media.specs.FileBoxes.{Ftyp, Moov, Moof, Emsg}
use Rattle.mp4_media.proofs.Contents.{meaning-ftyp, meaning-moov, meaning-moof, meaning-emsg}
use Rattle.mp4_faults.specs.Refusal.{payload_fault, table_fault, other_fault}
use Rattle.mp4_faults.proofs.Content.{means, meaningless_for}
use Rattle.mp4_faults.proofs.top_level.add_content.Goals as goal

pub returns-in-Ok : goal.returns-in-Ok
returns-in-Ok c =
    let top = c.args.top.now in
    let value = rw c.in-Ok.is at c.in_ok-ftyp-in-FtypBox.ensures in (
      Ftyp c.in-Ok.ftyp,
      means Ftyp ftyp_of top.name top.payload.now (meaning-ftyp top.name c.in-FtypBox.is) c.in-Ok.ftyp value,
      record { names = refl; ftyp = refl; moov = refl; moov_place = refl; moofs = refl; moof_places = refl },
    )

pub returns-in-Err : goal.returns-in-Err
unfolding payload_fault table_fault other_fault
returns-in-Err c =
    let top = c.args.top.now in
    let value = rw c.in-Err.is at c.in_ok-ftyp-in-FtypBox.ensures in record {
      names = refl;
      means = meaningless_for Ftyp ftyp_of top.name top.payload.now (meaning-ftyp top.name c.in-FtypBox.is)
          (cause_of c.in-Err.error) value;
      fault = rw (c.in-FtypBox.is, value) refl;
    }

pub returns-in-Ok-2 : goal.returns-in-Ok-2
returns-in-Ok-2 c =
    let top = c.args.top.now in
    let value = rw c.in-Ok-2.is at c.in_ok-moov-in-MoovBox.ensures in (
      Moov c.in-Ok-2.moov,
      means Moov moov_of top.name top.payload.now (meaning-moov top.name c.in-MoovBox.is) c.in-Ok-2.moov value,
      record { names = refl; ftyp = refl; moov = refl; moov_place = refl; moofs = refl; moof_places = refl },
    )

pub returns-in-Err-2 : goal.returns-in-Err-2
unfolding payload_fault table_fault other_fault
returns-in-Err-2 c =
    let top = c.args.top.now in
    let value = rw c.in-Err-2.is at c.in_ok-moov-in-MoovBox.ensures in record {
      names = refl;
      means = meaningless_for Moov moov_of top.name top.payload.now (meaning-moov top.name c.in-MoovBox.is)
          (cause_of c.in-Err-2.error) value;
      fault = rw (c.in-MoovBox.is, value) refl;
    }

pub returns-in_ok-push-in-Ok-3-2 : goal.returns-in_ok-push-in-Ok-3-2
returns-in_ok-push-in-Ok-3-2 c =
    let top = c.args.top.now in
    let value = rw c.in-Ok-3.is at c.in_ok-moof-in-MoofBox.ensures in (
      Moof c.in-Ok-3.moof,
      means Moof moof_of top.name top.payload.now (meaning-moof top.name c.in-MoofBox.is) c.in-Ok-3.moof value,
      record {
        names = refl;
        ftyp = refl;
        moov = refl;
        moov_place = refl;
        moofs = c.in_ok-push-in-Ok-3.ensures.ok;
        moof_places = c.in_ok-push-in-Ok-3-2.ensures.ok;
      },
    )

pub returns-in-Err-3 : goal.returns-in-Err-3
unfolding payload_fault table_fault other_fault
returns-in-Err-3 c =
    let top = c.args.top.now in
    let value = rw c.in-Err-3.is at c.in_ok-moof-in-MoofBox.ensures in record {
      names = refl;
      means = meaningless_for Moof moof_of top.name top.payload.now (meaning-moof top.name c.in-MoofBox.is)
          (cause_of c.in-Err-3.error) value;
      fault = rw (c.in-MoofBox.is, value) refl;
    }

pub returns-in-Ok-4 : goal.returns-in-Ok-4
returns-in-Ok-4 c =
    let top = c.args.top.now in
    let value = rw c.in-Ok-4.is at c.in_ok-emsg-in-EmsgBox.ensures in (
      Emsg c.in-Ok-4.emsg,
      means Emsg emsg_of top.name top.payload.now (meaning-emsg top.name c.in-EmsgBox.is) c.in-Ok-4.emsg value,
      record { names = refl; ftyp = refl; moov = refl; moov_place = refl; moofs = refl; moof_places = refl },
    )

pub returns-in-Err-4 : goal.returns-in-Err-4
unfolding payload_fault table_fault other_fault
returns-in-Err-4 c =
    let top = c.args.top.now in
    let value = rw c.in-Err-4.is at c.in_ok-emsg-in-EmsgBox.ensures in record {
      names = refl;
      means = meaningless_for Emsg emsg_of top.name top.payload.now (meaning-emsg top.name c.in-EmsgBox.is)
          (cause_of c.in-Err-4.error) value;
      fault = rw (c.in-EmsgBox.is, value) refl;
    }
