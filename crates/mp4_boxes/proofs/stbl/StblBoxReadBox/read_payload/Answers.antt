use Rattle.std.proofs.Common.{◌≡◌, Ok, Err, refl}
use Rattle.mp4_codec.specs.Cause.{cause_of}
use Rattle.mp4_codec.specs.Children.{children}
use Rattle.mp4_codec.specs.Early.{early_gathered}
use Rattle.mp4_boxes.specs.Stbl.{stbl_of, stbl_early, stbl_child_early}
use Rattle.mp4_boxes.proofs.Tables.{stbl_of_steps}
use Rattle.mp4_boxes.proofs.ShownEarly.{shown_after}
use Rattle.mp4_boxes.proofs.stbl.StblBoxReadBox.read_payload.Goals as goal

pub returns-in-Ok : goal.returns-in-Ok
unfolding stbl_early
returns-in-Ok c =
    let payload = c.args.payload.now in
    let value : stbl_of payload ≡ Ok _ =
    rw (stbl_of_steps payload, c.in_ok-stsd.ensures.value, c.in_ok-stsd-2.ensures, c.in-Ok.ensures) refl in
    record {
      value = value;
      early = shown_after (early_gathered stbl_child_early (children payload)) c.in_ok-stsd.field-0
          (stbl_of payload) (Ok _) c.in_ok-stsd.ensures.early value;
    }

pub returns-in-Err-clause-early : goal.returns-in-Err-clause-early
unfolding stbl_early
returns-in-Err-clause-early c =
    let payload = c.args.payload.now in
    let value : stbl_of payload ≡ Err (cause_of c.in-Err.error) =
    rw (stbl_of_steps payload, c.in_ok-stsd.ensures.value, c.in_ok-stsd-2.ensures, c.in-Err.ensures) refl in
    shown_after (early_gathered stbl_child_early (children payload)) c.in_ok-stsd.field-0 (stbl_of payload)
    (Err c.in-Err.error) c.in_ok-stsd.ensures.early value
