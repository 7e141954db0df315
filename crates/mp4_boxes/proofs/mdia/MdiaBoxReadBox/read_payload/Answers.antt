use Rattle.std.proofs.Common.{◌≡◌, Ok, refl}
use Rattle.mp4_codec.specs.Children.{children}
use Rattle.mp4_codec.specs.Early.{early_gathered}
use Rattle.mp4_boxes.specs.Mdia.{mdia_of, mdia_early, mdia_child_early}
use Rattle.mp4_boxes.proofs.Media.{mdia_of_steps}
use Rattle.mp4_boxes.proofs.ShownEarly.{shown_after}
use Rattle.mp4_boxes.proofs.mdia.MdiaBoxReadBox.read_payload.Goals as goal

pub returns : goal.returns
unfolding mdia_early
returns c =
    let payload = c.args.payload.now in
    let value : mdia_of payload ≡ Ok _ =
    rw (mdia_of_steps payload, c.in_ok-mdhd.ensures.value, c.in_ok-mdhd-2.ensures) refl in
    record {
      value = value;
      early = shown_after (early_gathered mdia_child_early (children payload)) c.in_ok-mdhd.field-0
          (mdia_of payload) (Ok _) c.in_ok-mdhd.ensures.early value;
    }
