use Rattle.std.proofs.Common.{◌≡◌, Ok, refl}
use Rattle.mp4_codec.specs.Children.{children}
use Rattle.mp4_codec.specs.Early.{early_gathered}
use Rattle.mp4_boxes.specs.Trak.{trak_of, trak_early, trak_child_early}
use Rattle.mp4_boxes.proofs.Media.{trak_of_steps}
use Rattle.mp4_boxes.proofs.ShownEarly.{shown_after}
use Rattle.mp4_boxes.proofs.trak.TrakBoxReadBox.read_payload.Goals as goal

pub returns : goal.returns
unfolding trak_early
returns c =
    let payload = c.args.payload.now in
    let value : trak_of payload ≡ Ok _ =
    rw (trak_of_steps payload, c.in_ok-tkhd.ensures.value, c.in_ok-tkhd-2.ensures) refl in
    record {
      value = value;
      early = shown_after (early_gathered trak_child_early (children payload)) c.in_ok-tkhd.field-0
          (trak_of payload) (Ok _) c.in_ok-tkhd.ensures.early value;
    }
