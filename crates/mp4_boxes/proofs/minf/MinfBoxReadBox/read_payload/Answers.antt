use Rattle.std.proofs.Common.{◌≡◌, Ok, refl}
use Rattle.mp4_codec.specs.Children.{children}
use Rattle.mp4_codec.specs.Early.{early_gathered}
use Rattle.mp4_boxes.specs.Minf.{minf_of, minf_early, minf_child_early}
use Rattle.mp4_boxes.proofs.Tables.{minf_of_steps}
use Rattle.mp4_boxes.proofs.ShownEarly.{shown_after}
use Rattle.mp4_boxes.proofs.minf.MinfBoxReadBox.read_payload.Goals as goal

pub returns : goal.returns
unfolding minf_early
returns c =
    let payload = c.args.payload.now in
    let value : minf_of payload ≡ Ok _ =
    rw (minf_of_steps payload, c.in_ok-vmhd.ensures.value, c.in_ok-dinf.ensures) refl in
    record {
      value = value;
      early = shown_after (early_gathered minf_child_early (children payload)) c.in_ok-vmhd.field-0
          (minf_of payload) (Ok _) c.in_ok-vmhd.ensures.early value;
    }
