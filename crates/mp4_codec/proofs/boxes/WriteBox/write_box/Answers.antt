use Rattle.std.proofs.Common.{◌≡◌, ◌∙◌, length, refl, arith}
use Rattle.mp4_codec.specs.Boxes.{box_bytes}
use Rattle.mp4_codec.specs.FramingLaws.{length-box_bytes}
use Rattle.mp4_codec.proofs.boxes.WriteBox.write_box.Goals as goal

pub returns-clause-bytes : goal.returns-clause-bytes
returns-clause-bytes g c =
    let payload = g.Self.Mp4Box.payload c.args.self.now in
    let whole = box_bytes g.Self.Mp4Box.KIND payload in
    let made : c.put_box.new.out.items ≡ whole = c.in_ok-put_box.ensures.is ∙ rw c.in_ok-bytes.ensures.items refl in
    let size : c.box_size-size.result ≡ length whole =
    omega (arith, length-box_bytes g.Self.Mp4Box.KIND payload, c.box_size-size.ensures) in
    (rw (c.in_ok-extend_from_slice.ensures.items, c.deref.ensures.value, made) refl, size)
