use Rattle.std.proofs.Common.{◌∙◌, ap, arith, ◌+◌, length, ◌≡◌}
use Rattle.mp4_codec.specs.BoxType.{code_of}
use Rattle.mp4_codec.specs.Boxes.{box_bytes}
use Rattle.mp4_codec.specs.PutLaws.{◌then◌, number_piece}
use Rattle.mp4_codec.proofs.boxes.WriteBox.put_box.Goals as goal

pub returns : goal.returns
unfolding box_bytes
returns g c =
    let payload = g.Self.Mp4Box.payload c.args.self.now in
    let size : c.box_size.result ≡ 8 + length payload = omega (arith, c.box_size.ensures) in
    let code : c.from.result ≡ code_of g.Self.Mp4Box.KIND = c.from.ensures ∙ ap code_of c.box_type.ensures in
    number_piece 4 _ _ size c.in_ok-put_u32.ensures
    then number_piece 4 _ _ code c.in_ok-put_u32-2.ensures
    then c.in_ok-put_payload.ensures
