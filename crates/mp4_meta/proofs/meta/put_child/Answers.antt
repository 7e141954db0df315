use Rattle.std.proofs.Common.{◌≡◌, ◌+◌, length, arith}
use Rattle.mp4_codec.specs.Boxes.{box_bytes}
use Rattle.mp4_codec.specs.PutLaws.{◌then◌, number_piece}
use Rattle.mp4_meta.proofs.meta.put_child.Goals as goal

pub returns : goal.returns
unfolding box_bytes
returns c =
    let size : c.size_as_box.result ≡ 8 + length c.args.payload.now =
    omega (arith, c.size_as_box.ensures, c.requires) in
    number_piece 4 _ _ size c.in_ok-put_u32.ensures
    then number_piece 4 _ _ c.from.ensures c.in_ok-put_u32-2.ensures
    then rw c.as_slice.ensures at c.in_ok-put_bytes.ensures
