use Rattle.std.proofs.Common.{◌≡◌, ◌+◌, length, arith}
use Rattle.mp4_codec.specs.Boxes.{box_bytes}
use Rattle.mp4_codec.specs.PutLaws.{◌then◌, number_piece}
use Rattle.mp4_meta.specs.Ilst.{item_payload}
use Rattle.mp4_meta.proofs.ilst.put_boxed.Goals as goal

pub returns : goal.returns
unfolding box_bytes item_payload
returns c =
    let size : c.boxed_size.result ≡ 8 + length (item_payload c.args.item.now) =
    omega (arith, c.boxed_size.ensures, c.requires) in
    number_piece 4 _ _ size c.in_ok-put_u32.ensures
    then number_piece 4 _ _ c.from.ensures c.in_ok-put_u32-2.ensures
    then c.in_ok-put_box.ensures
