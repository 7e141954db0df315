use Rattle.std.proofs.Common.{arith}
use Rattle.mp4_codec.specs.PutLaws.{◌then◌, number_piece}
use Rattle.mp4_leaf.specs.Elst.{elst_payload}
use Rattle.mp4_leaf.specs.ElstLaws.{elst_entries-fit}
use Rattle.mp4_leaf.proofs.elst.ElstBoxWriteBox.put_payload.Goals as goal

pub returns : goal.returns
unfolding elst_payload
returns c =
    c.in_ok-put_u8.ensures
    then c.in_ok-put_u24.ensures
    then number_piece 4 _ _ c.len.ensures.value c.in_ok-put_u32.ensures
    then (rw c.as_slice.ensures at c.in_ok-put_list.ensures)

pub overflow_cast-len : goal.overflow_cast-len
overflow_cast-len c = omega (arith, c.requires, c.len.ensures.value, elst_entries-fit c.args.self.now)
