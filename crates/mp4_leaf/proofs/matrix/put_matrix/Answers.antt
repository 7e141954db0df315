use Rattle.std.proofs.Common.{rules}
use Rattle.mp4_codec.specs.PutLaws.{◌then◌, int32_piece}
use Rattle.mp4_leaf.specs.Matrix.{matrix}
use Rattle.mp4_leaf.proofs.matrix.put_matrix.Goals as goal

pub returns : goal.returns
unfolding matrix
returns c =
    let m = c.args.m.now in
    int32_piece m.a (search rules) c.in_ok-put_i32.ensures
    then int32_piece m.b (search rules) c.in_ok-put_i32-2.ensures
    then int32_piece m.u (search rules) c.in_ok-put_i32-3.ensures
    then int32_piece m.c (search rules) c.in_ok-put_i32-4.ensures
    then int32_piece m.d (search rules) c.in_ok-put_i32-5.ensures
    then int32_piece m.v (search rules) c.in_ok-put_i32-6.ensures
    then int32_piece m.x (search rules) c.in_ok-put_i32-7.ensures
    then int32_piece m.y (search rules) c.in_ok-put_i32-8.ensures
    then int32_piece m.w (search rules) c.in_ok-put_i32-9.ensures
