-- A matrix is read as it was written.
use Rattle.std.proofs.Common.{◌≡◌, ℕ, List, length, Ok, refl}
use Rattle.mp4_codec.specs.Bytes.{◌⧺◌}
use Rattle.mp4_codec.specs.FieldLaws.{int32_again, length-int32, length-then, then_assoc}
use Rattle.mp4_leaf.specs.declared.matrix.Matrix.{Matrix}
use Rattle.mp4_leaf.specs.Matrix.{matrix_at, matrix, IsInRangeMatrix}

pub length-matrix : (m : Matrix) → length (matrix m) ≡ 36
unfolding matrix
length-matrix m = simp (length-then, length-int32)

pub matrix_again : (m : Matrix) (rest : List ℕ) → IsInRangeMatrix m → matrix_at (matrix m ⧺ rest) ≡ Ok (m, rest)
unfolding matrix_at matrix
matrix_again m rest f =
    simp then_assoc (rw (
      int32_again m.a _ f.a,
      int32_again m.b _ f.b,
      int32_again m.u _ f.u,
      int32_again m.c _ f.c,
      int32_again m.d _ f.d,
      int32_again m.v _ f.v,
      int32_again m.x _ f.x,
      int32_again m.y _ f.y,
      int32_again m.w _ f.w,
    ) refl)
