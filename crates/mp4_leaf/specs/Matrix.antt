-- The matrix of a movie or a track, row by row (ISO/IEC 14496-12, 8.2.2 and 8.3.2).
use Rattle.std.specs.Prelude.{ℕ, List, Ok, FitsSigned, pos}
use Rattle.std.specs.Int.{w32}
use Rattle.mp4_codec.specs.Cause.{◌>>=◌}
use Rattle.mp4_codec.specs.Bytes.{Reader, int32_at, int32, ◌⧺◌}
use Rattle.mp4_leaf.specs.declared.matrix.Matrix.{Matrix}

unfoldable pub matrix_at : Reader Matrix
matrix_at bytes = do
  a ← int32_at bytes
  b ← int32_at a.1
  u ← int32_at b.1
  c ← int32_at u.1
  d ← int32_at c.1
  v ← int32_at d.1
  x ← int32_at v.1
  y ← int32_at x.1
  w ← int32_at y.1
  Ok (record { a = a.0; b = b.0; u = u.0; c = c.0; d = d.0; v = v.0; x = x.0; y = y.0; w = w.0 }, w.1)

unfoldable pub matrix : Matrix → List ℕ
matrix m = int32 m.a ⧺ int32 m.b ⧺ int32 m.u ⧺ int32 m.c ⧺ int32 m.d ⧺ int32 m.v ⧺ int32 m.x ⧺ int32 m.y ⧺ int32 m.w

-- each number is a signed number of 32 bits
pub record IsInRangeMatrix (m : Matrix) : Type 0 where
  pub a : FitsSigned w32 m.a
  pub b : FitsSigned w32 m.b
  pub u : FitsSigned w32 m.u
  pub c : FitsSigned w32 m.c
  pub d : FitsSigned w32 m.d
  pub v : FitsSigned w32 m.v
  pub x : FitsSigned w32 m.x
  pub y : FitsSigned w32 m.y
  pub w : FitsSigned w32 m.w

-- the matrix that changes nothing
abbrev pub unity : Matrix
unity = record {
  a = pos 0x00010000;
  b = pos 0;
  u = pos 0;
  c = pos 0;
  d = pos 0x00010000;
  v = pos 0;
  x = pos 0;
  y =
      pos 0;
  w = pos 0x40000000;
}
