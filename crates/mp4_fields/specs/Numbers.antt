-- Numbers of fields that are signed, or that count parts of one.
use Rattle.std.specs.Prelude.{ℕ, ℤ, pos, ◌*◌, ◌^◌, ◌-ℤ◌, ◌&&◌, ◌==◌, nat_lt, if◌then◌else◌, List, [], ◌∷◌}
use Rattle.std.specs.Float.{Float, binary64, two_to}
use Rattle.std.specs.Float.Ieee.{div, of_int}
use Rattle.mp4_leaf.specs.declared.elst.ElstEntry.{ElstEntry}
use Rattle.mp4_leaf.specs.declared.matrix.Matrix.{Matrix}
use Rattle.mp4_table.specs.declared.ctts.CttsEntry.{CttsEntry}
use Rattle.mp4_table.specs.declared.stsc.StscEntry.{StscEntry}
use Rattle.mp4_table.specs.declared.stts.SttsEntry.{SttsEntry}

-- so many parts of one, of which one has 2 ^ bits
unfoldable pub fraction : ℤ → ℕ → Float
fraction parts bits = div binary64 (of_int binary64 parts) (two_to bits)

-- the nine numbers of a matrix in file order, a b u, c d v, x y w: u, v and w have 2.30 bits, the others 16.16 (ISO/IEC
-- 14496-12, 8.2.2)
unfoldable pub matrix_numbers : Matrix → List Float
matrix_numbers m = fraction m.a 16 ∷ fraction m.b 16 ∷ fraction m.u 30
    ∷ fraction m.c 16 ∷ fraction m.d 16 ∷ fraction m.v 30
    ∷ fraction m.x 16 ∷ fraction m.y 16 ∷ fraction m.w 30 ∷ []

-- the number that so many bits say in two's complement: those of the upper half are below 0
abbrev pub twos_complement : ℕ → ℕ → ℤ
twos_complement bits number = if nat_lt (2 * number) (2 ^ bits) then pos number else pos number -ℤ pos (2 ^ bits)

-- a media time: of 32 bits in version 0, else of 64 (ISO/IEC 14496-12, 8.6.6)
abbrev pub signed_time : ℕ → ℕ → ℤ
signed_time media_time version =
    if (version == 0) && nat_lt media_time (2 ^ 32) then twos_complement 32 media_time else
    twos_complement 64 media_time

-- the cells of an entry of an edit list
unfoldable pub elst_cells : ElstEntry → ℕ → List ℤ
elst_cells e version = pos e.segment_duration ∷ signed_time e.media_time version
    ∷ twos_complement 16 e.media_rate ∷ twos_complement 16 e.media_rate_fraction ∷ []

-- those of entries of sample tables; what is past their columns is 0
unfoldable pub stts_cells : SttsEntry → List ℤ
stts_cells e = pos e.sample_count ∷ pos e.sample_delta ∷ pos 0 ∷ pos 0 ∷ []

unfoldable pub ctts_cells : CttsEntry → List ℤ
ctts_cells e = pos e.sample_count ∷ e.sample_offset ∷ pos 0 ∷ pos 0 ∷ []

unfoldable pub stsc_cells : StscEntry → List ℤ
stsc_cells e = pos e.first_chunk ∷ pos e.samples_per_chunk ∷ pos e.sample_description_index ∷ pos 0 ∷ []
