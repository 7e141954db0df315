-- Sizes are read as they were written.
use Rattle.std.proofs.Common.{◌≡◌, ◌+◌, ◌*◌, Bool, true, false, cond, eqb, length, Some, None, Ok, refl, arith}
use Rattle.std.proofs.lemmas.Bool.{eqb-true}
use Rattle.mp4_codec.specs.Cause.{invalid_data}
use Rattle.mp4_codec.specs.WriteLaws.{is_written}
use Rattle.mp4_codec.specs.FieldLaws.{number_again, numbers_last, length-number, length-numbers, length-then}
use Rattle.mp4_table.specs.declared.stsz.StszBox.{StszBox}
use Rattle.mp4_table.specs.Stsz.{listed, stsz_of, stsz_payload, stsz_refusal, IsCanonicalStsz}

pub length-stsz_payload : (b : StszBox) → length (stsz_payload b) ≡ 12 + length b.sample_sizes * 4
unfolding stsz_payload
length-stsz_payload b = simp (length-then, length-number, length-numbers) (omega arith)

-- a table that is written lists just the sizes that the other fields ask for
are_listed : (b : StszBox) → stsz_refusal b ≡ None → length b.sample_sizes ≡ listed b.sample_size b.sample_count
unfolding stsz_refusal
are_listed b e = chosen (eqb (length b.sample_sizes) (listed b.sample_size b.sample_count)) (eqb-true _ _) e
  where
    chosen : (t : Bool) → (t ≡ true → length b.sample_sizes ≡ listed b.sample_size b.sample_count)
        → cond t None (Some invalid_data) ≡ None
        → length b.sample_sizes ≡ listed b.sample_size b.sample_count
    chosen true h e = h refl
    chosen false h e = absurd cc

pub stsz_again : (b : StszBox) → IsCanonicalStsz b → stsz_of (stsz_payload b) ≡ Ok b
unfolding stsz_of stsz_payload
stsz_again b f =
    let sound = (is_written (stsz_payload b) (stsz_refusal b) f.written).sound in
    rw (
      number_again 1 b.version _ f.in_range.version,
      number_again 3 b.flags _ f.well_formed,
      number_again 4 b.sample_size _ f.in_range.sample_size,
      number_again 4 b.sample_count _ f.in_range.sample_count,
      numbers_last 4 (listed b.sample_size b.sample_count) b.sample_sizes (are_listed b sound) f.in_range.sample_sizes,
    ) refl
