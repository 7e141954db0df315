-- An entry of timed text is read as it was written.
use Rattle.std.proofs.Common.{◌≡◌, ◌+◌, List, [], length, Ok, refl, sym, ap, ◌∙◌, arith, ℕ}
use Rattle.mp4_codec.specs.Bytes.{bytes_at}
use Rattle.mp4_codec.specs.FieldLaws.{number_again, zeros_again, bytes_again, then_nothing, length-number, length-zeros}
use Rattle.mp4_codec.specs.FieldLaws.{length-then}
use Rattle.mp4_entry.specs.declared.tx3g.Tx3gBox.{Tx3gBox}
use Rattle.mp4_entry.specs.Tx3g.{tx3g_of, tx3g_payload, IsCanonicalTx3g}

pub length-tx3g_payload : (b : Tx3gBox) → length (tx3g_payload b) ≡ 8 + length b.raw
unfolding tx3g_payload
length-tx3g_payload b = simp (length-then, length-number, length-zeros) (omega arith)

-- bytes that nothing follows
bytes_last : (n : ℕ) (xs : List ℕ) → length xs ≡ n → bytes_at n xs ≡ Ok (xs, [])
bytes_last n xs e = ap (bytes_at n) (sym (then_nothing xs)) ∙ bytes_again n xs [] e

pub tx3g_again : (b : Tx3gBox) → IsCanonicalTx3g b → tx3g_of (tx3g_payload b) ≡ Ok b
unfolding tx3g_of tx3g_payload
tx3g_again b f =
    rw (
      zeros_again 6 _,
      number_again 2 b.data_reference_index _ f.in_range.data_reference_index,
      bytes_last 30 b.raw f.in_range.raw,
    ) refl
