use Rattle.std.proofs.Common.{◌≡◌, ℕ, ◌≤◌, Bool, true, false, cond, ltb, List, length, take, drop, Result, Ok, Err}
use Rattle.std.proofs.Common.{refl, sym, ap, ◌∙◌}
use Rattle.std.proofs.lemmas.Bool.{ltb-false}
use Rattle.std.proofs.lemmas.List.{length-take-le}
use Rattle.mp4_codec.specs.Bytes.{bytes_at}
use Rattle.mp4_codec.specs.Cause.{Cause, invalid_data}
use Rattle.mp4_codec.specs.Steps.{ok_is}
use Rattle.mp4_entry.proofs.tx3g.Tx3gBoxReadBox.read_payload.Goals as goal

-- the next n bytes are n
length-bytes_at : (n : ℕ) (bytes part rest : List ℕ) → bytes_at n bytes ≡ Ok (part, rest) → n ≡ length part
unfolding bytes_at
length-bytes_at n bytes part rest e = chosen (ltb (length bytes) n) (ltb-false (length bytes) n) e
  where
    chosen : (b : Bool) → (b ≡ false → n ≤ length bytes)
        → cond {A = Result (List ℕ × List ℕ) Cause} b (Err invalid_data) (Ok (take n bytes, drop n bytes))
        ≡ Ok (part, rest) → n ≡ length part
    chosen true h e = absurd cc
    chosen false h e =
        let same : take n bytes ≡ part =
        ap (λ (y : List ℕ × List ℕ). y.0) (ok_is (take n bytes, drop n bytes) (part, rest) e) in
        sym (length-take-le n bytes (h refl)) ∙ ap length same

pub copy_from_slice-requires : goal.copy_from_slice-requires
copy_from_slice-requires c = length-bytes_at 30 _ _ _ c.in_ok-part.ensures
