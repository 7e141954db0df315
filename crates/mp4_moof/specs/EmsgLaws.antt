-- An event message is read as it was written.
use Rattle.std.proofs.Common.{◌≡◌, ℕ, zero, suc, ◌+◌, Bool, true, false, cond, eqb, List, [], ◌∷◌, length}
use Rattle.std.proofs.Common.{Option, Some, None, Ok, refl, ap, arith}
use Rattle.std.specs.Prelude.{is_some}
use Rattle.std.proofs.Math.Numerals.{one-add}
use Rattle.mp4_codec.specs.Bytes.{until_zero, text_at, zeros, ◌⧺◌, HasNoZero}
use Rattle.mp4_codec.specs.FieldLaws.{number_again, bytes_again, zeros_again, length-number, length-zeros, length-then}
use Rattle.mp4_codec.specs.FieldLaws.{then_assoc}
use Rattle.mp4_codec.specs.WriteLaws.{is_written}
use Rattle.mp4_moof.specs.declared.emsg.EmsgBox.{EmsgBox}
use Rattle.mp4_moof.specs.Emsg.{emsg_0_of, emsg_1_of, emsg_of, ended, emsg_0_payload, emsg_1_payload, emsg_payload}
use Rattle.mp4_moof.specs.Emsg.{presentation_refusal, emsg_refusal, IsInRangeEmsg, IsWellFormedEmsg, IsCanonicalEmsg}

until_zero-text : (text rest : List ℕ) → HasNoZero text → until_zero (text ⧺ zeros 1 ⧺ rest) ≡ text
unfolding until_zero ◌⧺◌ zeros
until_zero-text [] rest h = refl
until_zero-text (b ∷ bs) rest h =
    rw (h.0, one-add) (ap (λ (x : List ℕ). b ∷ x) (until_zero-text bs rest h.1))

text_again : (text rest : List ℕ) → HasNoZero text → text_at (ended text ⧺ rest) ≡ Ok (text, rest)
unfolding text_at ended
text_again text rest h =
    rw (
      then_assoc text (zeros 1) rest,
      until_zero-text text rest h,
      bytes_again (length text) text (zeros 1 ⧺ rest) refl,
      zeros_again 1 rest,
    ) refl

length-ended : (text : List ℕ) → length (ended text) ≡ length text + 1
unfolding ended
length-ended text = simp (length-then, length-zeros)

-- the bytes of the texts and the message
abbrev pub length_of_texts : EmsgBox → ℕ
length_of_texts b = length b.scheme_id_uri + length b.value + length b.message_data

length-emsg_0 : (b : EmsgBox) → length (emsg_0_payload b) ≡ 22 + length_of_texts b
unfolding emsg_0_payload
length-emsg_0 b = simp (length-then, length-number, length-ended) (omega arith)

length-emsg_1 : (b : EmsgBox) → length (emsg_1_payload b) ≡ 26 + length_of_texts b
unfolding emsg_1_payload
length-emsg_1 b = simp (length-then, length-number, length-ended) (omega arith)

pub length-emsg_payload : (b : EmsgBox) → length (emsg_payload b) ≡ cond (eqb b.version 1) 26 22 + length_of_texts b
unfolding emsg_payload
length-emsg_payload b = chosen (eqb b.version 1)
  where
    chosen : (t : Bool) → length (cond t (emsg_1_payload b) (emsg_0_payload b)) ≡ cond t 26 22 + length_of_texts b
    chosen true = length-emsg_1 b
    chosen false = length-emsg_0 b

-- a message with another version and other times
abbrev with_times : EmsgBox → ℕ → Option ℕ → Option ℕ → EmsgBox
with_times b version delta time = record {
  version = version;
  flags = b.flags;
  timescale = b.timescale;
  presentation_time = time;
  presentation_time_delta = delta;
  event_duration = b.event_duration;
  id = b.id;
  scheme_id_uri = b.scheme_id_uri;
  value = b.value;
  message_data = b.message_data;
}

-- by version, and by the times that are there
again_by_version : (b : EmsgBox) (version : ℕ) (delta time : Option ℕ)
    → presentation_refusal version (is_some delta) (is_some time) ≡ None
    → IsInRangeEmsg (with_times b version delta time) → IsWellFormedEmsg b
    → emsg_of (emsg_payload (with_times b version delta time)) ≡ Ok (with_times b version delta time)
unfolding emsg_of emsg_payload emsg_0_of emsg_1_of emsg_0_payload emsg_1_payload
again_by_version b zero (Some delta) None sound in_range well_formed =
    rw (
      number_again 1 0 _ (omega arith),
      number_again 3 b.flags _ well_formed.flags,
      text_again b.scheme_id_uri _ well_formed.scheme_id_uri,
      text_again b.value _ well_formed.value,
      number_again 4 b.timescale _ in_range.timescale,
      number_again 4 delta _ in_range.presentation_time_delta,
      number_again 4 b.event_duration _ in_range.event_duration,
      number_again 4 b.id _ in_range.id,
    ) refl
again_by_version b zero (Some delta) (Some time) sound in_range well_formed = absurd cc
again_by_version b zero None time sound in_range well_formed = absurd cc
again_by_version b (suc zero) None (Some time) sound in_range well_formed =
    rw (
      number_again 1 1 _ (omega arith),
      number_again 3 b.flags _ well_formed.flags,
      number_again 4 b.timescale _ in_range.timescale,
      number_again 8 time _ in_range.presentation_time,
      number_again 4 b.event_duration _ in_range.event_duration,
      number_again 4 b.id _ in_range.id,
      text_again b.scheme_id_uri _ well_formed.scheme_id_uri,
      text_again b.value _ well_formed.value,
    ) refl
again_by_version b (suc zero) (Some delta) (Some time) sound in_range well_formed = absurd cc
again_by_version b (suc zero) delta None sound in_range well_formed = absurd cc
again_by_version b (suc (suc version)) delta time sound in_range well_formed = absurd cc

pub emsg_again : (b : EmsgBox) → IsCanonicalEmsg b → emsg_of (emsg_payload b) ≡ Ok b
unfolding emsg_refusal
emsg_again b f =
    let sound = (is_written (emsg_payload b) (emsg_refusal b) f.written).sound in
    again_by_version b b.version b.presentation_time_delta b.presentation_time sound f.in_range f.well_formed
