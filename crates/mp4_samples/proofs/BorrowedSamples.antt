-- `==` of samples whose bytes are borrowed compares every part of them but where the bytes lie.
use Rattle.std.proofs.Common.{◌≡◌, ℕ, ℤ, List, Bool, true, false, ◌&&◌, IsTrue, ◌↔◌, nat_eq, int_eq, refl, sym, ap, ◌∙◌}
use Rattle.std.specs.Cmp.{unsigned_Decides, signed_Decides}
use Rattle.std.specs.Cmp.Derive.{both_true}
use Rattle.std.specs.Cmp.Lexicographic.{pointwise, bytes_decides}
use Rattle.mp4_codec.specs.ExactTest.{flag, list, number, pair, signed}
use Rattle.mp4_samples.specs.declared.sample.SampleRef.{SampleRef}
use Rattle.mp4_samples.specs.Samples.{TimedSample, borrowed_sample}
use mathlib.Core.Bool.{beq}

abbrev answer : SampleRef → SampleRef → Bool
answer x y =
    nat_eq x.offset y.offset
    && (nat_eq x.start_time y.start_time
    && (nat_eq x.duration y.duration
    && (int_eq x.rendering_offset y.rendering_offset
    && (beq x.is_sync y.is_sync && pointwise nat_eq x.bytes.now y.bytes.now))))

same_flag : (x y : Bool) → x ≡ y → beq x y ≡ true
same_flag true true e = refl
same_flag true false e = cc
same_flag false true e = cc
same_flag false false e = refl

-- what is compared of a sample, in that order, and the sample of it
abbrev Compared : Type 0
Compared = ℕ × (ℕ × (ℕ × (ℤ × (Bool × List ℕ))))

abbrev compared : SampleRef → Compared
compared x = (x.offset, (x.start_time, (x.duration, (x.rendering_offset, (x.is_sync, x.bytes.now)))))

abbrev sample_with : Compared → TimedSample
sample_with p = record {
  start_time = p.1.0;
  sample = record { bytes = p.1.1.1.1.1; duration = p.1.1.0; rendering_offset = p.1.1.1.0; is_sync = p.1.1.1.1.0 };
}

compares_parts : (x y : SampleRef) → answer x y ≡ true → compared x ≡ compared y
compares_parts x y = (pair number (pair number (pair number (pair signed (pair flag (list number)))))).exact
    (compared x) (compared y)

answers_same : (x y : SampleRef) → x.offset ≡ y.offset → borrowed_sample x ≡ borrowed_sample y → answer x y ≡ true
answers_same x y at same =
    both_true ((unsigned_Decides x.offset y.offset).1 at) (
    both_true ((unsigned_Decides x.start_time y.start_time).1 (ap (λ (s : TimedSample). s.start_time) same)) (
    both_true ((unsigned_Decides x.duration y.duration).1 (ap (λ (s : TimedSample). s.sample.duration) same)) (
    both_true ((signed_Decides x.rendering_offset y.rendering_offset).1
    (ap (λ (s : TimedSample). s.sample.rendering_offset) same)) (
    both_true (same_flag x.is_sync y.is_sync (ap (λ (s : TimedSample). s.sample.is_sync) same))
    ((bytes_decides x.bytes.now y.bytes.now).1 (ap (λ (s : TimedSample). s.sample.bytes) same))))))

pub borrowed_samples_compare : (x y : SampleRef) (r : Bool) → r ≡ answer x y
    → IsTrue r ↔ ((x.offset ≡ y.offset) × (borrowed_sample x ≡ borrowed_sample y))
borrowed_samples_compare x y r e = (
  λ h. (ap (λ (p : Compared). p.0) (compares_parts x y (sym e ∙ h)), ap sample_with (compares_parts x y (sym e ∙ h))),
  λ same. e ∙ answers_same x y same.0 same.1,
)
