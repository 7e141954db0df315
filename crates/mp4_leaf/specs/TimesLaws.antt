-- Times that are written fit their fields, and are read as they were written.
use Rattle.std.proofs.Common.{◌≡◌, ℕ, ◌+◌, ◌<◌, ◌^◌, Bool, true, false, cond, eqb, List, length, None, Ok, refl, arith}
use Rattle.mp4_codec.specs.Cause.{◌or◌}
use Rattle.mp4_codec.specs.Bytes.{version_refusal, value_refusal, FitsVersion}
use Rattle.mp4_codec.specs.WriteLaws.{or_parts}
use Rattle.mp4_codec.specs.FieldLaws.{FitsVersion-written}
use Rattle.mp4_codec.specs.Bytes.{◌⧺◌}
use Rattle.mp4_codec.specs.FieldLaws.{number_again, versioned_again, length-number, length-versioned, length-then}
use Rattle.mp4_codec.specs.FieldLaws.{then_assoc}
use Rattle.mp4_leaf.specs.declared.times.HeaderTimes.{HeaderTimes}
use Rattle.mp4_leaf.specs.Times.{header_times_at, header_times, times_refusal}

-- the version is 0 or 1, and has room for each time
pub record HaveRoom (version created modified lasts : ℕ) : Type 0 where
  pub known : version_refusal version ≡ None
  pub creation_time : FitsVersion version created
  pub modification_time : FitsVersion version modified
  pub duration : FitsVersion version lasts

pub times-have_room : (version creation_time modification_time duration : ℕ) → creation_time < 2 ^ 64
    → modification_time < 2 ^ 64 → duration < 2 ^ 64
    → times_refusal version creation_time modification_time duration ≡ None
    → HaveRoom version creation_time modification_time duration
unfolding times_refusal
times-have_room version creation_time modification_time duration made changed long e =
    let last = or_parts (version_refusal version or value_refusal version creation_time or value_refusal version
    modification_time) (value_refusal version duration) e in
    let third = or_parts (version_refusal version or value_refusal version creation_time)
    (value_refusal version modification_time) last.0 in
    let second = or_parts (version_refusal version) (value_refusal version creation_time) third.0 in
    record {
      known = second.0;
      creation_time = FitsVersion-written version creation_time second.0 second.1 made;
      modification_time = FitsVersion-written version modification_time second.0 third.1 changed;
      duration = FitsVersion-written version duration second.0 last.1 long;
    }

pub length-header_times : (s : HeaderTimes) → length (header_times s) ≡ cond (eqb s.version 1) 20 12
unfolding header_times
length-header_times s = simp (length-then, length-number, length-versioned) (both (eqb s.version 1))
  where
    both : (b : Bool) → 1 + (3 + (cond b 8 4 + cond b 8 4)) ≡ cond b 20 12
    both true = refl
    both false = refl

-- header times and one time more beside n other bytes
pub with_duration : (b : Bool) (n : ℕ) → n + (cond b 20 12 + cond b 8 4) ≡ cond b (n + 28) (n + 16)
with_duration true n = omega arith
with_duration false n = omega arith

pub header_times_again : (s : HeaderTimes) (rest : List ℕ) → s.version < 2 ^ 8 → s.flags < 2 ^ 24
    → FitsVersion s.version s.creation_time
    → FitsVersion s.version s.modification_time → header_times_at (header_times s ⧺ rest) ≡ Ok (s, rest)
unfolding header_times_at header_times
header_times_again s rest version flags made changed =
    simp then_assoc (rw (
      number_again 1 s.version _ version,
      number_again 3 s.flags _ flags,
      versioned_again s.version s.creation_time _ made,
      versioned_again s.version s.modification_time _ changed,
    ) refl)
