-- A track that has room for a sample.
use Rattle.std.proofs.Common.{◌≡◌, ◌-◌, ◌<◌, ◌^◌, length, false, None, arith}
use Rattle.std.specs.Prelude.{nat_le}
use Rattle.std.proofs.lemmas.Bool.Decides.{nat_tests}
use Rattle.mp4_codec.specs.declared.error.Limit.TheVariants.{SampleBytes, SampleCount, TrackDuration}
use Rattle.mp4_codec.specs.Cause.{too_large}
use Rattle.mp4_samples.specs.Samples.{Sample}
use Rattle.mp4_mux.proofs.StateLaws.{past}
use Rattle.mp4_mux.specs.Building.{Building, room_cause, ticks}

-- what holds where a track has room for a sample
pub record HasRoom (b : Building) (s : Sample) : Type 0 where
  pub size : length s.bytes < 2 ^ 32
  pub count : length b.samples < 2 ^ 32 - 1
  pub duration : ticks b s.duration < 2 ^ 64

pub has_room : (b : Building) (s : Sample) → room_cause b s ≡ None → HasRoom b s
unfolding room_cause
has_room b s e =
    let one = past (nat_le (2 ^ 32) (length s.bytes)) (too_large SampleBytes) _ e in
    let two = past (nat_le (2 ^ 32 - 1) (length b.samples)) (too_large SampleCount) _ one.1 in
    let three = past (nat_le (2 ^ 64) (ticks b s.duration)) (too_large TrackDuration) None two.1 in
    let size : nat_le (2 ^ 32) (length s.bytes) ≡ false = one.0 in
    let count : nat_le (2 ^ 32 - 1) (length b.samples) ≡ false = two.0 in
    let duration : nat_le (2 ^ 64) (ticks b s.duration) ≡ false = three.0 in
    record {
      size = grind (arith, nat_tests, size);
      count = grind (arith, nat_tests, count);
      duration = grind (arith, nat_tests, duration);
    }
