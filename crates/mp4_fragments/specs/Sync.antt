-- Which samples of a track's runs are sync samples (ISO/IEC 14496-12, 8.6.2 and 8.8.3.1).
use Rattle.std.specs.Prelude.{◌≡◌, ℕ, ◌<◌, ◌≤◌, ◌⊎◌, Bool, true, false, List, length, nat_le, slice_get, slice_index}
use Rattle.std.specs.Prelude.{Option, Some, None, IfSome}
use Rattle.std.specs.Option.{unwrap_or}
use Rattle.mp4_fragments.specs.RunSamples.{PlacedRun, all_run_samples}
use Rattle.mp4_fragments.specs.declared.run_samples.RunSample.{RunSample}
use Rattle.mp4_fragments.specs.declared.sync.SpanBuilder.{SpanBuilder}

abbrev pub is_sync_run_sample : Option RunSample → Bool
is_sync_run_sample None = false
is_sync_run_sample (Some m) = m.is_sync

-- whether the sample with a number is a sync sample, which counts from 0 over all runs
unfoldable pub sync_at : List PlacedRun → ℕ → Bool
sync_at runs n = is_sync_run_sample (slice_get (all_run_samples runs) n)

-- Spans of numbers, each from its first to its last: below an end, the numbers in them have something and no other has
-- it. A span comes after the one before it.
pub record AreSpans (has : ℕ → Bool) (end : ℕ) (firsts lasts : List ℕ) : Type 0 where
  pub count : length lasts ≡ length firsts
  pub few : length firsts ≤ end
  pub inside : (i n : ℕ) → i < length firsts → slice_index firsts i ≤ n → n ≤ slice_index lasts i → has n ≡ true
  pub outside : (n : ℕ) → n < end
      → ((i : ℕ) → i < length firsts → (n < slice_index firsts i) ⊎ (slice_index lasts i < n)) → has n ≡ false
  pub ordered : (i : ℕ) → i < length firsts → slice_index firsts i ≤ slice_index lasts i
  pub firsts_rise : (i j : ℕ) → i ≤ j → j < length firsts → slice_index firsts i ≤ slice_index firsts j
  pub lasts_rise : (i j : ℕ) → i ≤ j → j < length firsts → slice_index lasts i ≤ slice_index lasts j
  pub before : (i : ℕ) → i < length firsts → slice_index lasts i < end

-- span i of these begins at or before a number
abbrev pub spans_by : List ℕ → ℕ → ℕ → Bool
spans_by firsts number i = nat_le (slice_index firsts i) number

-- the spans of the samples that came so far, of which the last may still be open
pub record AreBuilt (has : ℕ → Bool) (b : SpanBuilder) : Type 0 where
  pub closed : AreSpans has (unwrap_or b.begun b.count) b.firsts.items b.lasts.items
  pub begun : IfSome b.begun (λ first. (n : ℕ) → first ≤ n → n < b.count → has n ≡ true)
