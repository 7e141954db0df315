-- What the samples of a track are together.
use Rattle.std.specs.Prelude.{ℕ, ◌+◌, ◌-◌, ◌*◌, ◌^◌, ◌==◌, max, min, nat_lt, if◌then◌else◌, Option, None}
use Rattle.mp4_report.specs.declared.spans.Span.{Span}
use Rattle.mp4_report.specs.declared.summary.SampleSummary.{SampleSummary}
use Rattle.mp4_report.specs.Rates.{milliseconds_each}
use Rattle.mp4_report.specs.PastEnd.{joined, last_time, past_end_of}

-- a sum that stays at 2 ^ 64 - 1 where it would pass it
abbrev pub added : ℕ → ℕ → ℕ
added a b = min (a + b) (2 ^ 64 - 1)

-- the most ticks from a sync sample to the next, with those of a span of sync samples: from the last one before it to
-- its first, and from one of them to the next
abbrev pub longest_with : SampleSummary → Span → ℕ
longest_with s span =
    max (if s.sync == 0 then s.longest else max s.longest (span.first.start_time - s.last_sync))
    (if nat_lt 1 span.count then span.first.duration else 0)

-- with a span of sync samples
unfoldable pub with_sync : SampleSummary → Span → SampleSummary
with_sync s span = record s {
  sync = added s.sync span.count;
  first_sync = if s.sync == 0 then span.first.start_time else s.first_sync;
  last_sync = last_time span;
  longest = longest_with s span;
}

-- with a span of samples of a file of so many bytes: one more for each, and the bytes of each
unfoldable pub with_span : SampleSummary → Span → ℕ → SampleSummary
with_span s span file_size =
    let counted = record s {
      count = added s.count span.count;
      bytes = added s.bytes (span.count * span.first.size);
      past_end = joined s.past_end (past_end_of span file_size);
    } in
    if span.first.is_sync then with_sync counted span else counted

-- the milliseconds from a sync sample to the next, to the nearest: the most, and on average
abbrev pub longest_ms : SampleSummary → ℕ → Option ℕ
longest_ms s timescale = if nat_lt 1 s.sync then milliseconds_each s.longest 1 timescale else None

abbrev pub mean_ms : SampleSummary → ℕ → Option ℕ
mean_ms s timescale = milliseconds_each (s.last_sync - s.first_sync) (s.sync - 1) timescale
