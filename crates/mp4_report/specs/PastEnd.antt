-- Spans of equal samples, and the samples that lie past the end of their file.
use Rattle.std.specs.Prelude.{ℕ, ◌+◌, ◌-◌, ◌*◌, ◌/◌, ◌^◌, ◌==◌, min, nat_lt, if◌then◌else◌, Option, Some, None}
use Rattle.mp4_report.specs.declared.past_end.PastEnd.{PastEnd}
use Rattle.mp4_report.specs.declared.spans.Span.{Span}

-- how many samples of one size, one after the other from a place on, lie within a file of so many bytes: all, where
-- they have no bytes and the place is in the file
unfoldable pub samples_within : ℕ → ℕ → ℕ → ℕ
samples_within place size file_size =
    if nat_lt file_size place then 0 else if size == 0 then 2 ^ 64 - 1 else (file_size - place) / size

-- where the sample of a span begins that has so many of them before it, up to 2 ^ 64 - 1
abbrev pub place_after : Span → ℕ → ℕ
place_after span count = min (span.first.offset + count * span.first.size) (2 ^ 64 - 1)

-- when the last is decoded
abbrev pub last_time : Span → ℕ
last_time span = min (span.first.start_time + (span.count - 1) * span.first.duration) (2 ^ 64 - 1)

-- those of a span that lie past the end, or of which a part does: all after those that lie within
unfoldable pub past_end_of : Span → ℕ → Option PastEnd
past_end_of span file_size =
    let within = samples_within span.first.offset span.first.size file_size in
    if nat_lt within span.count then Some (record {
      count = record { 0 = span.count - within };
      first = min (span.number + within) (2 ^ 32 - 1);
      place = record { 0 = place_after span within };
    }) else None

-- those that were found so far, and later ones: as many as both, and the first of the earlier
abbrev pub joined : Option PastEnd → Option PastEnd → Option PastEnd
joined None later = later
joined (Some earlier) None = Some earlier
joined (Some earlier) (Some later) =
    Some (record earlier { count = record { 0 = min (earlier.count.0 + later.count.0) (2 ^ 64 - 1) } })
