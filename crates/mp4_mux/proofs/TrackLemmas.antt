-- The fields of a track, with one more sample, without the last, and with its pending samples in a chunk.
use Rattle.std.proofs.Common.{◌≡◌, ℕ, ◌+◌, ◌-◌, ◌*◌, ◌/◌, ◌<◌, ◌≤◌, ◌^◌, List, [], ◌∷◌, ◌++◌, length, take, drop}
use Rattle.std.proofs.Common.{ap, ap₂, ◌∙◌, sym, arith}
use Rattle.std.specs.List.{sum_by}
use Rattle.std.proofs.lemmas.List.{length-append, length-drop, take_all, drop-append-le, length-take-le, take_at}
use Rattle.std.proofs.lemmas.List.Elements.{All-push}
use Rattle.std.proofs.lemmas.List.{length_push, take-append-drop, nil_from_length}
use Rattle.mp4_samples.specs.Samples.{Sample}
use Rattle.mp4_mux.specs.SampleInfos.{IsInRangeSampleInfo}
use Rattle.mp4_mux.specs.declared.sample_info.SampleInfo.{SampleInfo}
use Rattle.mp4_mux.specs.declared.chunk_place.ChunkPlace.{ChunkPlace}
use Rattle.mp4_mux.specs.declared.durations.Durations.{Durations}
use Rattle.mp4_mux.specs.TrackHeaders.{media_duration, movie_duration}
use Rattle.mp4_mux.specs.Writing.{info_of}
use Rattle.mp4_mux.specs.Building.{TrackFields, IsTrack, building_of, sample_at, samples_in, pushed, popped, closed}
use Rattle.mp4_mux.specs.Building.{pending_place}
use Rattle.mp4_mux.proofs.SampleLaws.{sum_by-push, media_duration-push, movie_duration-push, sum_by-drop}
use Rattle.mp4_mux.proofs.SampleLaws.{samples_in-push}
use Rattle.mp4_mux.proofs.SampleLaws.{length-samples_in, media_duration-small, all-push, all-init}

-- the fields with one more sample, of which the tables say this, which has these bytes and is so long
abbrev pub with_push : TrackFields → SampleInfo → List ℕ → Durations → TrackFields
with_push f i b d = record f {
  samples = f.samples ++ i ∷ [];
  bytes = f.bytes ++ b;
  pending_duration = f.pending_duration + d.media;
  durations = record { media = f.durations.media + d.media; movie = f.durations.movie + d.movie };
  last = d;
}

whole_sample : (s : Sample) → sample_at (info_of s) s.bytes ≡ s
whole_sample s =
    ap (λ (xs : List ℕ). record {
      bytes = xs;
      duration = s.duration;
      rendering_offset = s.rendering_offset;
      is_sync = s.is_sync;
    })
    (take_all (length s.bytes) s.bytes (omega arith))

module _ (f : TrackFields) (h : IsTrack f) where
  module _ (i : SampleInfo) where
    rest_push : drop f.closed_count (f.samples ++ i ∷ []) ≡ drop f.closed_count f.samples ++ i ∷ []
    rest_push = drop-append-le f.closed_count f.samples (i ∷ []) h.within

    module _ (small : IsInRangeSampleInfo i) (few : length f.samples < 2 ^ 32 - 1) where
      -- the sums have room for one more
      pub media_room : f.durations.media + i.duration < 2 ^ 64
      media_room = omega (arith, h.media, media_duration-small f.samples h.in_range, small.duration)

      pub pending_room : f.pending_duration + i.duration < 2 ^ 64
      unfolding media_duration
      pending_room =
          omega (
            arith,
            media_room,
            h.media,
            h.pending_sum,
            sum_by-drop (λ (s : SampleInfo). s.duration) f.closed_count f.samples,
          )

      pub is_track-push : (b : List ℕ) (d : Durations) → i.size ≡ length b → d.media ≡ i.duration
          → d.movie ≡ i.duration * f.movie_timescale / f.config.timescale
          → movie_duration f.movie_timescale f.config.timescale f.samples + d.movie < 2 ^ 64
          → IsTrack (with_push f i b d)
      is_track-push b d e same m room = record {
        accepted = h.accepted;
        clock = h.clock;
        within = omega (arith, length_push f.samples i, h.within);
        sizes = ap (sum_by (λ (s : SampleInfo). s.size)) rest_push
            ∙ omega (
              arith,
              sum_by-push (λ (s : SampleInfo). s.size) (drop f.closed_count f.samples) i,
              length-append f.bytes b,
              h.sizes,
            );
        pending_sum = ap (sum_by (λ (s : SampleInfo). s.duration)) rest_push
            ∙ omega (
              arith,
              sum_by-push (λ (s : SampleInfo). s.duration) (drop f.closed_count f.samples) i,
              h.pending_sum,
            );
        in_range = all-push IsInRangeSampleInfo f.samples i h.in_range small;
        count = omega (arith, length_push f.samples i);
        media = omega (arith, media_duration-push f.samples i, h.media);
        movie = omega (arith, movie_duration-push f.movie_timescale f.config.timescale f.samples i, h.movie, m);
        fits = omega (arith, h.movie);
        converted = rw same m;
        few = h.few;
        counted = h.counted;
        some_per_chunk = h.some_per_chunk;
      }

  -- what fields say with one more sample: it is pending
  pub view-push : (i : SampleInfo) (s : Sample) (d : Durations) → i ≡ info_of s
      → building_of (with_push f i s.bytes d) ≡ pushed (building_of f) s
  view-push i s d e =
      let rest = drop f.closed_count f.samples in
      let same : samples_in (drop f.closed_count (f.samples ++ i ∷ [])) (f.bytes ++ s.bytes)
      ≡ samples_in rest f.bytes ++ s ∷ [] =
      ap (λ (is : List SampleInfo). samples_in is (f.bytes ++ s.bytes)) (rest_push i)
      ∙ samples_in-push rest f.bytes i s.bytes h.sizes (ap (λ (j : SampleInfo). j.size) e)
      ∙ ap (λ (j : SampleInfo). samples_in rest f.bytes ++ sample_at j s.bytes ∷ []) e
      ∙ ap (λ (x : Sample). samples_in rest f.bytes ++ x ∷ []) (whole_sample s) in
      ap₂ (λ (j : SampleInfo) (ss : List Sample). record {
        config = f.config;
        movie_timescale = f.movie_timescale;
        samples = f.samples ++ j ∷ [];
        chunks = f.chunks;
        pending = ss;
      }) e same

-- the fields without their last sample, which was pending
module _ (f : TrackFields) (h : IsTrack f) (is : List SampleInfo) (i : SampleInfo) (last : f.samples ≡ is ++ i ∷ [])
    (pending : f.closed_count ≤ length is) where
  rest_pop : drop f.closed_count f.samples ≡ drop f.closed_count is ++ i ∷ []
  rest_pop = ap (drop f.closed_count) last ∙ drop-append-le f.closed_count is (i ∷ []) pending

  pub last_size : i.size + sum_by (λ (s : SampleInfo). s.size) (drop f.closed_count is) ≡ length f.bytes
  last_size =
      omega (
        arith,
        ap (sum_by (λ (s : SampleInfo). s.size)) rest_pop,
        sum_by-push (λ (s : SampleInfo). s.size) (drop f.closed_count is) i,
        h.sizes,
      )

  pub last_duration : i.duration + sum_by (λ (s : SampleInfo). s.duration) (drop f.closed_count is) ≡ f.pending_duration
  last_duration =
      omega (
        arith,
        ap (sum_by (λ (s : SampleInfo). s.duration)) rest_pop,
        sum_by-push (λ (s : SampleInfo). s.duration) (drop f.closed_count is) i,
        h.pending_sum,
      )

  pub last_media : i.duration + media_duration is ≡ f.durations.media
  last_media = omega (arith, media_duration-push is i, ap media_duration last, h.media)

  pub last_movie : i.duration * f.movie_timescale / f.config.timescale
      + movie_duration f.movie_timescale f.config.timescale is
      ≡ f.durations.movie
  last_movie =
      omega (
        arith,
        movie_duration-push f.movie_timescale f.config.timescale is i,
        ap (movie_duration f.movie_timescale f.config.timescale) last,
        h.movie,
      )

  abbrev pub without : ℕ → TrackFields
  without more = record f {
    samples = is;
    bytes = take (length f.bytes - i.size) f.bytes;
    pending_duration = f.pending_duration - i.duration;
    durations = record { media = f.durations.media - i.duration; movie = f.durations.movie - more };
  }

  pub is_track-pop : (more : ℕ) → more ≡ i.duration * f.movie_timescale / f.config.timescale → IsTrack (without more)
  is_track-pop more m = record {
    accepted = h.accepted;
    clock = h.clock;
    within = pending;
    sizes = omega (arith, last_size, length-take-le (length f.bytes - i.size) f.bytes (omega arith));
    pending_sum = omega (arith, last_duration);
    in_range = all-init IsInRangeSampleInfo is i (rw (← last) h.in_range);
    count = omega (arith, length_push is i, ap length last, h.count);
    media = omega (arith, last_media);
    movie = omega (arith, last_movie, m);
    fits = omega (arith, h.fits);
    converted = h.converted;
    few = h.few;
    counted = h.counted;
    some_per_chunk = h.some_per_chunk;
  }

  pub view-pop : (more : ℕ) → building_of (without more) ≡ popped (building_of f)
  view-pop more =
      let left = take (length f.bytes - i.size) f.bytes in
      let end = drop (length f.bytes - i.size) f.bytes in
      let rest = drop f.closed_count is in
      let before : sum_by (λ (s : SampleInfo). s.size) rest ≡ length left =
      omega (arith, last_size, length-take-le (length f.bytes - i.size) f.bytes (omega arith)) in
      let end_length : i.size ≡ length end = omega (arith, last_size, length-drop (length f.bytes - i.size) f.bytes) in
      let joined : samples_in (drop f.closed_count f.samples) f.bytes ≡ samples_in rest left ++ sample_at i end ∷ [] =
      ap₂ (λ (js : List SampleInfo) (bs : List ℕ). samples_in js bs) rest_pop
      (sym (take-append-drop (length f.bytes - i.size) f.bytes))
      ∙ samples_in-push rest left i end before end_length in
      let one_less : take (length (samples_in (drop f.closed_count f.samples) f.bytes) - 1)
      (samples_in (drop f.closed_count f.samples) f.bytes) ≡ samples_in rest left =
      rw joined
      (take_at (samples_in rest left) (sample_at i end ∷ []) _
      (omega (arith, length_push (samples_in rest left) (sample_at i end)))) in
      let fewer : take (length f.samples - 1) f.samples ≡ is =
      rw last (take_at is (i ∷ []) _ (omega (arith, length_push is i))) in
      ap₂ (λ (js : List SampleInfo) (ss : List Sample). record {
        config = f.config;
        movie_timescale = f.movie_timescale;
        samples = js;
        chunks = f.chunks;
        pending = ss;
      }) (sym fewer) (sym one_less)

-- the fields with the pending samples in a chunk
module _ (f : TrackFields) (h : IsTrack f) where
  pub pending-count : length f.samples ≡ length (building_of f).pending + f.closed_count
  pending-count =
      omega (
        arith,
        length-samples_in (drop f.closed_count f.samples) f.bytes,
        length-drop f.closed_count f.samples,
        h.within,
      )

  pub place_is : (offset count : ℕ) → count ≡ length f.samples
      → ◌≡◌ {A = ChunkPlace} (record { first = f.closed_count; count = count - f.closed_count; offset = offset })
      (pending_place (building_of f) offset)
  place_is offset count e =
      let first : f.closed_count ≡ length f.samples - length (building_of f).pending = omega (arith, pending-count) in
      let number : count - f.closed_count ≡ length (building_of f).pending = omega (arith, pending-count, e) in
      ap₂ (λ (a b : ℕ). record { first = a; count = b; offset = offset }) first number

  module _ (c : ChunkPlace) (some : 0 < length (building_of f).pending) where
    abbrev pub with_close : TrackFields
    with_close = record f {
      chunks = f.chunks ++ c ∷ [];
      bytes = [];
      pending_duration = 0;
      closed_count = length f.samples;
    }

    none_left : drop (length f.samples) f.samples ≡ []
    none_left = nil_from_length (drop (length f.samples) f.samples)
        (omega (arith, length-drop (length f.samples) f.samples))

    pub is_track-close : (offset : ℕ) → c ≡ pending_place (building_of f) offset → IsTrack with_close
    is_track-close offset e = record {
      accepted = h.accepted;
      clock = h.clock;
      within = omega arith;
      sizes = ap (sum_by (λ (s : SampleInfo). s.size)) none_left;
      pending_sum = ap (sum_by (λ (s : SampleInfo). s.duration)) none_left;
      in_range = h.in_range;
      count = h.count;
      media = h.media;
      movie = h.movie;
      fits = h.fits;
      converted = h.converted;
      few = omega (arith, length_push f.chunks c, h.few, pending-count);
      counted = omega (
        arith,
        sum_by-push (λ (x : ChunkPlace). x.count) f.chunks c,
        ap (λ (x : ChunkPlace). x.count) e,
        h.counted,
        pending-count,
      );
      some_per_chunk = All-push (λ (x : ChunkPlace). 1 ≤ x.count) f.chunks c h.some_per_chunk
          (omega (arith, ap (λ (x : ChunkPlace). x.count) e, some));
    }

    pub view-close : (offset : ℕ) → c ≡ pending_place (building_of f) offset
        → building_of with_close ≡ closed (building_of f) offset
    unfolding samples_in
    view-close offset e =
        ap₂ (λ (place : ChunkPlace) (is : List SampleInfo). record {
          config = f.config;
          movie_timescale = f.movie_timescale;
          samples = f.samples;
          chunks = f.chunks ++ place ∷ [];
          pending = samples_in is [];
        }) e none_left
