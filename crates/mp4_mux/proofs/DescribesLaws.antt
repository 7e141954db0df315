-- The tables of a track describe the samples that its chunks hold.
use Rattle.std.proofs.Common.{◌≡◌, ℕ, zero, suc, ◌+◌, ◌-◌, ◌<◌, ◌≤◌, pos, false, List, [], ◌∷◌, ◌++◌, length}
use Rattle.std.proofs.Common.{get_or, take, map, sum, refl, sym, ap, subst, ◌∙◌, arith}
use Rattle.std.specs.List.{All, range_with_len}
use Rattle.std.proofs.lemmas.List.{ext_get_or, get_or-map, length-append, length-map}
use Rattle.std.proofs.lemmas.List.Elements.{All-from_get_or, All-from_recursion}
use Rattle.std.proofs.lemmas.List.FromFn.{length-map-range_with_len, get_or-map-range_with_len}
use Rattle.std.proofs.lemmas.List.Sums.{sum_by-cons}
use Rattle.std.proofs.lemmas.Simd.{map-map}
use Rattle.mp4_table.specs.Chunks.{places}
use Rattle.mp4_table.specs.Starts.{start_of}
use Rattle.mp4_boxes.specs.declared.stbl.StblBox.{StblBox}
use Rattle.mp4_samples.specs.Samples.{Sample, TimedSample, timed_from, timed, read_at}
use Rattle.mp4_samples.specs.declared.sample.Place.{Place}
use Rattle.mp4_mux.specs.declared.sample_info.SampleInfo.{SampleInfo}
use Rattle.mp4_mux.specs.Chunks.{Chunk, chunk_bytes, samples_of, placed_from, of_track}
use Rattle.mp4_mux.specs.FinishedTrack.{counts_of, offsets_of}
use Rattle.mp4_mux.specs.TrackHeaders.{PlacedChunk}
use Rattle.mp4_mux.proofs.TrackTables.{HasTables, FillsChunks, sample_at}
use Rattle.mp4_mux.proofs.TrackTableLaws.{Consistent-tables, plain-tables, get_or-sizes-places}
use Rattle.mp4_mux.specs.Writing.{info_of}
use Rattle.mp4_mux.specs.Written.{Describes, sizes_of}
use Rattle.mp4_mux.proofs.TileLaws.{table_places, ranges_of-table}
use Rattle.mp4_mux.proofs.ReadLaws.{bytes_at, read_ranges, ranges-within}

pub length-timed_from : (time : ℕ) (ss : List Sample) → length (timed_from time ss) ≡ length ss
unfolding timed_from
length-timed_from time [] = refl
length-timed_from time (s ∷ ss) = ap suc (length-timed_from (time + s.duration) ss)

-- a sample is decoded when those before it have lasted
pub get_or-timed_from : (time : ℕ) (ss : List Sample) (j : ℕ) (d : Sample) (e : TimedSample) → j < length ss
    → get_or (timed_from time ss) j e
    ≡ record { start_time = time + sum (take j (map (λ (s : Sample). s.duration) ss)); sample = get_or ss j d }
unfolding timed_from
get_or-timed_from time [] j d e l = absurd (omega arith)
get_or-timed_from time (s ∷ ss) zero d e l =
    let now : time ≡ time + 0 = omega arith in ap (λ n. record { start_time = n; sample = s }) now
get_or-timed_from time (s ∷ ss) (suc j) d e l =
    let before = take j (map (λ (s : Sample). s.duration) ss) in
    let further : (time + s.duration) + sum before ≡ time + sum (s.duration ∷ before) =
    omega (arith, sum_by-cons (λ x. x) s.duration before) in
    get_or-timed_from (time + s.duration) ss j d e (omega arith)
    ∙ ap (λ n. record { start_time = n; sample = get_or ss j d }) further

module _ (front : List ℕ) (cs : List Chunk) (more : List ℕ) (id : ℕ) where
  abbrev ss : List Sample
  ss = samples_of id cs

  abbrev infos : List SampleInfo
  infos = map info_of ss

  abbrev chunks : List PlacedChunk
  chunks = of_track id (placed_from (length front) cs)

  abbrev ns : List ℕ
  ns = counts_of chunks

  abbrev os : List ℕ
  os = offsets_of chunks

  abbrev file : List ℕ
  file = front ++ (chunk_bytes cs ++ more)

  abbrev there : List (ℕ × ℕ)
  there = places ns os (map (λ (i : SampleInfo). i.size) infos)

  abbrev no_sample : Sample
  no_sample = record { bytes = []; duration = 0; rendering_offset = pos 0; is_sync = false }

  sizes-are : map (λ (i : SampleInfo). i.size) infos ≡ sizes_of ss
  sizes-are = map-map (λ (i : SampleInfo). i.size) info_of ss

  there-is : there ≡ table_places id (length front) cs
  there-is = ap (places ns os) sizes-are

  read-there : map (bytes_at file) there ≡ map (λ (s : Sample). s.bytes) ss
  read-there =
      ap (map (bytes_at file)) (there-is ∙ sym (ranges_of-table id (length front) cs)) ∙ read_ranges front cs more id

  length-there : length there ≡ length ss
  length-there =
      sym (length-map there (bytes_at file)) ∙ ap length read-there ∙ length-map ss (λ (s : Sample). s.bytes)

  within-there : All (λ (r : ℕ × ℕ). r.0 + r.1 ≤ length front + length (chunk_bytes cs)) there
  within-there =
      subst (All (λ (r : ℕ × ℕ). r.0 + r.1 ≤ length front + length (chunk_bytes cs)))
      (ranges_of-table id (length front) cs ∙ sym there-is)
      (All-from_recursion (λ (r : ℕ × ℕ). r.0 + r.1 ≤ length front + length (chunk_bytes cs)) _
      (ranges-within id (length front) cs))

  module _ (fill : FillsChunks infos ns os) where
    size-there : (j : ℕ) → j < length ss
        → get_or (map (λ (i : SampleInfo). i.size) infos) j 0 ≡ (get_or there j (0, 0)).1
    size-there j l =
        let ms = map (λ (i : SampleInfo). i.size) infos in
        let whole = length-map infos (λ (i : SampleInfo). i.size) in
        sym (get_or-sizes-places ns os ms j fill.placed (fill.counted ∙ sym whole)
        (omega (arith, l, whole, length-map ss info_of)))

    read-sample : (j : ℕ) → j < length ss → read_at file (sample_at infos ns os (suc j))
        ≡ record {
          start_time = sum (take j (map (λ (s : Sample). s.duration) ss));
          sample = get_or ss j no_sample;
        }
    unfolding start_of
    read-sample j l =
        let back : suc j - 1 ≡ j = omega arith in
        let known = info_of no_sample in
        let here : j < length infos = omega (arith, l, length-map ss info_of) in
        let info : get_or infos j known ≡ info_of (get_or ss j no_sample) =
        get_or-map info_of ss j no_sample known l in
        let bytes : bytes_at file (get_or there j (0, 0)) ≡ (get_or ss j no_sample).bytes =
        sym (get_or-map (bytes_at file) there j (0, 0) [] (omega (arith, l, length-there)))
        ∙ ap (λ xs. get_or xs j []) read-there
        ∙ get_or-map (λ (s : Sample). s.bytes) ss j no_sample [] l in
        rw (
          back,
          size-there j l,
          bytes,
          get_or-map (λ (i : SampleInfo). i.duration) infos j known 0 here,
          get_or-map (λ (i : SampleInfo). i.rendering_offset) infos j known (pos 0) here,
          get_or-map (λ (i : SampleInfo). i.is_sync) infos j known false here,
          info,
          map-map (λ (i : SampleInfo). i.duration) info_of ss,
        ) refl

    module _ (t : StblBox) (tables : HasTables infos ns os t) where
      abbrev no_place : Place
      no_place = sample_at infos ns os 0

      all-read : map (read_at file) (map (sample_at infos ns os) (range_with_len 1 (length infos))) ≡ timed ss
      all-read =
          let e : TimedSample = record { start_time = 0; sample = no_sample } in
          let found = map (sample_at infos ns os) (range_with_len 1 (length infos)) in
          let whole : length found ≡ length ss =
          length-map-range_with_len (sample_at infos ns os) 1 (length infos) ∙ length-map ss info_of in
          let long = length-map found (read_at file) in
          ext_get_or e (map (read_at file) found) (timed ss) (long ∙ whole ∙ sym (length-timed_from 0 ss))
          (λ j h. let l : j < length ss = omega (arith, h, long, whole) in
          let before = sum (take j (map (λ (s : Sample). s.duration) ss)) in
          let first : before ≡ 0 + before = omega arith in
          get_or-map (read_at file) found j no_place e (omega (arith, l, whole))
          ∙ ap (read_at file)
          (get_or-map-range_with_len (sample_at infos ns os) 1 (length infos) j (suc j) no_place
          (omega (arith, l, length-map ss info_of)) (omega arith))
          ∙ read-sample j l
          ∙ ap (λ n. record { start_time = n; sample = get_or ss j no_sample }) first
          ∙ sym (get_or-timed_from 0 ss j no_sample e l))

      all-within : All (λ (p : Place). p.offset + p.size ≤ length file)
          (map (sample_at infos ns os) (range_with_len 1 (length infos)))
      all-within =
          let found = map (sample_at infos ns os) (range_with_len 1 (length infos)) in
          let whole : length found ≡ length ss =
          length-map-range_with_len (sample_at infos ns os) 1 (length infos) ∙ length-map ss info_of in
          All-from_get_or (λ (p : Place). p.offset + p.size ≤ length file) found no_place
          (λ j h. let l : j < length ss = omega (arith, h, whole) in
          let back : suc j - 1 ≡ j = omega arith in
          let in_there = within-there j (0, 0) (omega (arith, l, length-there)) in
          subst (λ (p : Place). p.offset + p.size ≤ length file)
          (sym (get_or-map-range_with_len (sample_at infos ns os) 1 (length infos) j (suc j) no_place
          (omega (arith, l, length-map ss info_of)) (omega arith)))
          (rw (back, size-there j l)
          (omega (
            arith,
            in_there,
            length-append front (chunk_bytes cs ++ more),
            length-append (chunk_bytes cs) more,
          ))))

      pub describes : Describes file t ss
      describes =
          let is = plain-tables infos ns os t tables fill in
          record {
            consistent = Consistent-tables infos ns os t tables fill;
            within = subst (All (λ (p : Place). p.offset + p.size ≤ length file)) (sym is) all-within;
            samples = ap (map (read_at file)) is ∙ all-read;
          }
