-- The tracks of which a finished movie is made can be written.
use Rattle.std.proofs.Common.{◌≡◌, ℕ, suc, ◌+◌, ◌-◌, ◌^◌, ◌<◌, ◌≤◌, true, false, cond, eqb, List, [], ◌∷◌, ◌++◌}
use Rattle.std.proofs.Common.{length, get_or, map, refl, sym, ap, ◌∙◌, arith, subst}
use Rattle.std.specs.List.{All, AllByRecursion, sum_by}
use Rattle.std.proofs.lemmas.List.{length-append, length-map}
use Rattle.std.proofs.lemmas.List.Elements.{All-from_recursion, All-map}
use Rattle.std.proofs.lemmas.List.Sums.{sum_by-cons}
use Rattle.mp4_samples.specs.Samples.{Sample}
use Rattle.mp4_mux.specs.SampleInfos.{IsInRangeSampleInfo}
use Rattle.mp4_mux.specs.Mdat.{mdat_header_of}
use Rattle.mp4_mux.proofs.MdatLaws.{length-mdat_header_of}
use Rattle.mp4_mux.specs.Chunks.{TrackState, Chunk, sample_bytes, chunk_bytes, samples_of, placed_from, of_track}
use Rattle.mp4_mux.specs.TrackHeaders.{PlacedChunk, FinishedTrack}
use Rattle.mp4_mux.proofs.FineTracks.{IsFineTrack}
use Rattle.mp4_mux.specs.Writing.{WriterState, info_of, no_track, accepted_from, with_end}
use Rattle.mp4_mux.specs.Writing.{before_data, data_of, data_place, finished_from, finished_tracks, movie_bytes}
use Rattle.mp4_mux.specs.Writing.{whole_of}
use Rattle.mp4_mux.specs.Sound.{IsFine, IsKnownChunk, IsSound}
use Rattle.mp4_mux.proofs.EndedStates.{end-count, end-none_pending, sound_end}

-- the chunks of a track have all of its samples
pub counted : (id place : ℕ) (cs : List Chunk)
    → sum_by (λ (c : PlacedChunk). c.count) (of_track id (placed_from place cs)) ≡ length (samples_of id cs)
unfolding samples_of placed_from of_track
counted id place [] = refl
counted id place (c ∷ cs) =
    let one : PlacedChunk = record { track_id = c.track_id; count = length c.samples; offset = place } in
    let next = place + length (sample_bytes c.samples) in
    let rest = of_track id (placed_from next cs) in
    let ind = counted id next cs in
    elim (eqb c.track_id id) as
    (λ b. sum_by (λ (c : PlacedChunk). c.count) (cond b (one ∷ rest) rest)
    ≡ length (cond b (c.samples ++ samples_of id cs) (samples_of id cs))) [
      | true ↦ omega (
        arith,
        sum_by-cons (λ (c : PlacedChunk). c.count) one rest,
        ind,
        length-append c.samples (samples_of id cs),
      )
      | false ↦ ind
    ]

-- each of them has one at least, and lies within the data
pub within_data : (st : WriterState) (id place : ℕ) (cs : List Chunk) → AllByRecursion (IsKnownChunk st) cs
    → AllByRecursion (λ (c : PlacedChunk). (1 ≤ c.count) × (c.offset ≤ place + length (chunk_bytes cs)))
    (of_track id (placed_from place cs))
unfolding placed_from of_track
within_data st id place [] h = tt
within_data st id place (c ∷ cs) h =
    let one : PlacedChunk = record { track_id = c.track_id; count = length c.samples; offset = place } in
    let next = place + length (sample_bytes c.samples) in
    let end = place + length (chunk_bytes (c ∷ cs)) in
    let rest = of_track id (placed_from next cs) in
    let same : next + length (chunk_bytes cs) ≡ end =
    omega (arith, length-append (sample_bytes c.samples) (chunk_bytes cs)) in
    let later : AllByRecursion (λ (c : PlacedChunk). (1 ≤ c.count) × (c.offset ≤ end)) rest =
    subst (λ n. AllByRecursion (λ (c : PlacedChunk). (1 ≤ c.count) × (c.offset ≤ n)) rest) same
    (within_data st id next cs h.1) in
    let some = h.0.some in
    elim (eqb c.track_id id) as
    (λ b. AllByRecursion (λ (c : PlacedChunk). (1 ≤ c.count) × (c.offset ≤ end)) (cond b (one ∷ rest) rest))
    [ true ↦ ((omega arith, omega arith), later) | false ↦ later ]

-- what holds of each track as it is finished holds of all
each_finished : (P : FinishedTrack → Type 0) (id : ℕ) (ts : List TrackState) (cs : List Chunk)
    (placed : List PlacedChunk)
    → ((u : ℕ) → u < length ts → P (record {
      id = id + u;
      config = (get_or ts u no_track).config;
      samples = map info_of (samples_of (id + u) cs ++ (get_or ts u no_track).pending);
      chunks = of_track (id + u) placed;
    }))
    → AllByRecursion P (finished_from id (accepted_from id ts cs) placed)
unfolding finished_from accepted_from
each_finished P id [] cs placed h = tt
each_finished P id (t ∷ ts) cs placed h =
    let here : id + 0 ≡ id = omega arith in (
      subst (λ v. P (record {
        id = v;
        config = t.config;
        samples = map info_of (samples_of v cs ++ t.pending);
        chunks = of_track v placed;
      })) here (h 0 (omega arith)),
      each_finished P (id + 1) ts cs placed (λ u l.
          let further : id + suc u ≡ (id + 1) + u = omega arith in
          subst (λ v. P (record {
            id = v;
            config = (get_or ts u no_track).config;
            samples = map info_of (samples_of v cs ++ (get_or ts u no_track).pending);
            chunks = of_track v placed;
          })) further (h (suc u) (omega (arith, l)))),
    )

module _ (st : WriterState) (h : IsSound st) (room : data_place st + length (data_of (with_end st)) < 2 ^ 64) where
  abbrev fin : WriterState
  fin = with_end st

  abbrev placed : List PlacedChunk
  placed = placed_from (data_place st) fin.chunks

  fine_one : (u : ℕ) → u < length fin.tracks → IsFineTrack st.config.timescale (record {
    id = 1 + u;
    config = (get_or fin.tracks u no_track).config;
    samples = map info_of (samples_of (1 + u) fin.chunks ++ (get_or fin.tracks u no_track).pending);
    chunks = of_track (1 + u) placed;
  })
  fine_one u l =
      let sound = sound_end st h in
      let few = sound.few in
      let back : 1 + u - 1 ≡ u = omega arith in
      let old : u < length st.tracks = omega (arith, l, end-count st) in
      let t = get_or fin.tracks u no_track in
      let ss = samples_of (1 + u) fin.chunks ++ t.pending in
      let fine : IsFine st.config.timescale t.config ss =
      subst (λ v. IsFine st.config.timescale (get_or fin.tracks v no_track).config
      (samples_of (1 + u) fin.chunks ++ (get_or fin.tracks v no_track).pending)) back
      (sound.fine (1 + u) (record { first = omega arith; last = omega (arith, l) })) in
      let none : ss ≡ samples_of (1 + u) fin.chunks = end-none_pending st (1 + u) u old in
      let chunks = All-from_recursion _ (of_track (1 + u) placed)
      (within_data fin (1 + u) (data_place st) fin.chunks sound.known) in
      let count = fine.count in
      record {
        id_counts_from_1 = omega arith;
        id = omega (arith, few, l);
        config = fine.config_fits;
        accepted = fine.config_is;
        samples = All-map IsInRangeSampleInfo info_of ss
            (All-from_recursion (λ (s : Sample). IsInRangeSampleInfo (info_of s)) ss fine.samples);
        few_samples = omega (arith, count, length-map ss info_of);
        all_in_chunks = counted (1 + u) (data_place st) fin.chunks ∙ ap length (sym none) ∙ sym (length-map ss info_of);
        some_per_chunk = λ k d lt. (chunks k d lt).0;
        offsets = λ k d lt. let o = (chunks k d lt).1 in omega (arith, o, room);
        duration = fine.duration;
      }

  -- the tracks of a finished movie can be written
  pub fine_tracks : All (IsFineTrack st.config.timescale) (finished_tracks (with_end st))
  fine_tracks =
      All-from_recursion (IsFineTrack st.config.timescale) (finished_tracks fin)
      (each_finished (IsFineTrack st.config.timescale) 1 fin.tracks fin.chunks placed fine_one)

-- the data end before the movie does
pub data_end-le-whole : (st : WriterState)
    → data_place st + length (data_of (with_end st)) ≤ length (whole_of (with_end st))
unfolding whole_of
data_end-le-whole st =
    let front = before_data st in
    let all = data_of (with_end st) in
    let header = mdat_header_of (16 + length all) in
    let movie = movie_bytes st.config.timescale (finished_tracks (with_end st)) in
    omega (
      arith,
      length-append (front ++ (header ++ all)) movie,
      length-append front (header ++ all),
      length-append header all,
      length-mdat_header_of (16 + length all),
    )
