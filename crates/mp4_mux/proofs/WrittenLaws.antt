-- What a finished movie is: a box for each accepted track, which leads to its samples, and data that they share out.
use Rattle.std.proofs.Common.{◌≡◌, ℕ, zero, suc, ◌+◌, ◌<◌, ◌≤◌, List, [], ◌∷◌, ◌++◌, length, get_or, map, slice_get}
use Rattle.std.proofs.Common.{unwrap_or, Some, refl, sym, ap, subst, ◌∙◌, append_assoc, arith}
use Rattle.std.specs.List.{All, AllByRecursion}
use Rattle.std.proofs.lemmas.List.{length-append}
use Rattle.std.proofs.lemmas.List.Elements.{All-from_recursion}
use Rattle.mp4_table.specs.Chunks.{laid_from}
use Rattle.mp4_boxes.specs.declared.trak.TrakBox.{TrakBox}
use Rattle.mp4_samples.specs.Plain.{sample_places}
use Rattle.mp4_samples.specs.Tables.{tables_of}
use Rattle.mp4_mux.specs.Mdat.{mdat_header_of}
use Rattle.mp4_mux.proofs.MdatLaws.{length-mdat_header_of}
use Rattle.mp4_mux.specs.TrackHeaders.{PlacedChunk, FinishedTrack}
use Rattle.mp4_mux.specs.FinishedTrack.{stbl_for, trak_with, trak_for, movie_for}
use Rattle.mp4_mux.specs.Chunks.{TrackState, Chunk, sample_bytes, chunk_bytes, samples_of, placed_from, of_track}
use Rattle.mp4_mux.specs.Writing.{WriterState, AcceptedTrack, info_of, no_track, accepted, accepted_from, with_end}
use Rattle.mp4_mux.specs.Writing.{before_data, data_of, data_place, finished_from, finished_tracks, movie_bytes}
use Rattle.mp4_mux.specs.Writing.{movie_of, whole_of}
use Rattle.mp4_mux.specs.Sound.{IsKnownChunk, IsSound}
use Rattle.mp4_mux.proofs.EndedStates.{all-append, end-count, end-none_pending, sound_end}
use Rattle.mp4_mux.proofs.FineLaws.{within_data}
use Rattle.mp4_mux.specs.Written.{IsWrittenTrack, IsWrittenMovie, Tiles, sizes_of, all_samples, SampleRange}
use Rattle.mp4_mux.specs.Written.{ranges_from, ranges, ranges_of}
use Rattle.mp4_mux.proofs.TileLaws.{sum-sizes_of, all_samples-bytes, ranges_from-in_order, ranges_of-table, owned}
use Rattle.mp4_mux.proofs.WrittenTrackLaws.{track, leads, is_written}

-- the box of each track
module _ (m : ℕ) (cs : List Chunk) (placed : List PlacedChunk) where
  abbrev traks : ℕ → List TrackState → List TrakBox
  traks id ts = map (trak_for m) (finished_from id (accepted_from id ts cs) placed)

  length-traks : (id : ℕ) (ts : List TrackState) → length (traks id ts) ≡ length (accepted_from id ts cs)
  unfolding finished_from accepted_from
  length-traks id [] = refl
  length-traks id (t ∷ ts) = ap suc (length-traks (id + 1) ts)

  length-accepted : (id : ℕ) (ts : List TrackState) → length (accepted_from id ts cs) ≡ length ts
  unfolding accepted_from
  length-accepted id [] = refl
  length-accepted id (t ∷ ts) = ap suc (length-accepted (id + 1) ts)

  -- a track as it was accepted, and as it is finished
  abbrev accepted_as : ℕ → TrackState → AcceptedTrack
  accepted_as id t = record { config = t.config; samples = samples_of id cs ++ t.pending }

  abbrev finished_as : ℕ → TrackState → FinishedTrack
  finished_as id t = record {
    id = id;
    config = t.config;
    samples = map info_of (samples_of id cs ++ t.pending);
    chunks = of_track id placed;
  }

  -- what holds of each track and its box holds of those that are at the same place
  at_place : (R : ℕ → AcceptedTrack → TrakBox → Type 0) (id : ℕ) (ts : List TrackState)
      → ((u : ℕ) → u < length ts → R (id + u) (accepted_as (id + u) (get_or ts u no_track))
      (trak_for m (finished_as (id + u) (get_or ts u no_track))))
      → (k : ℕ) (trak : TrakBox) → slice_get (traks id ts) k ≡ Some trak
      → (a : AcceptedTrack) × (slice_get (accepted_from id ts cs) k ≡ Some a) × R (id + k) a trak
  unfolding finished_from accepted_from
  at_place R id [] h k trak e = absurd cc
  at_place R id (t ∷ ts) h zero trak e =
      let here : id + 0 ≡ id = omega arith in
      let first = trak_for m (finished_as id t) in
      let same : first ≡ trak = ap (λ o. unwrap_or o first) e in
      let fact : R id (accepted_as id t) first =
      subst (λ v. R v (accepted_as v t) (trak_for m (finished_as v t))) here (h 0 (omega arith)) in (
        accepted_as id t,
        refl,
        subst (λ v. R v (accepted_as id t) trak) (sym here) (subst (R id (accepted_as id t)) same fact),
      )
  at_place R id (t ∷ ts) h (suc k) trak e =
      let further : (u : ℕ) → id + suc u ≡ (id + 1) + u = λ u. omega arith in
      let later = at_place R (id + 1) ts
      (λ u l. let t = get_or ts u no_track in
      subst (λ v. R v (accepted_as v t) (trak_for m (finished_as v t))) (further u) (h (suc u) (omega (arith, l))))
      k trak e in
      (later.0, later.1, subst (λ v. R v later.0 trak) (sym (further k)) later.2)

module _ (st : WriterState) (h : IsSound st) where
  abbrev fin : WriterState
  fin = with_end st

  abbrev cs : List Chunk
  cs = fin.chunks

  abbrev m : ℕ
  m = st.config.timescale

  abbrev placed : List PlacedChunk
  placed = placed_from (data_place st) cs

  abbrev front : List ℕ
  front = before_data st ++ mdat_header_of (16 + length (data_of fin))

  abbrev more : List ℕ
  more = movie_bytes m (finished_tracks fin)

  length-front : length front ≡ data_place st
  length-front =
      length-append (before_data st) (mdat_header_of (16 + length (data_of fin)))
      ∙ ap (λ n. length (before_data st) + n) (length-mdat_header_of (16 + length (data_of fin)))

  whole-is : whole_of fin ≡ front ++ (chunk_bytes cs ++ more)
  unfolding whole_of
  whole-is =
      let header = mdat_header_of (16 + length (data_of fin)) in
      ap (λ bs. bs ++ more) (sym (append_assoc (before_data st) header (chunk_bytes cs)))
      ∙ append_assoc front (chunk_bytes cs) more

  traks-are : (movie_of fin).traks ≡ traks m cs placed 1 fin.tracks
  unfolding movie_for
  traks-are = refl

  -- the box of a track that was accepted
  abbrev IsBoxOf : ℕ → AcceptedTrack → TrakBox → Type 0
  IsBoxOf id a trak =
      IsWrittenTrack fin id a trak × (sample_places (tables_of trak) ≡ ranges_of id (ranges fin))

  known : AllByRecursion (IsKnownChunk fin) cs
  known = (sound_end st h).known

  each : (u : ℕ) → u < length fin.tracks
      → IsBoxOf (1 + u) (accepted_as m cs placed (1 + u) (get_or fin.tracks u no_track))
      (trak_for m (finished_as m cs placed (1 + u) (get_or fin.tracks u no_track)))
  unfolding trak_with
  each u l =
      let t = get_or fin.tracks u no_track in
      let old : u < length st.tracks = omega (arith, l, end-count st) in
      let samples : samples_of (1 + u) cs ++ t.pending ≡ samples_of (1 + u) cs =
      end-none_pending st (1 + u) u old in
      let chunks = All-from_recursion _ (of_track (1 + u) (placed_from (length front) cs))
      (within_data fin (1 + u) (length front) cs known) in
      let some : All (λ (c : PlacedChunk). 1 ≤ c.count) (of_track (1 + u) (placed_from (length front) cs)) =
      λ k d lt. (chunks k d lt).0 in
      let one : IsWrittenTrack fin (1 + u) (record { config = t.config; samples = samples_of (1 + u) cs })
      (trak_for m (track m (1 + u) t.config front cs more)) =
      is_written m (1 + u) t.config front cs more some fin whole-is in
      let two : sample_places (stbl_for (track m (1 + u) t.config front cs more)) ≡ ranges_of (1 + u) (ranges fin) =
      leads m (1 + u) t.config front cs more ∙ sym (ranges_of-table (1 + u) (length front) cs)
      ∙ ap (λ n. ranges_of (1 + u) (ranges_from n cs)) length-front in
      subst (λ ss. IsBoxOf (1 + u) (record { config = t.config; samples = ss }) (trak_for m (record {
        id = 1 + u;
        config = t.config;
        samples = map info_of ss;
        chunks = of_track (1 + u) placed;
      }))) (sym samples)
      (subst (λ n. IsBoxOf (1 + u) (record { config = t.config; samples = samples_of (1 + u) cs }) (trak_for m (record {
        id = 1 + u;
        config = t.config;
        samples = map info_of (samples_of (1 + u) cs);
        chunks = of_track (1 + u) (placed_from n cs);
      }))) length-front (one, two))

  found : (k : ℕ) (trak : TrakBox) → slice_get (movie_of fin).traks k ≡ Some trak
      → (a : AcceptedTrack) × (slice_get (accepted fin) k ≡ Some a) × IsBoxOf (1 + k) a trak
  found k trak e =
      at_place m cs placed IsBoxOf 1 fin.tracks each k trak (ap (λ xs. slice_get xs k) (sym traks-are) ∙ e)

  count : length (movie_of fin).traks ≡ length (accepted fin)
  count = ap length traks-are ∙ length-traks m cs placed 1 fin.tracks

  -- a range is of a track that is there
  abbrev IsKnownRange : SampleRange → Type 0
  IsKnownRange r = (1 ≤ r.track_id) × (r.track_id ≤ length (movie_of fin).traks)

  owned-known : (id : ℕ) → 1 ≤ id → id ≤ length (movie_of fin).traks → (rs : List (ℕ × ℕ))
      → AllByRecursion IsKnownRange (owned id rs)
  owned-known id a b [] = tt
  owned-known id a b (r ∷ rs) = ((a, b), owned-known id a b rs)

  ranges-known : (place : ℕ) (ds : List Chunk) → AllByRecursion (IsKnownChunk fin) ds
      → AllByRecursion IsKnownRange (ranges_from place ds)
  unfolding ranges_from
  ranges-known place [] k = tt
  ranges-known place (c ∷ ds) k =
      let first = k.0.track.first in
      let last = k.0.track.last in
      let next = place + length (sample_bytes c.samples) in
      all-append IsKnownRange (owned c.track_id (laid_from place (sizes_of c.samples))) (ranges_from next ds)
      (owned-known c.track_id first (omega (arith, last, count, length-accepted m cs placed 1 fin.tracks))
      (laid_from place (sizes_of c.samples)))
      (ranges-known next ds k.1)

  -- the samples share out the data
  pub tiles : Tiles (with_end st)
  tiles = record {
    in_order = ranges_from-in_order (data_place st) cs;
    whole = sum-sizes_of (all_samples cs) ∙ ap length (all_samples-bytes cs);
    known = All-from_recursion _ (ranges fin) (ranges-known (data_place st) cs known);
    led_to = λ k trak e.
        let id : 1 + k ≡ k + 1 = omega arith in
        (found k trak e).2.1 ∙ ap (λ v. ranges_of v (ranges fin)) id;
  }

  -- the movie has a box for each accepted track, and their samples share out the data
  pub written_movie : IsWrittenMovie (with_end st)
  written_movie = record {
    count = count;
    tracks = λ k a trak at e.
        let id : 1 + k ≡ k + 1 = omega arith in
        let f = found k trak e in
        let same : f.0 ≡ a = ap (λ o. unwrap_or o a) (sym f.1 ∙ at) in
        subst (λ v. IsWrittenTrack fin v a trak) id (subst (λ b. IsWrittenTrack fin (1 + k) b trak) same f.2.0);
    tiles = tiles;
  }
