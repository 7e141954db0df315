-- What a writer keeps says what it holds, when its end was written.
use Rattle.std.proofs.Common.{◌≡◌, ◌≢◌, ℕ, zero, suc, ◌+◌, ◌-◌, ◌≤◌, ◌<◌, false, cond, eqb, List, [], ◌∷◌, ◌++◌}
use Rattle.std.proofs.Common.{length, get_or, take, drop, map, refl, sym, ap, ap₂, subst, ◌∙◌, append_assoc, arith}
use Rattle.std.specs.List.{AllByRecursion, sum_by}
use Rattle.std.proofs.lemmas.List.{append-nil, length-append, length-drop, length-map, map-append, get_or-map}
use Rattle.std.proofs.lemmas.List.{take-append-le, drop-append-le, length-take-le, take_at as take-exactly, drop_at}
use Rattle.std.proofs.lemmas.List.{drop-drop}
use Rattle.std.proofs.lemmas.List.{take-append-drop}
use Rattle.std.proofs.lemmas.Bool.{ne_eqb}
use Rattle.std.proofs.Common.{◌^◌}
use Rattle.std.specs.List.{All}
use Rattle.std.proofs.lemmas.List.Elements.{All-from_get_or}
use Rattle.mp4_codec.specs.Boxes.{size_cause}
use Rattle.mp4_boxes.specs.Moov.{moov_payload}
use Rattle.mp4_mux.specs.FinishedTrack.{movie_for}
use Rattle.mp4_mux.specs.Writing.{end_cause, data_of, data_place}
use Rattle.mp4_mux.specs.declared.sample_info.SampleInfo.{SampleInfo}
use Rattle.mp4_mux.specs.declared.chunk_place.ChunkRef.{ChunkRef}
use Rattle.mp4_mux.specs.Mdat.{mdat_header_of}
use Rattle.mp4_mux.proofs.MdatLaws.{length-mdat_header_of}
use Rattle.mp4_samples.specs.Samples.{Sample}
use Rattle.mp4_mux.specs.TrackHeaders.{PlacedChunk, FinishedTrack, placed_of}
use Rattle.mp4_mux.specs.Writing.{movie_bytes}
use Rattle.mp4_mux.specs.Chunks.{TrackState, Chunk, sample_bytes, chunk_bytes, chunk_of, last_chunks, none_pending}
use Rattle.mp4_mux.specs.Chunks.{samples_of, placed_from, of_track}
use Rattle.mp4_mux.proofs.ChunksLaws.{chunk_bytes-append, samples_of-append, of_track-append, placed_from-append}
use Rattle.mp4_mux.proofs.ChunksLaws.{pending_bytes, last_chunks-bytes, last_chunks-samples, last_chunks-placed}
use Rattle.mp4_mux.specs.Writing.{WriterState, info_of, no_track, track_at, accepted_of, accepted_from, before_data}
use Rattle.mp4_mux.specs.Writing.{finished_from, finished_tracks, whole_of, with_end}
use Rattle.mp4_mux.specs.Building.{Building, pending_place, samples_in}
use Rattle.mp4_mux.specs.Media.{building_at, no_building, place_in, infos_in, chunk_in, track_of}
use Rattle.mp4_mux.proofs.MediaLaws.{samples_in-more}
use Rattle.mp4_mux.specs.Sound.{IsSound}
use Rattle.mp4_mux.specs.Parts.{Parts, open_state, state_of, IsChunkAt, IsWriting, unwritten, last_place}
use Rattle.mp4_mux.specs.Parts.{finished_buildings}
use Rattle.mp4_mux.specs.Parts.{movie_at_end, parts_at_end}
use Rattle.mp4_mux.proofs.PartsLaws.{whole_now, length_now}

-- what is pending of the tracks, as they are kept and as they are held
unwritten-is : (bs : List Building) → unwritten bs ≡ pending_bytes (map track_of bs)
unfolding unwritten
unwritten-is [] = refl
unwritten-is (b ∷ bs) = ap (λ (xs : List ℕ). sample_bytes b.pending ++ xs) (unwritten-is bs)

unwritten-take : (u : ℕ) (bs : List Building) → pending_bytes (take u (map track_of bs)) ≡ unwritten (take u bs)
unfolding unwritten
unwritten-take zero bs = refl
unwritten-take (suc u) [] = refl
unwritten-take (suc u) (b ∷ bs) = ap (λ (xs : List ℕ). sample_bytes b.pending ++ xs) (unwritten-take u bs)

-- the last chunk of a track, as it is placed and as it is noted
last_place-is : (id place : ℕ) (b : Building)
    → placed_from place (chunk_of id b.pending) ≡ map (placed_of id) (last_place place b)
unfolding placed_from
last_place-is id place b = go b.pending refl
  where
    go : (ss : List Sample) → b.pending ≡ ss
        → placed_from place (chunk_of id b.pending) ≡ map (placed_of id) (last_place place b)
    go [] e =
        ap (λ (xs : List Sample). placed_from place (chunk_of id xs)) e
        ∙ ap (λ (xs : List Sample). map (placed_of id) (cond (eqb (length xs) 0) [] (pending_place b place ∷ [])))
        (sym e)
    go (s ∷ ss) e =
        let some : length b.pending ≢ 0 = λ z. absurd (omega (arith, z, ap length e)) in
        ap (λ (xs : List Sample). placed_from place (chunk_of id xs)) e
        ∙ ap (λ (n : ℕ). record { track_id = id; count = n; offset = place } ∷ []) (ap length (sym e))
        ∙ ap (λ v. map (placed_of id) (cond v [] (pending_place b place ∷ [])))
        (sym (ne_eqb (length b.pending) 0 some))

-- Tracks as they are finished, by what is kept of each.
module _ (chunks : List Chunk) (placed : List PlacedChunk) where
  -- what is kept of a track says what its chunks hold and where they lie
  record Finishes (id place : ℕ) (b : Building) : Type 0 where
    samples : map info_of (samples_of id chunks ++ []) ≡ b.samples
    places : of_track id placed ≡ map (placed_of id) (b.chunks ++ last_place place b)

  finish : (id place : ℕ) (bs : List Building)
      → ((u : ℕ) → u < length bs → Finishes (id + u) (place + length (unwritten (take u bs))) (building_at bs u))
      → finished_from id (accepted_from id (none_pending (map track_of bs)) chunks) placed
      ≡ finished_buildings id place bs
  unfolding finished_from accepted_from finished_buildings unwritten
  finish id place [] h = refl
  finish id place (b ∷ bs) h =
      let first : id + 0 ≡ id = omega arith in
      let at : place + 0 ≡ place = omega arith in
      let f : Finishes id place b =
      subst (λ n. Finishes n place b) first (subst (λ n. Finishes (id + 0) n b) at (h 0 (omega arith))) in
      let next = place + length (sample_bytes b.pending) in
      let rest = finish (id + 1) next bs (λ u l.
      let further : id + suc u ≡ (id + 1) + u = omega arith in
      let same_place : place + length (unwritten (take (suc u) (b ∷ bs))) ≡ next + length (unwritten (take u bs)) =
      omega (arith, length-append (sample_bytes b.pending) (unwritten (take u bs))) in
      subst (λ n. Finishes n (next + length (unwritten (take u bs))) (building_at bs u)) further
      (subst (λ n. Finishes (id + suc u) n (building_at bs u)) same_place (h (suc u) (omega (arith, l))))) in
      ap₂ (λ (x : FinishedTrack) (xs : List FinishedTrack). x ∷ xs)
      (ap₂ (λ (ss : List SampleInfo) (cs : List PlacedChunk). record {
        id = id;
        config = b.config;
        samples = ss;
        chunks = cs;
      }) f.samples f.places) rest

module _ (p : Parts) (h : IsWriting p) (goes_on : p.ended ≡ false) where
  abbrev st : WriterState
  st = open_state p

  abbrev buffer : List ℕ
  buffer = p.media.buffer

  abbrev tracks : List Building
  tracks = p.media.tracks

  abbrev all_chunks : List Chunk
  all_chunks = st.chunks ++ last_chunks 1 st.tracks

  placed-all : placed_from (p.mdat + 16) all_chunks
      ≡ placed_from (p.mdat + 16) st.chunks ++ placed_from (length buffer) (last_chunks 1 st.tracks)
  placed-all =
      placed_from-append (p.mdat + 16) st.chunks (last_chunks 1 st.tracks)
      ∙ ap (λ n. placed_from (p.mdat + 16) st.chunks ++ placed_from n (last_chunks 1 st.tracks))
      (sym (length_now p h goes_on))

  held : (u : ℕ) → u < length tracks → get_or st.tracks u no_track ≡ track_of (building_at tracks u)
  held u l = get_or-map track_of tracks u no_building no_track l

  finishes : (u : ℕ) → u < length tracks
      → Finishes all_chunks (placed_from (p.mdat + 16) all_chunks) (1 + u)
      (length buffer + length (unwritten (take u tracks))) (building_at tracks u)
  finishes u l =
      let b = building_at tracks u in
      let id : u + 1 ≡ 1 + u = omega arith in
      let back : u + 1 - 1 ≡ u = omega arith in
      let there : u < length st.tracks = omega (arith, l, length-map tracks track_of) in
      let pending : (track_at st (u + 1)).pending ≡ (get_or st.tracks u no_track).pending =
      ap (λ v. (get_or st.tracks v no_track).pending) back in
      let accepted : samples_of (1 + u) all_chunks ++ [] ≡ accepted_of st (u + 1) =
      append-nil (samples_of (1 + u) all_chunks)
      ∙ samples_of-append (1 + u) st.chunks (last_chunks 1 st.tracks)
      ∙ ap₂ (λ (v : ℕ) (ss : List Sample). samples_of v st.chunks ++ ss) (sym id)
      (last_chunks-samples 1 u st.tracks ∙ sym pending) in
      let last : of_track (1 + u) (placed_from (length buffer) (last_chunks 1 st.tracks))
      ≡ map (placed_of (1 + u)) (last_place (length buffer + length (unwritten (take u tracks))) b) =
      last_chunks-placed (length buffer) 1 u st.tracks there
      ∙ ap₂ (λ (bs : List ℕ) (t : TrackState). placed_from (length buffer + length bs) (chunk_of (1 + u) t.pending))
      (unwritten-take u tracks) (held u l)
      ∙ last_place-is (1 + u) (length buffer + length (unwritten (take u tracks))) b in
      record {
        samples = ap (map info_of) accepted ∙ sym (h.samples u l);
        places = ap (of_track (1 + u)) placed-all
            ∙ of_track-append (1 + u) (placed_from (p.mdat + 16) st.chunks)
            (placed_from (length buffer) (last_chunks 1 st.tracks))
            ∙ ap₂ (λ (xs ys : List PlacedChunk). xs ++ ys)
            (subst (λ v. of_track v (placed_from (p.mdat + 16) st.chunks) ≡ map (placed_of v) b.chunks) id
            (h.places u l))
            last
            ∙ sym (map-append (placed_of (1 + u)) b.chunks
            (last_place (length buffer + length (unwritten (take u tracks))) b));
      }

  -- the tracks as they are finished, by what is kept and by what is held
  pub finished-same : finished_tracks (with_end st) ≡ finished_buildings 1 (length buffer) tracks
  finished-same =
      ap (λ n. finished_from 1 (accepted_from 1 (none_pending st.tracks) all_chunks) (placed_from (n + 16) all_chunks))
      (sym h.place)
      ∙ finish all_chunks (placed_from (p.mdat + 16) all_chunks) 1 (length buffer) tracks finishes

  abbrev header : List ℕ
  header = mdat_header_of (length buffer - p.mdat + length (unwritten tracks))

  abbrev tail : List ℕ
  tail = unwritten tracks ++ movie_at_end p

  abbrev new : List ℕ
  new = (parts_at_end p).media.buffer

  -- the bytes with another header of mdat
  abbrev patched : List ℕ
  patched = take p.mdat buffer ++ (header ++ drop (p.mdat + 16) buffer)

  length-before : length (take p.mdat buffer ++ header) ≡ p.mdat + 16
  length-before =
      let room = h.room in
      omega (
        arith,
        length-append (take p.mdat buffer) header,
        length-take-le p.mdat buffer (omega (arith, room)),
        length-mdat_header_of (length buffer - p.mdat + length (unwritten tracks)),
      )

  grouped : patched ≡ (take p.mdat buffer ++ header) ++ drop (p.mdat + 16) buffer
  grouped = sym (append_assoc (take p.mdat buffer) header (drop (p.mdat + 16) buffer))

  length-patched : length patched ≡ length buffer
  length-patched =
      omega (
        arith,
        h.room,
        ap length grouped,
        length-append (take p.mdat buffer ++ header) (drop (p.mdat + 16) buffer),
        length-before,
        length-drop (p.mdat + 16) buffer,
      )

  -- after the header of mdat the bytes are the same
  drop-patched : (o : ℕ) → p.mdat + 16 ≤ o → drop o patched ≡ drop o buffer
  drop-patched o l =
      let split : (p.mdat + 16) + (o - (p.mdat + 16)) ≡ o = omega (arith, l) in
      ap (drop o) grouped
      ∙ ap (λ n. drop n ((take p.mdat buffer ++ header) ++ drop (p.mdat + 16) buffer)) (sym split)
      ∙ sym (drop-drop (o - (p.mdat + 16)) (p.mdat + 16)
      ((take p.mdat buffer ++ header) ++ drop (p.mdat + 16) buffer))
      ∙ ap (drop (o - (p.mdat + 16)))
      (drop_at (take p.mdat buffer ++ header) (drop (p.mdat + 16) buffer) (p.mdat + 16) length-before)
      ∙ drop-drop (o - (p.mdat + 16)) (p.mdat + 16) buffer
      ∙ ap (λ n. drop n buffer) split

  chunk-then : (r : ChunkRef) → IsChunkAt p.mdat p.media r → chunk_in tracks new r ≡ chunk_in tracks buffer r
  chunk-then r a =
      let place = place_in tracks r in
      let start = a.start in
      let bytes = a.bytes in
      let fits : sum_by (λ (i : SampleInfo). i.size) (infos_in tracks r) ≤ length (drop place.offset buffer) =
      omega (arith, bytes, length-drop place.offset buffer) in
      ap (λ (bs : List ℕ). record { track_id = r.track + 1; samples = samples_in (infos_in tracks r) bs })
      (drop-append-le place.offset patched tail (omega (arith, bytes, length-patched))
      ∙ ap (λ (bs : List ℕ). bs ++ tail) (drop-patched place.offset start))
      ∙ ap (λ (ss : List Sample). record { track_id = r.track + 1; samples = ss })
      (samples_in-more (infos_in tracks r) (drop place.offset buffer) tail fits)

  chunks-then : (rs : List ChunkRef) → AllByRecursion (IsChunkAt p.mdat p.media) rs
      → map (chunk_in tracks new) rs ≡ map (chunk_in tracks buffer) rs
  chunks-then [] a = refl
  chunks-then (r ∷ rs) a = ap₂ (λ (x : Chunk) (xs : List Chunk). x ∷ xs) (chunk-then r a.0) (chunks-then rs a.1)

  still-chunks : (rs : List ChunkRef) → AllByRecursion (IsChunkAt p.mdat p.media) rs
      → AllByRecursion (IsChunkAt p.mdat (parts_at_end p).media) rs
  still-chunks [] a = tt
  still-chunks (r ∷ rs) a =
      let bytes = a.0.bytes in (
        record {
          track = a.0.track;
          index = a.0.index;
          samples = a.0.samples;
          start = a.0.start;
          bytes = omega (arith, bytes, length-append patched tail, length-patched);
        },
        still-chunks rs a.1,
      )

  front-then : take p.front new ≡ take p.front buffer
  front-then =
      let within = h.within in
      let room = h.room in
      let first : p.front ≤ length (take p.mdat buffer) =
      omega (arith, within, room, length-take-le p.mdat buffer (omega (arith, room))) in
      take-append-le p.front patched tail (omega (arith, within, room, length-patched))
      ∙ take-append-le p.front (take p.mdat buffer) (header ++ drop (p.mdat + 16) buffer) first
      ∙ sym (take-append-le p.front (take p.mdat buffer) (drop p.mdat buffer) first)
      ∙ ap (take p.front) (take-append-drop p.mdat buffer)

  pub open-then : open_state (parts_at_end p) ≡ st
  open-then =
      ap₂ (λ (f : List ℕ) (cs : List Chunk). record {
        front = f;
        config = p.config;
        tracks = map track_of tracks;
        chunks = cs;
        ended = false;
      }) front-then (chunks-then p.media.written h.chunks)

  -- what is kept at the end says that the end was written
  pub state-then : state_of (parts_at_end p) ≡ with_end (state_of p)
  unfolding state_of
  state-then = ap with_end open-then ∙ ap (λ b. with_end (cond b (with_end st) st)) (sym goes_on)

  before-is : take p.mdat buffer ≡ before_data st
  before-is =
      ap (take p.mdat) (whole_now p h goes_on)
      ∙ take-exactly (before_data st) (mdat_header_of 8 ++ chunk_bytes st.chunks) p.mdat (sym h.place)

  data-is : drop (p.mdat + 16) buffer ≡ chunk_bytes st.chunks
  data-is =
      let front = before_data st in
      ap (drop (p.mdat + 16))
      (whole_now p h goes_on ∙ sym (append_assoc front (mdat_header_of 8) (chunk_bytes st.chunks)))
      ∙ drop_at (front ++ mdat_header_of 8) (chunk_bytes st.chunks) (p.mdat + 16)
      (omega (arith, length-append front (mdat_header_of 8), length-mdat_header_of 8, h.place))

  data-then : chunk_bytes all_chunks ≡ drop (p.mdat + 16) buffer ++ unwritten tracks
  data-then =
      chunk_bytes-append st.chunks (last_chunks 1 st.tracks)
      ∙ ap₂ (λ (xs ys : List ℕ). xs ++ ys) (sym data-is)
      (last_chunks-bytes 1 st.tracks ∙ sym (unwritten-is tracks))

  size-then : length buffer - p.mdat + length (unwritten tracks) ≡ 16 + length (chunk_bytes all_chunks)
  size-then =
      let room = h.room in
      omega (
        arith,
        room,
        ap length data-then,
        length-append (drop (p.mdat + 16) buffer) (unwritten tracks),
        length-drop (p.mdat + 16) buffer,
      )

  whole-end : new ≡ whole_of (with_end st)
  unfolding whole_of
  whole-end =
      let size = 16 + length (chunk_bytes all_chunks) in
      sym (append_assoc patched (unwritten tracks) (movie_at_end p))
      ∙ ap₂ (λ (xs ys : List ℕ). xs ++ ys)
      (append_assoc (take p.mdat buffer) (header ++ drop (p.mdat + 16) buffer) (unwritten tracks)
      ∙ ap₂ (λ (xs ys : List ℕ). xs ++ ys) before-is
      (append_assoc header (drop (p.mdat + 16) buffer) (unwritten tracks)
      ∙ ap₂ (λ (n : ℕ) (xs : List ℕ). mdat_header_of n ++ xs) size-then (sym data-then)))
      (ap (movie_bytes p.config.timescale) (sym finished-same))

  ended-state : state_of (parts_at_end p) ≡ with_end (open_state (parts_at_end p))
  unfolding state_of
  ended-state = refl

  -- and agrees with that
  pub writing-then : IsWriting (parts_at_end p)
  writing-then = record {
    room = omega (arith, h.room, length-append patched tail, length-patched);
    within = h.within;
    place = h.place ∙ ap (λ (x : WriterState). length (before_data x)) (sym open-then);
    whole = whole-end ∙ ap (λ (x : WriterState). whole_of (with_end x)) (sym open-then) ∙ ap whole_of (sym ended-state);
    in_range = h.in_range;
    begun = h.begun;
    sound = subst IsSound (sym open-then) h.sound;
    chunks = still-chunks p.media.written h.chunks;
    samples = λ u l. h.samples u l ∙ ap (λ (x : WriterState). map info_of (accepted_of x (u + 1))) (sym open-then);
    places = λ u l. ap (λ (x : WriterState). of_track (u + 1) (placed_from (p.mdat + 16) x.chunks)) open-then
        ∙ h.places u l;
    clocks = h.clocks;
  }

  -- why the end is not written, by what is kept
  pub end_cause-kept : end_cause st
      ≡ size_cause (moov_payload (movie_for p.config.timescale (finished_buildings 1 (length buffer) tracks)))
  unfolding end_cause
  end_cause-kept =
      ap (λ (ts : List FinishedTrack). size_cause (moov_payload (movie_for p.config.timescale ts))) finished-same

  -- the tracks are few, and keep the movie's timescale
  pub few-kept : length tracks < 2 ^ 32
  few-kept = omega (arith, h.sound.few, length-map tracks track_of)

  pub clocks-kept : All (λ (b : Building). b.movie_timescale ≡ p.config.timescale) tracks
  clocks-kept = All-from_get_or (λ (b : Building). b.movie_timescale ≡ p.config.timescale) tracks no_building h.clocks

  -- where the data end
  pub data_end-kept : data_place st + length (data_of (with_end st)) ≡ length buffer + length (unwritten tracks)
  data_end-kept =
      let room = h.room in
      omega (
        arith,
        room,
        h.place,
        ap length data-then,
        length-append (drop (p.mdat + 16) buffer) (unwritten tracks),
        length-drop (p.mdat + 16) buffer,
      )
