-- What a writer keeps says what it holds: at the beginning, with one more track, and with one more sample.
use Rattle.std.proofs.Common.{◌≡◌, ◌≢◌, ℕ, ◌+◌, ◌-◌, ◌≤◌, ◌<◌, false, cond, List, [], ◌∷◌, ◌++◌}
use Rattle.std.proofs.Common.{length, get_or, set, take, drop, map, None, refl, sym, ap, ap₂, subst, ◌∙◌, append_assoc}
use Rattle.std.proofs.Common.{arith}
use Rattle.std.proofs.Common.{get_or-set_same, ⊎_elim}
use Rattle.std.specs.List.{AllByRecursion}
use Rattle.std.proofs.lemmas.List.{append-nil, length-append, length_push, length-map, map-append, map-set}
use Rattle.std.proofs.lemmas.List.{take_at as take-exactly, take_all, take-append-le, drop_at, get_or-map}
use Rattle.std.proofs.lemmas.List.{get_or_push, get_or_append_left}
use Rattle.std.proofs.lemmas.Bool.{cases_lt}
use Rattle.mp4_codec.specs.declared.box_type.BoxType.TheVariants.{FtypBox as ftyp}
use Rattle.mp4_codec.specs.Boxes.{box_bytes}
use Rattle.mp4_leaf.specs.Ftyp.{ftyp_payload}
use Rattle.mp4_mux.specs.declared.config.Mp4Config.{Mp4Config}
use Rattle.mp4_mux.specs.declared.config.TrackConfig.{TrackConfig}
use Rattle.mp4_mux.specs.declared.sample_info.SampleInfo.{SampleInfo}
use Rattle.mp4_mux.specs.declared.chunk_place.ChunkPlace.{ChunkPlace}
use Rattle.mp4_mux.specs.declared.chunk_place.ChunkRef.{ChunkRef}
use Rattle.mp4_mux.specs.Config.{IsInRangeConfig, IsInRangeTrackConfig}
use Rattle.mp4_mux.specs.Mdat.{mdat_header_of}
use Rattle.mp4_mux.proofs.MdatLaws.{length-mdat_header_of}
use Rattle.mp4_samples.specs.Samples.{Sample}
use Rattle.mp4_mux.specs.TrackHeaders.{placed_of}
use Rattle.mp4_mux.specs.Chunks.{TrackState, Chunk, sample_bytes, chunk_bytes, samples_of, placed_from, of_track}
use Rattle.mp4_mux.proofs.ChunksLaws.{other_id}
use Rattle.mp4_mux.specs.Writing.{WriterState, file_type_of, with_file_type, before_data, whole_of, started, with_track}
use Rattle.mp4_mux.specs.Writing.{with_pending, with_chunk, with_end, start_cause, track_cause}
use Rattle.mp4_mux.specs.Writing.{info_of, no_track, track_at, accepted_of}
use Rattle.mp4_mux.specs.Building.{Building, new_building, pushed, closed, pending_place, samples_in}
use Rattle.mp4_mux.proofs.SampleLaws.{samples_again}
use Rattle.mp4_mux.specs.Media.{building_at, no_building, no_place, place_in, infos_in, chunk_in, track_of}
use Rattle.mp4_mux.specs.Media.{media_with_chunk}
use Rattle.mp4_mux.proofs.MediaLaws.{HaveGrown, grown-push, grown-set, chunks-stay, are_chunks-stay}
use Rattle.mp4_mux.specs.Sound.{IsIdOf, IsSound, IsKnownChunk}
use Rattle.mp4_mux.proofs.StateLaws.{sound_started, sound_track}
use Rattle.mp4_mux.proofs.StateLaws.{accepted-stays, accepted-new}
use Rattle.mp4_mux.specs.Parts.{Parts, open_state, state_of, IsChunkAt, IsWriting, bytes_at_start, parts_at_start}
use Rattle.std.proofs.Common.{Bool, true, false, length-set, get_or-set_other, ◌*◌, ◌/◌}
use Rattle.std.proofs.lemmas.Bool.{cases_eq, ne_eqb, le-ltb}
use Rattle.std.proofs.Common.{eqb, ltb}
use Rattle.mp4_mux.specs.Writing.{sample_cause, with_end}
use Rattle.mp4_mux.specs.Building.{room_cause}
use Rattle.std.specs.List.{sum_by}
use Rattle.mp4_mux.specs.TrackHeaders.{PlacedChunk, movie_duration}
use Rattle.mp4_mux.specs.Chunks.{is_full}
use Rattle.mp4_mux.proofs.ChunksLaws.{chunk_bytes-append, chunk_bytes-one, of_track-append, of_track-one}
use Rattle.mp4_mux.proofs.ChunksLaws.{of_track-other}
use Rattle.mp4_mux.proofs.ChunksLaws.{placed_from-append}
use Rattle.mp4_mux.specs.Writing.{with_sample, duration_with}
use Rattle.mp4_mux.specs.Building.{ticks}
use Rattle.mp4_mux.specs.Media.{media_with}
use Rattle.mp4_mux.proofs.SampleLaws.{sizes-infos, all-push}
use Rattle.mp4_mux.proofs.StateLaws.{IsOneMore, one_pending, one_chunk}

-- The beginning.

module _ (front : List ℕ) (config : Mp4Config) where
  abbrev file_type : List ℕ
  file_type = box_bytes ftyp (ftyp_payload (file_type_of config))

  front_at_start : take (length front) (bytes_at_start front config) ≡ front
  unfolding with_file_type
  front_at_start =
      ap (take (length front)) (append_assoc front file_type (mdat_header_of 8))
      ∙ take-exactly front (file_type ++ mdat_header_of 8) (length front) refl

  open_at_start : open_state (parts_at_start front config) ≡ started front config
  open_at_start = ap (λ (xs : List ℕ). started xs config) front_at_start

  -- a writer that begins holds what it was given
  pub state_at_start : state_of (parts_at_start front config) ≡ started front config
  unfolding state_of
  state_at_start = open_at_start

  front_within : length front ≤ length (with_file_type front config)
  unfolding with_file_type
  front_within = omega (arith, length-append front file_type)

  whole_at_start : bytes_at_start front config ≡ whole_of (started front config)
  unfolding whole_of
  whole_at_start = ap (λ (xs : List ℕ). with_file_type front config ++ xs) (sym (append-nil (mdat_header_of 8)))

  -- and what it keeps agrees with that
  pub writing_at_start : IsInRangeConfig config → start_cause config ≡ None → IsWriting (parts_at_start front config)
  writing_at_start in_range begun = record {
    room = omega (
      arith,
      length-append (with_file_type front config) (mdat_header_of 8),
      length-mdat_header_of 8,
    );
    within = front_within;
    place = ap (λ (xs : List ℕ). length (with_file_type xs config)) (sym front_at_start);
    whole = whole_at_start ∙ ap whole_of (sym state_at_start);
    in_range = in_range;
    begun = begun;
    sound = subst IsSound (sym open_at_start) (sound_started front config);
    chunks = tt;
    samples = λ t l. absurd (let q : t < 0 = l in omega (arith, q));
    places = λ t l. absurd (let q : t < 0 = l in omega (arith, q));
    clocks = λ t l. absurd (let q : t < 0 = l in omega (arith, q));
  }

-- A writer that goes on.

pub state-open : (p : Parts) → p.ended ≡ false → state_of p ≡ open_state p
unfolding state_of
state-open p e = ap (λ b. cond b (with_end (open_state p)) (open_state p)) e

-- what a movie was begun with
pub state-config : (p : Parts) → (state_of p).config ≡ p.config
unfolding state_of
state-config p =
    elim p.ended as (λ b. (cond b (with_end (open_state p)) (open_state p)).config ≡ p.config)
    [ true ↦ refl | false ↦ refl ]

-- a writer has ended where its end was written
pub state-ended : (p : Parts) → (state_of p).ended ≡ p.ended
unfolding state_of
state-ended p =
    elim p.ended as (λ b. (cond b (with_end (open_state p)) (open_state p)).ended ≡ b) [ true ↦ refl | false ↦ refl ]

module _ (p : Parts) (h : IsWriting p) (goes_on : p.ended ≡ false) where
  abbrev st : WriterState
  st = open_state p

  pub whole_now : p.media.buffer ≡ before_data st ++ (mdat_header_of 8 ++ chunk_bytes st.chunks)
  unfolding whole_of
  whole_now = h.whole ∙ ap whole_of (state-open p goes_on)

  -- how many bytes there are
  pub length_now : length p.media.buffer ≡ p.mdat + 16 + length (chunk_bytes st.chunks)
  length_now =
      omega (
        arith,
        ap length whole_now,
        h.place,
        length-append (before_data st) (mdat_header_of 8 ++ chunk_bytes st.chunks),
        length-append (mdat_header_of 8) (chunk_bytes st.chunks),
        length-mdat_header_of 8,
      )

  pub track-count : length st.tracks ≡ length p.media.tracks
  track-count = length-map p.media.tracks track_of

  -- a track as it is kept and as it is held
  pub track-read : (id : ℕ) → IsIdOf st id → track_at st id ≡ track_of (building_at p.media.tracks (id - 1))
  track-read id i =
      get_or-map track_of p.media.tracks (id - 1) no_building no_track
      (let a = i.first in let b = i.last in omega (arith, a, b, track-count))

-- One more track.

module _ (p : Parts) (h : IsWriting p) (goes_on : p.ended ≡ false) (config : TrackConfig)
    (e : track_cause (open_state p) config ≡ None) (fits : IsInRangeTrackConfig config) where
  abbrev old : WriterState
  old = open_state p

  abbrev fresh : Building
  fresh = new_building p.config.timescale config

  abbrev more_tracks : List Building
  more_tracks = p.media.tracks ++ fresh ∷ []

  -- what is kept with one more track
  abbrev pub parts_with_track : Parts
  parts_with_track = record p { media = record p.media { tracks = more_tracks } }

  same_chunks : map (chunk_in more_tracks p.media.buffer) p.media.written ≡ old.chunks
  same_chunks =
      ap (λ bs. map (chunk_in more_tracks bs) p.media.written) (sym (append-nil p.media.buffer))
      ∙ chunks-stay p.mdat p.media.tracks more_tracks (grown-push p.media.tracks fresh) p.media.buffer []
      p.media.written p.media.written p.media.written h.chunks

  open-track : open_state parts_with_track ≡ with_track old config
  open-track =
      ap₂ (λ (ts : List TrackState) (cs : List Chunk). record {
        front = take p.front p.media.buffer;
        config = p.config;
        tracks = ts;
        chunks = cs;
        ended = false;
      }) (map-append track_of p.media.tracks (fresh ∷ [])) same_chunks

  abbrev new : WriterState
  new = with_track old config

  pub state-track : state_of parts_with_track ≡ with_track (state_of p) config
  state-track =
      state-open parts_with_track goes_on ∙ open-track ∙ ap (λ (x : WriterState). with_track x config)
      (sym (state-open p goes_on))

  whole-track : p.media.buffer ≡ whole_of (state_of parts_with_track)
  unfolding whole_of
  whole-track =
      whole_now p h goes_on ∙ ap whole_of (sym open-track) ∙ ap whole_of (sym (state-open parts_with_track goes_on))

  count : length old.tracks ≡ length p.media.tracks
  count = length-map p.media.tracks track_of

  stays : (t : ℕ) → t < length p.media.tracks → building_at more_tracks t ≡ building_at p.media.tracks t
  stays t l = get_or_append_left p.media.tracks (fresh ∷ []) no_building t l

  last : building_at more_tracks (length p.media.tracks) ≡ fresh
  last = get_or_push p.media.tracks fresh no_building (length p.media.tracks) refl

  is_id : (t : ℕ) → t < length p.media.tracks → IsIdOf old (t + 1)
  is_id t l = record { first = omega arith; last = omega (arith, count, l) }

  -- no chunk is of the new track
  none_placed : (place : ℕ) (cs : List Chunk) → AllByRecursion (IsKnownChunk old) cs
      → of_track (length p.media.tracks + 1) (placed_from place cs) ≡ []
  unfolding of_track placed_from
  none_placed place [] a = refl
  none_placed place (c ∷ cs) a =
      let known = a.0.track.last in
      let n : c.track_id ≢ length p.media.tracks + 1 = λ same. absurd (omega (arith, same, known, count)) in
      let next = place + length (sample_bytes c.samples) in
      let rest = of_track (length p.media.tracks + 1) (placed_from next cs) in
      other_id c.track_id (length p.media.tracks + 1)
      (record { track_id = c.track_id; count = length c.samples; offset = place } ∷ rest) rest n
      ∙ none_placed next cs a.1

  by_track : (P : ℕ → Building → Type 0) → ((t : ℕ) → t < length p.media.tracks → P t (building_at p.media.tracks t))
      → P (length p.media.tracks) fresh → (t : ℕ) → t < length more_tracks → P t (building_at more_tracks t)
  by_track P before after t l = ⊎_elim
      (λ (m : t < length p.media.tracks). subst (P t) (sym (stays t m)) (before t m))
      (λ (m : length p.media.tracks ≤ t).
      let is : length p.media.tracks ≡ t = omega (arith, m, l, length_push p.media.tracks fresh) in
      subst (λ u. P u (building_at more_tracks u)) is (subst (P (length p.media.tracks)) (sym last) after))
      (cases_lt t (length p.media.tracks))

  none_accepted : accepted_of new (length p.media.tracks + 1) ≡ []
  none_accepted = ap (λ n. accepted_of new (n + 1)) (sym count) ∙ accepted-new old config h.sound e fits

  still_chunks : AllByRecursion (IsChunkAt p.mdat parts_with_track.media) p.media.written
  still_chunks =
      subst (λ (bs : List ℕ). AllByRecursion (IsChunkAt p.mdat (record parts_with_track.media { buffer = bs }))
      p.media.written) (append-nil p.media.buffer)
      (are_chunks-stay p.mdat p.media.tracks more_tracks (grown-push p.media.tracks fresh) p.media.buffer []
      p.media.written p.media.written p.media.written h.chunks)

  pub writing-track : IsWriting parts_with_track
  writing-track = record {
    room = h.room;
    within = h.within;
    place = h.place;
    whole = whole-track;
    in_range = h.in_range;
    begun = h.begun;
    sound = subst IsSound (sym open-track) (sound_track old config h.sound e fits);
    chunks = still_chunks;
    samples = by_track (λ t b. b.samples ≡ map info_of (accepted_of (open_state parts_with_track) (t + 1)))
        (λ t l. h.samples t l ∙ ap (map info_of) (sym (accepted-stays old config h.sound e fits (t + 1) (is_id t l)))
        ∙ ap (λ (x : WriterState). map info_of (accepted_of x (t + 1))) (sym open-track))
        (ap (map info_of) (sym none_accepted)
        ∙ ap (λ (x : WriterState). map info_of (accepted_of x (length p.media.tracks + 1))) (sym open-track));
    places = by_track (λ t b. of_track (t + 1) (placed_from (p.mdat + 16) (open_state parts_with_track).chunks)
        ≡ map (placed_of (t + 1)) b.chunks)
        (λ t l. ap (λ (cs : List Chunk). of_track (t + 1) (placed_from (p.mdat + 16) cs)) same_chunks ∙ h.places t l)
        (ap (λ (cs : List Chunk). of_track (length p.media.tracks + 1) (placed_from (p.mdat + 16) cs)) same_chunks
        ∙ none_placed (p.mdat + 16) old.chunks h.sound.known);
    clocks = by_track (λ t b. b.movie_timescale ≡ p.config.timescale) h.clocks refl;
  }

-- One more sample.

-- what the tables say of the last samples is what they say last
last_infos : (is : List SampleInfo) (before pending : List Sample) → is ≡ map info_of (before ++ pending)
    → (length pending ≤ length is) × (drop (length is - length pending) is ≡ map info_of pending)
last_infos is before pending e =
    let n : length is ≡ length before + length pending =
    omega (arith, ap length e, length-map (before ++ pending) info_of, length-append before pending) in (
      omega (arith, n),
      ap (drop (length is - length pending)) (e ∙ map-append info_of before pending)
          ∙ drop_at (map info_of before) (map info_of pending) (length is - length pending)
          (omega (arith, n, length-map before info_of)),
    )

module _ (p : Parts) (h : IsWriting p) (goes_on : p.ended ≡ false) (id : ℕ) (i : IsIdOf (open_state p) id)
    (s : Sample) where
  abbrev was : WriterState
  was = open_state p

  abbrev t : ℕ
  t = id - 1

  abbrev kept : Building
  kept = building_at p.media.tracks t

  abbrev pub with_one : Building
  with_one = pushed kept s

  here : t + 1 ≡ id
  here = let a = i.first in omega (arith, a)

  pub is_track : t < length p.media.tracks
  is_track = let a = i.first in let b = i.last in omega (arith, a, b, track-count p h goes_on)

  read : track_at was id ≡ track_of kept
  read = track-read p h goes_on id i

  -- what is pending with the sample
  pending-is : with_one.pending ≡ (track_at was id).pending ++ s ∷ []
  pending-is = ap (λ (x : TrackState). x.pending ++ s ∷ []) (sym read)

  infos-are : with_one.samples ≡ map info_of (samples_of id was.chunks ++ with_one.pending)
  infos-are =
      ap (λ (is : List SampleInfo). is ++ info_of s ∷ []) (h.samples t is_track)
      ∙ ap (λ v. map info_of (accepted_of was v) ++ info_of s ∷ []) here
      ∙ sym (map-append info_of (accepted_of was id) (s ∷ []))
      ∙ ap (map info_of) (append_assoc (samples_of id was.chunks) (track_at was id).pending (s ∷ []))
      ∙ ap (λ (ss : List Sample). map info_of (samples_of id was.chunks ++ ss)) (sym pending-is)

  pub ends : (length with_one.pending ≤ length with_one.samples)
      × (drop (length with_one.samples - length with_one.pending) with_one.samples ≡ map info_of with_one.pending)
  ends = last_infos with_one.samples (samples_of id was.chunks) with_one.pending infos-are

  -- tracks in which this one has another pending list, as they are held
  tracks-set : (b : Building) (ss : List Sample) → b.config ≡ kept.config → b.pending ≡ ss
      → map track_of (set p.media.tracks t b) ≡ set was.tracks t (record (track_at was id) { pending = ss })
  tracks-set b ss same e =
      map-set track_of p.media.tracks t b
      ∙ ap (set was.tracks t) (ap₂ (λ (c : TrackConfig) (xs : List Sample). record { config = c; pending = xs })
      (same ∙ ap (λ (x : TrackState). x.config) (sym read)) e)

  grown : (b : Building) (cs : List ChunkPlace) → b.samples ≡ kept.samples ++ info_of s ∷ []
      → b.chunks ≡ kept.chunks ++ cs → HaveGrown p.media.tracks (set p.media.tracks t b)
  grown b cs = grown-set p.media.tracks t b (info_of s ∷ []) cs is_track

  abbrev one_set : List Building
  one_set = set p.media.tracks t with_one

  abbrev pub parts_pending : Parts
  parts_pending = record p { media = record p.media { tracks = one_set } }

  grown-pending : HaveGrown p.media.tracks one_set
  grown-pending = grown with_one [] refl (sym (append-nil kept.chunks))

  same-chunks : map (chunk_in one_set p.media.buffer) p.media.written ≡ was.chunks
  same-chunks =
      ap (λ bs. map (chunk_in one_set bs) p.media.written) (sym (append-nil p.media.buffer))
      ∙ chunks-stay p.mdat p.media.tracks one_set grown-pending p.media.buffer [] p.media.written p.media.written
      p.media.written h.chunks

  pub open-pending : open_state parts_pending ≡ with_pending was id ((track_at was id).pending ++ s ∷ [])
  open-pending =
      ap₂ (λ (ts : List TrackState) (cs : List Chunk). record {
        front = take p.front p.media.buffer;
        config = p.config;
        tracks = ts;
        chunks = cs;
        ended = false;
      }) (tracks-set with_one ((track_at was id).pending ++ s ∷ []) refl pending-is) same-chunks

  abbrev one_closed : Building
  one_closed = closed with_one (length p.media.buffer)

  abbrev closed_set : List Building
  closed_set = set p.media.tracks t one_closed

  abbrev bytes : List ℕ
  bytes = sample_bytes with_one.pending

  abbrev noted : ChunkRef
  noted = record { track = t; index = length kept.chunks }

  abbrev pub parts_chunk : Parts
  parts_chunk = record p { media = media_with_chunk p.media t with_one }

  grown-chunk : HaveGrown p.media.tracks closed_set
  grown-chunk = grown one_closed (pending_place with_one (length p.media.buffer) ∷ []) refl refl

  closed-read : building_at closed_set t ≡ one_closed
  closed-read = get_or-set_same p.media.tracks t one_closed no_building is_track

  noted-place : place_in closed_set noted ≡ pending_place with_one (length p.media.buffer)
  noted-place =
      ap (λ (b : Building). get_or b.chunks (length kept.chunks) no_place) closed-read
      ∙ get_or_push kept.chunks (pending_place with_one (length p.media.buffer)) no_place (length kept.chunks) refl

  noted-infos : infos_in closed_set noted ≡ map info_of with_one.pending
  noted-infos =
      ap₂ (λ (q : ChunkPlace) (b : Building). take q.count (drop q.first b.samples)) noted-place closed-read
      ∙ ap (take (length with_one.pending)) ends.1
      ∙ take_all (length with_one.pending) (map info_of with_one.pending)
      (omega (arith, length-map with_one.pending info_of))

  -- the chunk that is noted is read again
  noted-chunk : chunk_in closed_set (p.media.buffer ++ bytes) noted
      ≡ record { track_id = id; samples = (track_at was id).pending ++ s ∷ [] }
  noted-chunk =
      ap₂ (λ (q : ChunkPlace) (is : List SampleInfo). record {
        track_id = t + 1;
        samples = samples_in is (drop q.offset (p.media.buffer ++ bytes));
      }) noted-place noted-infos
      ∙ ap (λ (bs : List ℕ). record { track_id = t + 1; samples = samples_in (map info_of with_one.pending) bs })
      (drop_at p.media.buffer bytes (length p.media.buffer) refl ∙ sym (append-nil bytes))
      ∙ ap₂ (λ (n : ℕ) (ss : List Sample). record { track_id = n; samples = ss }) here
      (samples_again with_one.pending [] ∙ pending-is)

  old-chunks : map (chunk_in closed_set (p.media.buffer ++ bytes)) p.media.written ≡ was.chunks
  old-chunks =
      chunks-stay p.mdat p.media.tracks closed_set grown-chunk p.media.buffer bytes p.media.written p.media.written
      p.media.written h.chunks

  pub open-chunk : open_state parts_chunk ≡ with_chunk was id ((track_at was id).pending ++ s ∷ [])
  open-chunk =
      let front : take p.front (p.media.buffer ++ bytes) ≡ take p.front p.media.buffer =
      take-append-le p.front p.media.buffer bytes (let a = h.within in let b = h.room in omega (arith, a, b)) in
      let chunks : map (chunk_in closed_set (p.media.buffer ++ bytes)) (p.media.written ++ noted ∷ [])
      ≡ was.chunks ++ record { track_id = id; samples = (track_at was id).pending ++ s ∷ [] } ∷ [] =
      map-append (chunk_in closed_set (p.media.buffer ++ bytes)) p.media.written (noted ∷ [])
      ∙ ap₂ (λ (xs : List Chunk) (x : Chunk). xs ++ x ∷ []) old-chunks noted-chunk in
      ap (λ (f : List ℕ). record {
        front = f;
        config = p.config;
        tracks = map track_of closed_set;
        chunks = map (chunk_in closed_set (p.media.buffer ++ bytes)) (p.media.written ++ noted ∷ []);
        ended = false;
      }) front
      ∙ ap₂ (λ (ts : List TrackState) (cs : List Chunk). record {
        front = take p.front p.media.buffer;
        config = p.config;
        tracks = ts;
        chunks = cs;
        ended = false;
      }) (tracks-set one_closed [] refl refl) chunks

  -- what holds of each track but this one, and of this one as it is now
  by_set : (b : Building) (P : ℕ → Building → Type 0)
      → ((u : ℕ) → u < length p.media.tracks → u ≢ t → P u (building_at p.media.tracks u)) → P t b
      → (u : ℕ) → u < length (set p.media.tracks t b) → P u (building_at (set p.media.tracks t b) u)
  by_set b P others this u l =
      let l' : u < length p.media.tracks = omega (arith, l, length-set p.media.tracks t b) in
      ⊎_elim
      (λ (e : u ≡ t). subst (λ v. P v (building_at (set p.media.tracks t b) v)) (sym e)
      (subst (P t) (sym (get_or-set_same p.media.tracks t b no_building is_track)) this))
      (λ (n : u ≢ t). subst (P u) (sym (get_or-set_other p.media.tracks t u b no_building n)) (others u l' n))
      (cases_eq u t)

  other : (u : ℕ) → u ≢ t → u + 1 ≢ id
  other u n e = n (let a = i.first in omega (arith, e, a))

  -- the tables of each track, where one more sample is accepted
  samples-then : (b : Building) (after : WriterState) → b.samples ≡ kept.samples ++ info_of s ∷ []
      → IsOneMore was after id s → (u : ℕ) → u < length (set p.media.tracks t b)
      → (building_at (set p.media.tracks t b) u).samples ≡ map info_of (accepted_of after (u + 1))
  samples-then b after e m =
      by_set b (λ u x. x.samples ≡ map info_of (accepted_of after (u + 1)))
      (λ u l n. h.samples u l ∙ ap (map info_of) (sym (m.others (u + 1) (omega arith) (other u n))))
      (e ∙ ap (λ (is : List SampleInfo). is ++ info_of s ∷ [])
      (h.samples t is_track ∙ ap (λ v. map info_of (accepted_of was v)) here)
      ∙ sym (map-append info_of (accepted_of was id) (s ∷ []))
      ∙ ap (map info_of) (sym m.same)
      ∙ ap (λ v. map info_of (accepted_of after v)) (sym here))

  clocks-then : (b : Building) → b.movie_timescale ≡ kept.movie_timescale → (u : ℕ)
      → u < length (set p.media.tracks t b)
      → (building_at (set p.media.tracks t b) u).movie_timescale ≡ p.config.timescale
  clocks-then b e =
      by_set b (λ u x. x.movie_timescale ≡ p.config.timescale) (λ u l n. h.clocks u l) (e ∙ h.clocks t is_track)

  abbrev more : List Sample
  more = (track_at was id).pending ++ s ∷ []

  still_pending : AllByRecursion (IsChunkAt p.mdat parts_pending.media) p.media.written
  still_pending =
      subst (λ (bs : List ℕ). AllByRecursion (IsChunkAt p.mdat (record parts_pending.media { buffer = bs }))
      p.media.written) (append-nil p.media.buffer)
      (are_chunks-stay p.mdat p.media.tracks one_set grown-pending p.media.buffer [] p.media.written p.media.written
      p.media.written h.chunks)

  whole-pending : p.media.buffer ≡ whole_of (state_of parts_pending)
  unfolding whole_of
  whole-pending =
      whole_now p h goes_on ∙ ap whole_of (sym open-pending) ∙ ap whole_of (sym (state-open parts_pending goes_on))

  pub writing-pending : IsSound (with_pending was id more) → IsWriting parts_pending
  writing-pending sound = record {
    room = h.room;
    within = h.within;
    place = h.place;
    whole = whole-pending;
    in_range = h.in_range;
    begun = h.begun;
    sound = subst IsSound (sym open-pending) sound;
    chunks = still_pending;
    samples = λ u l. samples-then with_one (with_pending was id more) refl (one_pending was id i s) u l
        ∙ ap (λ (x : WriterState). map info_of (accepted_of x (u + 1))) (sym open-pending);
    places = by_set with_one (λ u b. of_track (u + 1) (placed_from (p.mdat + 16) (open_state parts_pending).chunks)
        ≡ map (placed_of (u + 1)) b.chunks)
        (λ u l n. ap (λ (cs : List Chunk). of_track (u + 1) (placed_from (p.mdat + 16) cs)) same-chunks ∙ h.places u l)
        (ap (λ (cs : List Chunk). of_track (t + 1) (placed_from (p.mdat + 16) cs)) same-chunks ∙ h.places t is_track);
    clocks = clocks-then with_one refl;
  }

  abbrev chunk : Chunk
  chunk = record { track_id = id; samples = more }

  whole-chunk : p.media.buffer ++ bytes ≡ whole_of (state_of parts_chunk)
  unfolding whole_of
  whole-chunk =
      let front = before_data was in
      ap₂ (λ (xs ys : List ℕ). xs ++ ys) (whole_now p h goes_on) (ap sample_bytes pending-is)
      ∙ append_assoc front (mdat_header_of 8 ++ chunk_bytes was.chunks) (sample_bytes more)
      ∙ ap (λ (xs : List ℕ). front ++ xs)
      (append_assoc (mdat_header_of 8) (chunk_bytes was.chunks) (sample_bytes more)
      ∙ ap (λ (xs : List ℕ). mdat_header_of 8 ++ xs)
      (sym (chunk_bytes-append was.chunks (chunk ∷ []) ∙ ap (λ (xs : List ℕ). chunk_bytes was.chunks ++ xs)
      (chunk_bytes-one chunk))))
      ∙ ap whole_of (sym open-chunk)
      ∙ ap whole_of (sym (state-open parts_chunk goes_on))

  -- where the new chunk lies
  abbrev placed : PlacedChunk
  placed = record { track_id = id; count = length more; offset = length p.media.buffer }

  placed-then : placed_from (p.mdat + 16) (open_state parts_chunk).chunks
      ≡ placed_from (p.mdat + 16) was.chunks ++ placed ∷ []
  unfolding placed_from
  placed-then =
      ap (λ (x : WriterState). placed_from (p.mdat + 16) x.chunks) open-chunk
      ∙ placed_from-append (p.mdat + 16) was.chunks (chunk ∷ [])
      ∙ ap (λ n. placed_from (p.mdat + 16) was.chunks ++ record { track_id = id; count = length more; offset = n } ∷ [])
      (sym (length_now p h goes_on))

  places-other : (u : ℕ) → u < length p.media.tracks → u ≢ t
      → of_track (u + 1) (placed_from (p.mdat + 16) (open_state parts_chunk).chunks)
      ≡ map (placed_of (u + 1)) (building_at p.media.tracks u).chunks
  places-other u l n =
      ap (of_track (u + 1)) placed-then
      ∙ of_track-append (u + 1) (placed_from (p.mdat + 16) was.chunks) (placed ∷ [])
      ∙ ap (λ (xs : List PlacedChunk). of_track (u + 1) (placed_from (p.mdat + 16) was.chunks) ++ xs)
      (of_track-other id (u + 1) (length more) (length p.media.buffer) (λ e. other u n (sym e)))
      ∙ append-nil (of_track (u + 1) (placed_from (p.mdat + 16) was.chunks))
      ∙ h.places u l

  places-this : of_track (t + 1) (placed_from (p.mdat + 16) (open_state parts_chunk).chunks)
      ≡ map (placed_of (t + 1)) one_closed.chunks
  places-this =
      ap (of_track (t + 1)) placed-then
      ∙ of_track-append (t + 1) (placed_from (p.mdat + 16) was.chunks) (placed ∷ [])
      ∙ ap₂ (λ (xs ys : List PlacedChunk). xs ++ ys) (h.places t is_track)
      (ap (λ v. of_track v (placed ∷ [])) here ∙ of_track-one id (length more) (length p.media.buffer)
      ∙ ap₂ (λ (v n : ℕ). record { track_id = v; count = n; offset = length p.media.buffer } ∷ []) (sym here)
      (ap length (sym pending-is)))
      ∙ sym (map-append (placed_of (t + 1)) kept.chunks (pending_place with_one (length p.media.buffer) ∷ []))

  noted-is : IsChunkAt p.mdat parts_chunk.media noted
  noted-is = record {
    track = omega (arith, length-set p.media.tracks t one_closed, is_track);
    index = omega (
      arith,
      ap (λ (b : Building). length b.chunks) closed-read,
      length_push kept.chunks (pending_place with_one (length p.media.buffer)),
    );
    samples = omega (
      arith,
      ap (λ (q : ChunkPlace). q.first + q.count) noted-place,
      ap (λ (b : Building). length b.samples) closed-read,
      ends.0,
    );
    start = omega (arith, ap (λ (q : ChunkPlace). q.offset) noted-place, h.room);
    bytes = omega (
      arith,
      ap (λ (q : ChunkPlace). q.offset) noted-place,
      ap (sum_by (λ (x : SampleInfo). x.size)) noted-infos,
      sizes-infos with_one.pending,
      length-append p.media.buffer bytes,
    );
  }

  pub writing-chunk : IsSound (with_chunk was id more) → IsWriting parts_chunk
  writing-chunk sound = record {
    room = omega (arith, h.room, length-append p.media.buffer bytes);
    within = h.within;
    place = h.place ∙ ap (λ (x : WriterState). length (before_data x)) (sym open-chunk);
    whole = whole-chunk;
    in_range = h.in_range;
    begun = h.begun;
    sound = subst IsSound (sym open-chunk) sound;
    chunks = all-push (IsChunkAt p.mdat parts_chunk.media) p.media.written noted
        (are_chunks-stay p.mdat p.media.tracks closed_set grown-chunk p.media.buffer bytes p.media.written
        parts_chunk.media.written p.media.written h.chunks)
        noted-is;
    samples = λ u l. samples-then one_closed (with_chunk was id more) refl (one_chunk was id i s) u l
        ∙ ap (λ (x : WriterState). map info_of (accepted_of x (u + 1))) (sym open-chunk);
    places = by_set one_closed (λ u b. of_track (u + 1) (placed_from (p.mdat + 16) (open_state parts_chunk).chunks)
        ≡ map (placed_of (u + 1)) b.chunks) places-other places-this;
    clocks = clocks-then one_closed refl;
  }

  -- what is kept with one more sample
  abbrev pub parts_with_sample : Parts
  parts_with_sample = record p { media = media_with p.media t s }

  abbrev fullness : Bool
  fullness = is_full with_one.config.timescale with_one.pending

  same_fullness : fullness ≡ is_full (track_at was id).config.timescale more
  same_fullness =
      ap₂ (λ (c : TrackConfig) (ss : List Sample). is_full c.timescale ss)
      (ap (λ (x : TrackState). x.config) (sym read)) pending-is

  abbrev chosen : Bool → Parts
  chosen b = record p { media = cond b (media_with_chunk p.media t with_one) (record p.media { tracks = one_set }) }

  open-chosen : (b : Bool) → open_state (chosen b) ≡ cond b (with_chunk was id more) (with_pending was id more)
  open-chosen true = open-chunk
  open-chosen false = open-pending

  open-sample : open_state parts_with_sample ≡ with_sample was id s
  unfolding media_with with_sample
  open-sample = open-chosen fullness
      ∙ ap (λ b. cond b (with_chunk was id more) (with_pending was id more)) same_fullness

  writing-chosen : (b : Bool) → IsSound (cond b (with_chunk was id more) (with_pending was id more))
      → IsWriting (chosen b)
  writing-chosen true sound = writing-chunk sound
  writing-chosen false sound = writing-pending sound

  pub writing-sample : IsSound (with_sample was id s) → IsWriting parts_with_sample
  unfolding media_with with_sample
  writing-sample sound =
      writing-chosen fullness
      (subst (λ b. IsSound (cond b (with_chunk was id more) (with_pending was id more))) (sym same_fullness) sound)

  ended-same : parts_with_sample.ended ≡ false
  ended-same = goes_on

  pub state-sample : state_of parts_with_sample ≡ with_sample (state_of p) id s
  state-sample =
      state-open parts_with_sample ended-same ∙ open-sample ∙ ap (λ (x : WriterState). with_sample x id s)
      (sym (state-open p goes_on))

  -- how long the track is with the sample, as it is kept and as it is held
  pub ticks-same : ticks kept s.duration ≡ duration_with was id s
  ticks-same =
      ap₂ (λ (m : ℕ) (c : TrackConfig). movie_duration m c.timescale kept.samples + s.duration * m / c.timescale)
      (h.clocks t is_track) (ap (λ (x : TrackState). x.config) (sym read))
      ∙ ap (λ (is : List SampleInfo). movie_duration p.config.timescale (track_at was id).config.timescale is
      + s.duration * p.config.timescale / (track_at was id).config.timescale)
      (h.samples t is_track ∙ ap (λ v. map info_of (accepted_of was v)) here)

  pub count-same : length kept.samples ≡ length (accepted_of was id)
  count-same =
      ap length (h.samples t is_track ∙ ap (λ v. map info_of (accepted_of was v)) here)
      ∙ length-map (accepted_of was id) info_of

  -- why the track has no room, as it is kept and as it is held
  pub cause-same : sample_cause was id s ≡ room_cause kept s
  unfolding sample_cause room_cause
  cause-same =
      let first = i.first in
      let last = i.last in
      let zero : eqb id 0 ≡ false = ne_eqb id 0 (λ z. absurd (omega (arith, z, first))) in
      let within : ltb (length was.tracks) id ≡ false = le-ltb (length was.tracks) id last in
      rw (zero, within, ← count-same, ← ticks-same) refl
