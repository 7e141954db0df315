-- What is read of an opened movie that was written: exactly what the calls of its writer have accepted. And what is
-- found in a track that no fragment names.
use Rattle.std.proofs.Common.{◌≡◌, inl, inr, ⊎_elim, ℕ, zero, suc, ◌+◌, ◌-◌, ◌^◌, ◌<◌, ◌≤◌, Bool, true, false, cond}
use Rattle.std.proofs.Common.{eqb}
use Rattle.std.proofs.Common.{List, [], ◌∷◌, length, get_or, slice_get, Option, Some, None, Result, Ok, Err}
use Rattle.std.proofs.Common.{pos, refl, sym, ap, subst, ◌∙◌, arith}
use Rattle.std.specs.Prelude.{option_map, IsSomeAnd, ok_or}
use Rattle.std.specs.HashMap.{HashMap}
use Rattle.std.proofs.lemmas.Bool.{eqb-true, eq-eqb, ne_eqb, le-ltb, cases_lt}
use Rattle.std.proofs.lemmas.Option.{none-some, same_Some, slice_get-get_or, slice_get_past, slice_get_within}
use Rattle.mp4_codec.specs.declared.error.Error.{Error}
use Rattle.mp4_codec.specs.declared.error.Error.TheVariants.{OutOfMemory}
use Rattle.mp4_codec.specs.Cause.{Cause, invalid_data, Answers, ◌>>=◌}
use Rattle.mp4_codec.specs.Cursor.{here}
use Rattle.mp4_codec.specs.Steps.{ok_is}
use Rattle.mp4_boxes.specs.declared.stbl.StblBox.{StblBox}
use Rattle.mp4_boxes.specs.declared.trak.TrakBox.{TrakBox}
use Rattle.mp4_moof.specs.declared.traf.TrafBox.{TrafBox}
use Rattle.mp4_boxes.specs.declared.moov.MoovBox.{MoovBox}
use Rattle.mp4_moof.specs.declared.moof.MoofBox.{MoofBox}
use Rattle.mp4_boxes.specs.Stbl.{sample_count}
use Rattle.mp4_fragments.specs.Fragments.{placed_runs}
use Rattle.mp4_fragments.specs.RunSamples.{PlacedRun}
use Rattle.mp4_lookup.specs.declared.track.Mp4Track.{Mp4Track}
use Rattle.mp4_lookup.specs.Kind.{media_type_of}
use Rattle.mp4_samples.specs.declared.sample.Place.{Place}
use Rattle.mp4_samples.specs.Plain.{Consistent, plain_at}
use Rattle.mp4_lookup.specs.Rates.{sample_count_of}
use Rattle.mp4_lookup.specs.Rule.{usable, entry_for, located_at, rule}
use Rattle.mp4_samples.specs.Samples.{Sample, TimedSample, timed_from, timed, read_in, plain_sample_at}
use Rattle.mp4_lookup.specs.Tracks.{sample_at, answer_at}
use Rattle.mp4_samples.specs.Tables.{tables_of}
use Rattle.mp4_lookup.proofs.TrackLaws.{sample_is_plain, unfragmented_is_of_movie}
use Rattle.mp4_lookup.specs.TrackRuns.{track_runs}
use Rattle.mp4_mux.specs.FinishedTrack.{trak_for}
use Rattle.mp4_mux.specs.Writing.{WriterState, AcceptedTrack, accepted, file_type_of, movie_of, whole_of}
use Rattle.mp4_mux.specs.Calls.{none_accepted, Session, IsEnded, writer_of, accepted_by}
use Rattle.mp4_mux.proofs.SessionLaws.{session_accepts, session_keeps}
use Rattle.mp4_mux.proofs.EndedSessionLaws.{session_written}
use Rattle.mp4_mux.proofs.DescribesLaws.{length-timed_from}
use Rattle.mp4_mux.proofs.ReadBackLaws.{finds_each, none_past}
use Rattle.mp4_mux.specs.Written.{Describes, Finds, IsWrittenTrack, IsWrittenMovie}
use Rattle.mp4_media.specs.declared.reader.Mp4Reader.{Mp4Reader}
use Rattle.mp4_media.specs.FileBoxes.{later, OpenedFile, opened_file}
use Rattle.mp4_media.specs.FileGrammar.{IsFile}
use Rattle.mp4_media.specs.Finished.{Opens}
use Rattle.mp4_media.specs.MovieTracks.{trak_with_id, trafs_in, trafs_of, with_fragments, opened_track, track_at, at_id}
use Rattle.mp4_media.specs.MovieTracks.{AreTracks}
use Rattle.mp4_media.specs.Reading.{track_or, sample_in, sample_count_in}
use Rattle.mp4_media.specs.RoundTrip.{sample_number, accepted_with_id, accepted_sample, IsDescribed, HasExactly}
use Rattle.mp4_media.specs.Opening.{IsOpening}
use Rattle.mp4_media.specs.RoundTrip.{OpensAs, IsPlainTrack}
use Rattle.mp4_media.proofs.Gathering.{with_first}

-- The box of a track by its id.

-- it has this id
id_of : (id : ℕ) (traks : List TrakBox) (trak : TrakBox) → trak_with_id traks id ≡ Some trak
    → trak.tkhd.track_id ≡ id
id_of id [] trak e = absurd cc
id_of id (t ∷ ts) trak e =
    by (id_of id ts trak) (trak_with_id ts id) (eqb t.tkhd.track_id id) refl refl (sym (with_first t ts id) ∙ e)
  where
    by : (trak_with_id ts id ≡ Some trak → trak.tkhd.track_id ≡ id) → (o : Option TrakBox) (b : Bool)
        → trak_with_id ts id ≡ o → eqb t.tkhd.track_id id ≡ b → later o (cond b (Some t) None) ≡ Some trak
        → trak.tkhd.track_id ≡ id
    by rest (Some x) b is this f = rest (is ∙ f)
    by rest None true is this f =
        ap (λ (x : TrakBox). x.tkhd.track_id) (sym (same_Some t trak f)) ∙ eqb-true t.tkhd.track_id id this
    by rest None false is this f = absurd cc

-- the ids of these tracks count up from a number on
abbrev CountUp : ℕ → List TrakBox → Type 0
CountUp start traks = (k : ℕ) (t : TrakBox) → slice_get traks k ≡ Some t → t.tkhd.track_id ≡ start + k

count_on : (start : ℕ) (t : TrakBox) (ts : List TrakBox) → CountUp start (t ∷ ts) → CountUp (start + 1) ts
count_on start t ts h k u e = let next = h (suc k) u e in omega (arith, next)

-- none has an id below it
none_below : (start id : ℕ) (traks : List TrakBox) → CountUp start traks → id < start → trak_with_id traks id ≡ None
none_below start id [] h l = refl
none_below start id (t ∷ ts) h l =
    let first = h 0 t refl in
    with_first t ts id
    ∙ rw (
      none_below (start + 1) id ts (count_on start t ts h) (omega (arith, l)),
      ne_eqb t.tkhd.track_id id (λ e. omega (arith, e, first, l)),
    ) refl

-- and each is found at its place
found_at_place : (start k : ℕ) (traks : List TrakBox) → CountUp start traks
    → trak_with_id traks (start + k) ≡ slice_get traks k
found_at_place start k [] h = sym (slice_get_past [] k (omega arith))
found_at_place start zero (t ∷ ts) h =
    with_first t ts (start + 0)
    ∙ rw (
      none_below (start + 1) (start + 0) ts (count_on start t ts h) (omega arith),
      eq-eqb t.tkhd.track_id (start + 0) (h 0 t refl),
    ) refl
found_at_place start (suc k) (t ∷ ts) h =
    let first = h 0 t refl in
    let next : (start + 1) + k ≡ start + suc k = omega arith in
    with_first t ts (start + suc k)
    ∙ rw (ne_eqb t.tkhd.track_id (start + suc k) (λ e. omega (arith, e, first)))
    (alone (trak_with_id ts (start + suc k)))
    ∙ ap (trak_with_id ts) (sym next)
    ∙ found_at_place (start + 1) k ts (count_on start t ts h)
  where
    alone : (o : Option TrakBox) → later o None ≡ o
    alone (Some x) = refl
    alone None = refl

-- The tracks of an opened movie, by their boxes.
module _ {S : Type 0} (moov : MoovBox) (moofs : List MoofBox) (places : List ℕ) (tracks : HashMap ℕ Mp4Track S)
    (are : AreTracks moov moofs places tracks) (id : ℕ) where
  -- where no box has the id, there is no track
  unknown : trak_with_id moov.traks id ≡ None → at_id tracks id ≡ None
  unfolding track_at
  unknown e = by (at_id tracks id) (are id ∙ ap (option_map (with_fragments moov moofs places)) e)
    where
      by : (o : Option Mp4Track) → option_map opened_track o ≡ None → o ≡ None
      by (Some t) f = absurd cc
      by None f = refl

  -- a track with this box and these fragments
  record IsTrackOf (trak : TrakBox) : Type 0 where
    track : Mp4Track
    is_there : at_id tracks id ≡ Some track
    box : track.trak ≡ trak
    trafs : track.trafs ≡ trafs_of (trafs_in moofs) trak.tkhd.track_id
    runs : track_runs track ≡ (with_fragments moov moofs places trak).runs

  known : (trak : TrakBox) → trak_with_id moov.traks id ≡ Some trak → IsTrackOf trak
  unfolding track_at
  known trak e = by (at_id tracks id) refl (are id ∙ ap (option_map (with_fragments moov moofs places)) e)
    where
      by : (o : Option Mp4Track) → at_id tracks id ≡ o
          → option_map opened_track o ≡ Some (with_fragments moov moofs places trak) → IsTrackOf trak
      by (Some t) is f =
          let same = same_Some (opened_track t) (with_fragments moov moofs places trak) f in
          record {
            track = t;
            is_there = is;
            box = ap (λ o. o.trak) same;
            trafs = ap (λ o. o.trafs) same;
            runs = ap (λ o. o.runs) same;
          }
      by None is f = absurd cc

-- What is read at a number of a track.

-- where no entry says how many samples a chunk has, there are no numbers
no_entry : (k : ℕ) → entry_for [] k ≡ Err invalid_data
unfolding entry_for
no_entry k = elim (eqb k 0) as (λ b. cond b (Err invalid_data) (usable None) ≡ Err invalid_data) [
  | true ↦ refl
  | false ↦ refl
]

no_numbers : (file : List ℕ) (trak : TrakBox) (trafs : List TrafBox) (runs : List PlacedRun) (k : ℕ)
    → length trafs ≡ 0 → (tables_of trak).stsc.entries ≡ [] → sample_at file trak trafs runs k ≡ Err invalid_data
unfolding sample_at answer_at rule located_at
no_numbers file trak trafs runs k whole none = rw (eq-eqb (length trafs) 0 whole, none, no_entry k) refl

-- a sample that is found is read
found_is_read : (file : List ℕ) (answer : Result (Option Place) Cause) (s : TimedSample) → Finds file answer s
    → (answer >>= read_in file) ≡ Ok (Some s)
found_is_read file answer s f =
    rw (f.answered, le-ltb (length file) (f.place.offset + f.place.size) f.within) (ap (λ x. Ok (Some x)) f.sample)

abbrev ok_sample : Option TimedSample → Result (Option TimedSample) Cause
ok_sample o = Ok o

module _ (st : WriterState) (id : ℕ) (a : AcceptedTrack) (trak : TrakBox) (w : IsWrittenTrack st id a trak)
    (fits : length (whole_of st) < 2 ^ 64) where
  abbrev tables : StblBox
  tables = tables_of trak

  no_sample : TimedSample
  no_sample =
      record { start_time = 0; sample = record { bytes = []; duration = 0; rendering_offset = pos 0; is_sync = true } }

  -- the plain numbers of a track with samples
  module _ (s : Sample) (ss : List Sample) (e : a.samples ≡ s ∷ ss) where
    abbrev all : List TimedSample
    all = timed (s ∷ ss)

    described : Describes (whole_of st) tables (s ∷ ss)
    described = subst (Describes (whole_of st) tables) e (w.described (omega (arith, ap length e)))

    within : (m : ℕ) → m < length (s ∷ ss) → plain_sample_at (whole_of st) tables (suc m) ≡ Ok (slice_get all m)
    unfolding plain_sample_at
    within m l =
        let x = get_or all m no_sample in
        let at : slice_get all m ≡ Some x =
        slice_get-get_or all m no_sample (omega (arith, l, length-timed_from 0 (s ∷ ss))) in
        found_is_read (whole_of st) (plain_at tables (suc m)) x
        (finds_each (whole_of st) tables (s ∷ ss) described fits m x at)
        ∙ ap ok_sample (sym at)

    past : (m : ℕ) → length (s ∷ ss) ≤ m → plain_sample_at (whole_of st) tables (suc m) ≡ Ok (slice_get all m)
    unfolding plain_sample_at
    past m l =
        ap (λ answer. answer >>= read_in (whole_of st)) (none_past (whole_of st) tables (s ∷ ss) described m l)
        ∙ ap ok_sample (sym (slice_get_past all m (omega (arith, l, length-timed_from 0 (s ∷ ss)))))

    plain_number : (k : ℕ) → plain_sample_at (whole_of st) tables k ≡ sample_number (s ∷ ss) k
    unfolding plain_sample_at plain_at
    plain_number zero = refl
    plain_number (suc m) = ⊎_elim (within m) (past m) (cases_lt m (length (s ∷ ss)))

  -- a track has the numbers of its accepted samples
  pub read_at_number : (t : Mp4Track) → t.trak ≡ trak → t.trafs ≡ [] → (k : ℕ) → k < 2 ^ 32
      → sample_at (whole_of st) t.trak t.trafs (track_runs t) k ≡ sample_number a.samples k
  read_at_number t box trafs k small = go a.samples refl
    where
      go : (ss : List Sample) → a.samples ≡ ss
          → sample_at (whole_of st) t.trak t.trafs (track_runs t) k ≡ sample_number ss k
      go [] e =
          no_numbers (whole_of st) t.trak t.trafs (track_runs t) k (ap length trafs)
          (ap (λ (b : TrakBox). (tables_of b).stsc.entries) box ∙ w.empty (ap length e))
      go (s ∷ ss) e =
          sample_is_plain (whole_of st) t.trak t.trafs (track_runs t) k
          (unfragmented_is_of_movie t.trak t.trafs k (ap length trafs))
          (subst (λ (b : TrakBox). Consistent (tables_of b)) (sym box) (described s ss e).consistent) t.numbered small
          ∙ ap (λ (b : TrakBox). plain_sample_at (whole_of st) (tables_of b) k) box
          ∙ plain_number s ss e k

-- where fragments add no run, the samples of the movie box are counted alone
counted_alone : (t : Mp4Track) → track_runs t ≡ []
    → sample_count_of t.trak (track_runs t) ≡ Ok (sample_count (tables_of t.trak))
unfolding sample_count_of
counted_alone t none =
    let n = sample_count (tables_of t.trak) in
    rw (none, le-ltb (2 ^ 32 - 1) (n + 0) (omega (arith, t.counted))) (ap Ok (omega arith))

-- A finished movie that was opened again.
module _ (st : WriterState) (w : IsWrittenMovie st) (fits : length (whole_of st) < 2 ^ 64) (movie : Mp4Reader)
    (bytes : movie.bytes.now ≡ whole_of st) (are : AreTracks (movie_of st) [] [] movie.movie.tracks) where
  abbrev boxes : List TrakBox
  boxes = (movie_of st).traks

  -- the box of a track without samples
  no_box : TrakBox
  no_box = trak_for 0 (record { id = 0; config = none_accepted.config; samples = []; chunks = [] })

  -- the track of a box that is there
  record IsAccepted (u : ℕ) (trak : TrakBox) : Type 0 where
    track : AcceptedTrack
    is_there : slice_get (accepted st) u ≡ Some track
    written : IsWrittenTrack st (u + 1) track trak

  accepted_at : (u : ℕ) (trak : TrakBox) → slice_get boxes u ≡ Some trak → IsAccepted u trak
  accepted_at u trak box =
      let within = slice_get_within boxes u trak box in
      let a = get_or (accepted st) u none_accepted in
      let at : slice_get (accepted st) u ≡ Some a =
      slice_get-get_or (accepted st) u none_accepted (omega (arith, within, w.count)) in
      record { track = a; is_there = at; written = w.tracks u a trak at box }

  counted : CountUp 1 boxes
  counted u trak box = let id = (accepted_at u trak box).written.id_is in omega (arith, id)

  box_at : (u : ℕ) → trak_with_id boxes (suc u) ≡ slice_get boxes u
  box_at u =
      let id : 1 + u ≡ suc u = omega arith in
      ap (trak_with_id boxes) (sym id) ∙ found_at_place 1 u boxes counted

  -- what is asked of the track with an id, and of the accepted one
  abbrev IsSame : {X : Type 0} → (Mp4Track → Result X Cause) → (AcceptedTrack → Result X Cause) → ℕ → Type 0
  IsSame f g id = (track_or id (at_id movie.movie.tracks id) >>= f) ≡ (accepted_with_id (accepted st) id >>= g)

  -- Where that is the same of each track, it is the same at each id.
  module _ {X : Type 0} (f : Mp4Track → Result X Cause) (g : AcceptedTrack → Result X Cause)
      (same : (u : ℕ) (a : AcceptedTrack) (trak : TrakBox) → IsWrittenTrack st (u + 1) a trak → (t : Mp4Track)
      → t.trak ≡ trak → t.trafs ≡ [] → track_runs t ≡ [] → f t ≡ g a) where
    here_or_not : (u : ℕ) (o : Option TrakBox) → slice_get boxes u ≡ o → IsSame f g (suc u)
    unfolding placed_runs
    here_or_not u (Some trak) box =
        let a = accepted_at u trak box in
        let t = known (movie_of st) [] [] movie.movie.tracks are (suc u) trak (box_at u ∙ box) in
        rw (t.is_there, a.is_there) (same u a.track trak a.written t.track t.box t.trafs t.runs)
    here_or_not u None box =
        let none = unknown (movie_of st) [] [] movie.movie.tracks are (suc u) (box_at u ∙ box) in
        let past : slice_get (accepted st) u ≡ None =
        slice_get_past (accepted st) u
        (⊎_elim
        (λ (l : u < length (accepted st)). absurd (not_past u (omega (arith, l, w.count)) box))
        (λ (l : length (accepted st) ≤ u). l) (cases_lt u (length (accepted st)))) in
        rw (none, past) refl
      where
        not_past : (u : ℕ) → u < length boxes → slice_get boxes u ≡ None → ⊥
        not_past u l e = none-some (get_or boxes u no_box) (sym e ∙ slice_get-get_or boxes u no_box l)

    at_each_id : (id : ℕ) → IsSame f g id
    at_each_id zero =
        rw (unknown (movie_of st) [] [] movie.movie.tracks are 0 (none_below 1 0 boxes counted (omega arith))) refl
    at_each_id (suc u) = here_or_not u (slice_get boxes u) refl

  abbrev IsThere : ℕ → AcceptedTrack → Type 0
  IsThere id a = IsSomeAnd (at_id movie.movie.tracks id) (λ t. IsDescribed t.trak a.config)

  -- each accepted track is described as it was accepted
  described_at : (id : ℕ) (a : AcceptedTrack) → accepted_with_id (accepted st) id ≡ Ok a → IsThere id a
  unfolding media_type_of
  described_at zero a e = absurd cc
  described_at (suc u) a e = by (slice_get (accepted st) u) refl e
    where
      by : (o : Option AcceptedTrack) → slice_get (accepted st) u ≡ o → track_or (suc u) o ≡ Ok a → IsThere (suc u) a
      by None is f = absurd cc
      by (Some x) is f =
          let same = ok_is x a f in
          let there = slice_get_within (accepted st) u x is in
          let trak = get_or boxes u no_box in
          let box : slice_get boxes u ≡ Some trak =
          slice_get-get_or boxes u no_box (omega (arith, there, w.count)) in
          let one = w.tracks u a trak (is ∙ ap Some same) box in
          let t = known (movie_of st) [] [] movie.movie.tracks are (suc u) trak (box_at u ∙ box) in
          rw t.is_there
          (subst (λ (b : TrakBox). IsDescribed b a.config) (sym t.box)
          (record {
            timescale = one.timescale;
            language = one.language;
            kind = one.kind;
            coding = ap (λ m. ok_or m invalid_data) one.coding;
          }))

  pub exactly : HasExactly movie (accepted st)
  unfolding sample_in sample_count_in
  exactly = record {
    tracks = described_at;
    samples = λ id k small.
        ap (λ file. track_or id (at_id movie.movie.tracks id) >>= λ t. sample_at file t.trak t.trafs (track_runs t) k)
        bytes
        ∙ at_each_id (λ t. sample_at (whole_of st) t.trak t.trafs (track_runs t) k) (λ a. sample_number a.samples k)
        (λ u a trak one t box trafs runs. read_at_number st (u + 1) a trak one fits t box trafs k small) id;
    counts = at_each_id (λ t. sample_count_of t.trak (track_runs t)) (λ a. Ok (length a.samples))
        (λ u a trak one t box trafs runs.
        counted_alone t runs ∙ ap Ok (ap (λ (b : TrakBox). sample_count (tables_of b)) box ∙ one.count));
  }

-- bytes that are a file aren't opened only where memory ran out
pub wanted_memory : (opened : OpenedFile) (e : Error) → Answers opened_file (Err e) (Ok opened) → e ≡ OutOfMemory
wanted_memory opened e (inl memory) = memory
wanted_memory opened e (inr other) = absurd cc

-- A session that was ended, from an empty buffer on: its bytes open as exactly what its calls have accepted.
module _ (session : Session) (empty : session.front ≡ []) (e : IsEnded session) (file : List ℕ)
    (is : file ≡ whole_of (writer_of session)) (fits : length file < 2 ^ 64) (opens : Opens (writer_of session)) where
  abbrev st : WriterState
  st = writer_of session

  abbrev finished : OpenedFile
  finished = record {
    ftyp = file_type_of st.config;
    moov = movie_of st;
    moofs = [];
    moof_places = [];
    emsgs = [];
    size = length (whole_of st);
  }

  is_file : IsFile (length file) (here file 0) finished
  is_file =
      subst (λ (bytes : List ℕ). IsFile (length bytes) (here bytes 0) finished) (sym is)
      (opens ((session_keeps session).front ∙ empty))

  pub read_back : (result : Result Mp4Reader Error) → IsOpening file result
      → OpensAs (λ movie. HasExactly movie (accepted_by session)) result
  read_back (Ok r) o =
      let same : finished ≡ opened_file r = ok_is finished (opened_file r) (o.opens finished is_file) in
      let tracks : AreTracks (movie_of st) [] [] r.movie.tracks =
      subst (λ (f : OpenedFile). AreTracks f.moov f.moofs f.moof_places r.movie.tracks) (sym same) o.tracks in
      subst (HasExactly r) (session_accepts session e.answered)
      (exactly st (session_written session e) (subst (λ (bytes : List ℕ). length bytes < 2 ^ 64) is fits) r
      (o.bytes ∙ is) tracks)
  read_back (Err error) o = wanted_memory finished error (o.opens finished is_file)

-- A track of an opened file that no fragment names.
module _ (r : Mp4Reader) (are : AreTracks r.movie.moov r.movie.moofs r.movie.moof_places r.movie.tracks)
    (opened : OpenedFile)
    (same : opened ≡ opened_file r) (id : ℕ) (trak : TrakBox) (plain : IsPlainTrack opened id trak) where
  pub record IsFoundTrack : Type 0 where
    pub track : Mp4Track
    pub is_there : at_id r.movie.tracks id ≡ Some track
    pub box : track.trak ≡ trak
    pub unfragmented : length track.trafs ≡ 0

  pub found_track : IsFoundTrack
  found_track =
      let there : trak_with_id r.movie.moov.traks id ≡ Some trak =
      ap (λ (o : OpenedFile). trak_with_id o.moov.traks id) (sym same) ∙ plain.is_there in
      let t = known r.movie.moov r.movie.moofs r.movie.moof_places r.movie.tracks are id trak there in
      record {
        track = t.track;
        is_there = t.is_there;
        box = t.box;
        unfragmented = ap length t.trafs
            ∙ ap (λ n. length (trafs_of (trafs_in r.movie.moofs) n)) (id_of id r.movie.moov.traks trak there)
            ∙ ap (λ (o : OpenedFile). length (trafs_of (trafs_in o.moofs) id)) (sym same)
            ∙ plain.unfragmented;
      }

-- Samples follow one another.

follows_from : (time : ℕ) (ss : List Sample) (m : ℕ) (s next : TimedSample)
    → slice_get (timed_from time ss) m ≡ Some s → slice_get (timed_from time ss) (suc m) ≡ Some next
    → next.start_time ≡ s.start_time + s.sample.duration
unfolding timed_from
follows_from time [] m s next e f = absurd (none-some s (sym (slice_get_past [] m (omega arith)) ∙ e))
follows_from time (x ∷ []) zero s next e f = absurd cc
follows_from time (x ∷ y ∷ ss) zero s next e f =
    ap (λ (t : TimedSample). t.start_time) (sym (same_Some _ next f))
    ∙ ap (λ (t : TimedSample). t.start_time + t.sample.duration) (same_Some _ s e)
follows_from time (x ∷ ss) (suc m) s next e f = follows_from (time + x.duration) ss m s next e f

number_follows : (ss : List Sample) (k : ℕ) (s next : TimedSample) → sample_number ss k ≡ Ok (Some s)
    → sample_number ss (suc k) ≡ Ok (Some next) → next.start_time ≡ s.start_time + s.sample.duration
number_follows [] k s next e f = absurd cc
number_follows (x ∷ ss) zero s next e f = absurd cc
number_follows (x ∷ ss) (suc m) s next e f =
    follows_from 0 (x ∷ ss) m s next (ok_is _ (Some s) e) (ok_is _ (Some next) f)

pub accepted_follows : (accepted : List AcceptedTrack) (id k : ℕ) (s next : TimedSample)
    → accepted_sample accepted id k ≡ Ok (Some s) → accepted_sample accepted id (suc k) ≡ Ok (Some next)
    → next.start_time ≡ s.start_time + s.sample.duration
accepted_follows accepted id k s next e f = by (accepted_with_id accepted id) e f
  where
    by : (r : Result AcceptedTrack Cause) → (r >>= λ t. sample_number t.samples k) ≡ Ok (Some s)
        → (r >>= λ t. sample_number t.samples (suc k)) ≡ Ok (Some next)
        → next.start_time ≡ s.start_time + s.sample.duration
    by (Ok a) e f = number_follows a.samples k s next e f
    by (Err c) e f = absurd cc
