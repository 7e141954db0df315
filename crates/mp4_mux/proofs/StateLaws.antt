-- What each call accepts, and what goes on to hold.
use Rattle.std.proofs.Common.{◌≡◌, ◌≢◌, ℕ, ◌+◌, ◌-◌, ◌*◌, ◌/◌, ◌^◌, ◌<◌, ◌≤◌, Bool, true, false, cond}
use Rattle.std.proofs.Common.{List, [], ◌∷◌, ◌++◌, length, get_or, set, map, refl, sym, ap, ap₂, subst, ◌∙◌}
use Rattle.std.proofs.Common.{append_assoc, arith}
use Rattle.std.proofs.Common.{get_or-set_same, get_or-set_other, ⊎_elim, Option, Some, None}
use Rattle.mp4_mux.specs.Writing.{end_cause}
use Rattle.std.proofs.Common.{◌⊎◌, inl, inr, true, Some}
use Rattle.std.specs.List.{AllByRecursion}
use Rattle.std.proofs.lemmas.List.{append-nil, length-set, length_push, map-append, get_or_append_left}
use Rattle.std.proofs.lemmas.List.{get_or_push}
use Rattle.std.proofs.lemmas.List.Sums.{sum_by-cons, sum_by-append}
use Rattle.std.proofs.lemmas.Bool.{cases_eq, cases_lt}
use Rattle.std.proofs.lemmas.Bool.Decides.{nat_tests}
use Rattle.std.specs.Prelude.{nat_le, nat_lt, ◌==◌}
use Rattle.mp4_codec.specs.Cause.{Cause, ended, trak_not_found, too_large}
use Rattle.mp4_codec.specs.WriteLaws.{or_parts}
use Rattle.mp4_codec.specs.declared.error.Limit.TheVariants.{SampleBytes, SampleCount, TrackDuration, TrackCount}
use Rattle.mp4_samples.specs.Samples.{Sample}
use Rattle.mp4_mux.specs.SampleInfos.{IsInRangeSampleInfo}
use Rattle.mp4_mux.specs.declared.config.Mp4Config.{Mp4Config}
use Rattle.mp4_mux.specs.declared.config.TrackConfig.{TrackConfig}
use Rattle.mp4_mux.specs.declared.sample_info.SampleInfo.{SampleInfo}
use Rattle.mp4_mux.specs.Config.{config_cause, IsInRangeTrackConfig}
use Rattle.mp4_mux.specs.TrackHeaders.{movie_duration}
use Rattle.mp4_mux.specs.Chunks.{TrackState, Chunk, is_full, samples_of}
use Rattle.mp4_mux.proofs.ChunksLaws.{samples_of-append, samples_of-one, samples_of-other, other_id}
use Rattle.mp4_mux.specs.Writing.{WriterState, info_of, no_track, track_at, accepted_of, with_pending, with_chunk}
use Rattle.mp4_mux.specs.Writing.{with_sample}
use Rattle.mp4_mux.specs.Writing.{with_track, started, sample_cause, track_cause, duration_with}
use Rattle.mp4_mux.specs.Sound.{IsIdOf, IsFine, IsKnownChunk, IsSound}

all-push : {X : Type 0} (P : X → Type 0) (xs : List X) (x : X) → AllByRecursion P xs → P x
    → AllByRecursion P (xs ++ x ∷ [])
all-push P [] x h p = (p, tt)
all-push P (y ∷ ys) x h p = (h.0, all-push P ys x h.1 p)

-- one state has a sample more than another, of the track of this id
pub record IsOneMore (st new : WriterState) (id : ℕ) (s : Sample) : Type 0 where
  pub front : new.front ≡ st.front
  pub config : new.config ≡ st.config
  pub ended : new.ended ≡ st.ended
  pub count : length new.tracks ≡ length st.tracks
  pub configs : (v : ℕ) → (track_at new v).config ≡ (track_at st v).config
  pub same : accepted_of new id ≡ accepted_of st id ++ s ∷ []
  pub others : (v : ℕ) → 1 ≤ v → v ≢ id → accepted_of new v ≡ accepted_of st v
  pub known : AllByRecursion (IsKnownChunk st) st.chunks → AllByRecursion (IsKnownChunk new) new.chunks

module _ (st : WriterState) (id : ℕ) (h : IsIdOf st id) (ss : List Sample) where
  there : id - 1 < length st.tracks
  there = let a = h.first in let b = h.last in omega (arith, a, b)

  abbrev now : TrackState
  now = record (track_at st id) { pending = ss }

  pub pending-track : track_at (with_pending st id ss) id ≡ record (track_at st id) { pending = ss }
  pending-track = get_or-set_same st.tracks (id - 1) now no_track there

  pub pending-other : (v : ℕ) → 1 ≤ v → v ≢ id → track_at (with_pending st id ss) v ≡ track_at st v
  pending-other v pos n =
      get_or-set_other st.tracks (id - 1) (v - 1) now no_track (λ e. n (let a = h.first in omega (arith, e, a)))

  pub pending-configs : (v : ℕ) → (track_at (with_pending st id ss) v).config ≡ (track_at st v).config
  pending-configs v = ⊎_elim
      (λ (e : v - 1 ≡ id - 1). ap (λ i. (get_or (set st.tracks (id - 1) now) i no_track).config) e
      ∙ ap (λ (t : TrackState). t.config) (get_or-set_same st.tracks (id - 1) now no_track there)
      ∙ ap (λ i. (get_or st.tracks i no_track).config) (sym e))
      (λ (n : v - 1 ≢ id - 1). ap (λ (t : TrackState). t.config)
      (get_or-set_other st.tracks (id - 1) (v - 1) now no_track n))
      (cases_eq (v - 1) (id - 1))

  pub pending-count : length (with_pending st id ss).tracks ≡ length st.tracks
  pending-count = length-set st.tracks (id - 1) now

known_still : (st new : WriterState) → length new.tracks ≡ length st.tracks → (cs : List Chunk)
    → AllByRecursion (IsKnownChunk st) cs → AllByRecursion (IsKnownChunk new) cs
known_still st new e [] a = tt
known_still st new e (c ∷ cs) a =
    let f = a.0.track.first in
    let l = a.0.track.last in (
      record { track = record { first = f; last = omega (arith, e, l) }; some = a.0.some },
      known_still st new e cs a.1,
    )

module _ (st : WriterState) (id : ℕ) (h : IsIdOf st id) (s : Sample) where
  abbrev more : List Sample
  more = (track_at st id).pending ++ s ∷ []

  abbrev before : List Sample
  before = samples_of id st.chunks

  grouped : before ++ more ≡ accepted_of st id ++ s ∷ []
  grouped = sym (append_assoc before (track_at st id).pending (s ∷ []))

  pub one_pending : IsOneMore st (with_pending st id more) id s
  one_pending = record {
    front = refl;
    config = refl;
    ended = refl;
    count = pending-count st id h more;
    configs = pending-configs st id h more;
    same = ap (λ (t : TrackState). before ++ t.pending) (pending-track st id h more) ∙ grouped;
    others = λ v pos n. ap (λ (t : TrackState). samples_of v st.chunks ++ t.pending)
        (pending-other st id h more v pos n);
    known = known_still st (with_pending st id more) (pending-count st id h more) st.chunks;
  }

  some_more : 0 < length more
  some_more = omega (arith, length_push (track_at st id).pending s)

  pub one_chunk : IsOneMore st (with_chunk st id more) id s
  one_chunk =
      let c : Chunk = record { track_id = id; samples = more } in
      let count = pending-count st id h [] in
      record {
        front = refl;
        config = refl;
        ended = refl;
        count = count;
        configs = pending-configs st id h [];
        same = ap (λ (t : TrackState). samples_of id (st.chunks ++ c ∷ []) ++ t.pending) (pending-track st id h [])
            ∙ append-nil (samples_of id (st.chunks ++ c ∷ []))
            ∙ samples_of-append id st.chunks (c ∷ [])
            ∙ ap (λ (xs : List Sample). before ++ xs) (samples_of-one id more)
            ∙ grouped;
        others = λ v pos n. ap (λ (t : TrackState). samples_of v (st.chunks ++ c ∷ []) ++ t.pending)
            (pending-other st id h [] v pos n)
            ∙ ap (λ (xs : List Sample). xs ++ (track_at st v).pending)
            (samples_of-append v st.chunks (c ∷ [])
            ∙ ap (λ (xs : List Sample). samples_of v st.chunks ++ xs) (samples_of-other id v more (λ e. n (sym e)))
            ∙ append-nil (samples_of v st.chunks));
        known = λ a. all-push (IsKnownChunk (with_chunk st id more)) st.chunks c
            (known_still st (with_chunk st id more) count st.chunks a)
            (record {
              track = record { first = h.first; last = let b = h.last in omega (arith, b, count) };
              some = some_more;
            });
      }

  -- a sample more is accepted, and nothing else
  pub one_more : IsOneMore st (with_sample st id s) id s
  unfolding with_sample
  one_more =
      elim (is_full (track_at st id).config.timescale more) as
      (λ b. IsOneMore st (cond b (with_chunk st id more) (with_pending st id more)) id s)
      [ true ↦ one_chunk | false ↦ one_pending ]

-- Why nothing is refused.

-- a test whose cause is not the answer is not met
pub past : (b : Bool) (c : Cause) (later : Option Cause) → cond b (Some c) later ≡ None → (b ≡ false) × (later ≡ None)
past true c later e = cc
past false c later e = (refl, e)

-- what holds where a sample has no cause
pub record IsWelcome (st : WriterState) (id : ℕ) (s : Sample) : Type 0 where
  pub goes_on : st.ended ≡ false
  pub track : IsIdOf st id
  pub size : length s.bytes < 2 ^ 32
  pub count : length (accepted_of st id) < 2 ^ 32 - 1
  pub room : duration_with st id s < 2 ^ 64

pub sample_welcome : (st : WriterState) (id : ℕ) (s : Sample) → sample_cause st id s ≡ None → IsWelcome st id s
unfolding sample_cause
sample_welcome st id s e =
    let one = past st.ended ended _ e in
    let two = past (id == 0) (trak_not_found id) _ one.1 in
    let three = past (nat_lt (length st.tracks) id) (trak_not_found id) _ two.1 in
    let four = past (nat_le (2 ^ 32) (length s.bytes)) (too_large SampleBytes) _ three.1 in
    let five = past (nat_le (2 ^ 32 - 1) (length (accepted_of st id))) (too_large SampleCount) _ four.1 in
    let six = past (nat_le (2 ^ 64) (duration_with st id s)) (too_large TrackDuration) None five.1 in
    let a : (id == 0) ≡ false = two.0 in
    let b : nat_lt (length st.tracks) id ≡ false = three.0 in
    let c : nat_le (2 ^ 32) (length s.bytes) ≡ false = four.0 in
    let d : nat_le (2 ^ 32 - 1) (length (accepted_of st id)) ≡ false = five.0 in
    let f : nat_le (2 ^ 64) (duration_with st id s) ≡ false = six.0 in
    record {
      goes_on = one.0;
      track = record { first = grind (arith, nat_tests, a); last = grind (arith, nat_tests, b) };
      size = grind (arith, nat_tests, c);
      count = grind (arith, nat_tests, d);
      room = grind (arith, nat_tests, f);
    }

-- what holds where a track has no cause
pub record IsWelcomeTrack (st : WriterState) (config : TrackConfig) : Type 0 where
  pub goes_on : st.ended ≡ false
  pub config_is : config_cause config ≡ None
  pub few : length st.tracks < 2 ^ 32 - 1

pub track_welcome : (st : WriterState) (config : TrackConfig) → track_cause st config ≡ None
    → IsWelcomeTrack st config
unfolding track_cause
track_welcome st config e =
    let one = past st.ended ended _ e in
    let two = or_parts (config_cause config) _ one.1 in
    let three = past (nat_le (2 ^ 32 - 1) (length st.tracks)) (too_large TrackCount) None two.1 in
    let a : nat_le (2 ^ 32 - 1) (length st.tracks) ≡ false = three.0 in
    record { goes_on = one.0; config_is = two.0; few = grind (arith, nat_tests, a) }

-- Which refusal comes first.

pub sample_cause-ended : (st : WriterState) (id : ℕ) (s : Sample) → st.ended ≡ true
    → sample_cause st id s ≡ Some ended
unfolding sample_cause
sample_cause-ended st id s e = rw e refl

pub sample_cause-unknown : (st : WriterState) (id : ℕ) (s : Sample) → st.ended ≡ false
    → (id ≡ 0) ⊎ (length st.tracks < id) → sample_cause st id s ≡ Some (trak_not_found id)
unfolding sample_cause
sample_cause-unknown st id s e (inl none) =
    let test : (id == 0) ≡ true = grind (arith, nat_tests, none) in rw (e, test) refl
sample_cause-unknown st id s e (inr past) =
    let zero : (id == 0) ≡ false = grind (arith, nat_tests, past) in
    let test : nat_lt (length st.tracks) id ≡ true = grind (arith, nat_tests, past) in
    rw (e, zero, test) refl

-- an end that has no cause is the first
pub end_welcome : (st : WriterState) → end_cause st ≡ None → st.ended ≡ false
unfolding end_cause
end_welcome st e = (past st.ended ended _ e).0

pub end_cause-ended : (st : WriterState) → st.ended ≡ true → end_cause st ≡ Some ended
unfolding end_cause
end_cause-ended st e = rw e refl

pub track_cause-ended : (st : WriterState) (c : TrackConfig) → st.ended ≡ true → track_cause st c ≡ Some ended
unfolding track_cause
track_cause-ended st c e = rw e refl

pub track_cause-config : (st : WriterState) (c : TrackConfig) (cause : Cause) → st.ended ≡ false
    → config_cause c ≡ Some cause → track_cause st c ≡ Some cause
unfolding track_cause
track_cause-config st c cause e refused = rw (e, refused) refl

pub track_cause-many : (st : WriterState) (c : TrackConfig) → st.ended ≡ false → config_cause c ≡ None
    → 2 ^ 32 - 1 ≤ length st.tracks → track_cause st c ≡ Some (too_large TrackCount)
unfolding track_cause
track_cause-many st c e accepted many =
    let test : nat_le (2 ^ 32 - 1) (length st.tracks) ≡ true = grind (arith, nat_tests, many) in
    rw (e, accepted, test) refl

pub track_cause-none : (st : WriterState) (c : TrackConfig) → st.ended ≡ false → config_cause c ≡ None
    → length st.tracks < 2 ^ 32 - 1 → track_cause st c ≡ None
unfolding track_cause
track_cause-none st c e accepted few =
    let test : nat_le (2 ^ 32 - 1) (length st.tracks) ≡ false = grind (arith, nat_tests, few) in
    rw (e, accepted, test) refl

-- What goes on to hold.

pub sound_started : (front : List ℕ) (config : Mp4Config) → IsSound (started front config)
sound_started front config = record {
  few = omega arith;
  known = tt;
  fine = λ id h. absurd (let a = h.first in let b = h.last in omega (arith, a, b));
}

module _ (st : WriterState) (config : TrackConfig) (h : IsSound st) (e : track_cause st config ≡ None)
    (fits : IsInRangeTrackConfig config) where
  abbrev fresh : TrackState
  fresh = record { config = config; pending = [] }

  welcome : IsWelcomeTrack st config
  welcome = track_welcome st config e

  added : length (with_track st config).tracks ≡ length st.tracks + 1
  added = length_push st.tracks fresh

  known_with : (cs : List Chunk) → AllByRecursion (IsKnownChunk st) cs
      → AllByRecursion (IsKnownChunk (with_track st config)) cs
  known_with [] a = tt
  known_with (c ∷ cs) a =
      let f = a.0.track.first in
      let l = a.0.track.last in (
        record { track = record { first = f; last = omega (arith, added, l) }; some = a.0.some },
        known_with cs a.1,
      )

  -- an earlier track stays
  pub track-stays : (id : ℕ) → IsIdOf st id → track_at (with_track st config) id ≡ track_at st id
  track-stays id i =
      get_or_append_left st.tracks (fresh ∷ []) no_track (id - 1)
      (let a = i.first in let b = i.last in omega (arith, a, b))

  -- no chunk is of a later id
  none_of : (id : ℕ) → length st.tracks < id → (cs : List Chunk) → AllByRecursion (IsKnownChunk st) cs
      → samples_of id cs ≡ []
  unfolding samples_of
  none_of id l [] a = refl
  none_of id l (c ∷ cs) a =
      let last = a.0.track.last in
      let n : c.track_id ≢ id = λ same. absurd (omega (arith, same, last, l)) in
      other_id c.track_id id (c.samples ++ samples_of id cs) (samples_of id cs) n ∙ none_of id l cs a.1

  -- the new one has the next id, and no sample
  pub track-new : track_at (with_track st config) (length st.tracks + 1) ≡ fresh
  track-new =
      let at : length st.tracks + 1 - 1 ≡ length st.tracks = omega arith in
      get_or_push st.tracks fresh no_track (length st.tracks + 1 - 1) (sym at)

  pub accepted-stays : (id : ℕ) → IsIdOf st id → accepted_of (with_track st config) id ≡ accepted_of st id
  accepted-stays id i = ap (λ (t : TrackState). samples_of id st.chunks ++ t.pending) (track-stays id i)

  pub accepted-new : accepted_of (with_track st config) (length st.tracks + 1) ≡ []
  accepted-new =
      ap₂ (λ (xs : List Sample) (t : TrackState). xs ++ t.pending)
      (none_of (length st.tracks + 1) (omega arith) st.chunks h.known) track-new

  nothing_lasts : (m t : ℕ) → movie_duration m t (map info_of []) ≡ 0
  unfolding movie_duration
  nothing_lasts m t = refl

  pub sound_track : IsSound (with_track st config)
  sound_track = record {
    few = omega (arith, added, welcome.few);
    known = known_with st.chunks h.known;
    fine = λ id i. let a = i.first in let b = i.last in ⊎_elim
        (λ (l : length st.tracks < id).
        let is : id ≡ length st.tracks + 1 = omega (arith, added, l, b) in
        subst (λ v. IsFine st.config.timescale (track_at (with_track st config) v).config
        (accepted_of (with_track st config) v)) (sym is)
        (rw (accepted-new, track-new) record {
          config_is = welcome.config_is;
          config_fits = fits;
          count = omega arith;
          samples = tt;
          duration = omega (arith, nothing_lasts st.config.timescale config.timescale);
        }))
        (λ (l : id ≤ length st.tracks).
        let old : IsIdOf st id = record { first = a; last = l } in
        rw (accepted-stays id old, track-stays id old) (h.fine id old))
        (cases_lt (length st.tracks) id);
  }

movie_duration-one : (m t : ℕ) (is : List SampleInfo) (i : SampleInfo)
    → movie_duration m t (is ++ i ∷ []) ≡ movie_duration m t is + i.duration * m / t
unfolding movie_duration
movie_duration-one m t is i =
    sum_by-append (λ (s : SampleInfo). s.duration * m / t) is (i ∷ [])
    ∙ omega (arith, sum_by-cons (λ (s : SampleInfo). s.duration * m / t) i [])

-- a state with a sample more is sound
pub sound_sample : (st : WriterState) (id : ℕ) (s : Sample) → IsSound st → sample_cause st id s ≡ None
    → IsInRangeSampleInfo (info_of s) → IsSound (with_sample st id s)
sound_sample st id s h e fits =
    let w = sample_welcome st id s e in
    let new = with_sample st id s in
    let m = one_more st id w.track s in
    let whole : movie_duration st.config.timescale (track_at st id).config.timescale
    (map info_of (accepted_of st id ++ s ∷ [])) ≡ duration_with st id s =
    ap (movie_duration st.config.timescale (track_at st id).config.timescale)
    (map-append info_of (accepted_of st id) (s ∷ []))
    ∙ movie_duration-one st.config.timescale (track_at st id).config.timescale (map info_of (accepted_of st id))
    (info_of s) in
    record {
      few = omega (arith, m.count, h.few);
      known = m.known h.known;
      fine = λ v i.
          let a = i.first in
          let b = i.last in
          let old : IsIdOf st v = record { first = a; last = omega (arith, m.count, b) } in
          ⊎_elim
          (λ (same : v ≡ id).
          let was = h.fine id w.track in
          let now : IsFine st.config.timescale (track_at st id).config (accepted_of st id ++ s ∷ []) =
          record {
            config_is = was.config_is;
            config_fits = was.config_fits;
            count = omega (arith, length_push (accepted_of st id) s, w.count);
            samples = all-push (λ (x : Sample). IsInRangeSampleInfo (info_of x)) (accepted_of st id) s was.samples fits;
            duration = omega (arith, whole, w.room);
          } in
          subst (λ u. IsFine new.config.timescale (track_at new u).config (accepted_of new u)) (sym same)
          (rw (m.config, m.configs id, m.same) now))
          (λ (n : v ≢ id). rw (m.config, m.configs v, m.others v a n) (h.fine v old))
          (cases_eq v id);
    }
