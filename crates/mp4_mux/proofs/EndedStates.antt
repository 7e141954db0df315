-- A writer whose end was written has nothing pending, has accepted what it had accepted before, and is sound.
use Rattle.std.proofs.Common.{◌≡◌, ℕ, ◌+◌, ◌-◌, ◌<◌, ◌≤◌, List, [], ◌∷◌, ◌++◌, length, get_or, suc}
use Rattle.std.proofs.Common.{refl, ap, ap₂, subst, ◌∙◌, arith}
use Rattle.std.specs.List.{AllByRecursion}
use Rattle.std.proofs.lemmas.List.{append-nil, length-map, get_or-map}
use Rattle.mp4_samples.specs.Samples.{Sample}
use Rattle.mp4_mux.specs.Chunks.{TrackState, Chunk, chunk_of, last_chunks, none_pending, samples_of}
use Rattle.mp4_mux.proofs.ChunksLaws.{samples_of-append, last_chunks-samples}
use Rattle.mp4_mux.specs.Writing.{WriterState, AcceptedTrack, accepted, accepted_from, no_track, track_at, accepted_of}
use Rattle.mp4_mux.specs.Writing.{with_end}
use Rattle.mp4_mux.specs.Sound.{IsIdOf, IsKnownChunk, IsSound}

pub all-append : {X : Type 0} (P : X → Type 0) (xs ys : List X) → AllByRecursion P xs → AllByRecursion P ys
    → AllByRecursion P (xs ++ ys)
all-append P [] ys h i = i
all-append P (x ∷ xs) ys h i = (h.0, all-append P xs ys h.1 i)

module _ (st : WriterState) where
  pub end-count : length (none_pending st.tracks) ≡ length st.tracks
  end-count = length-map st.tracks (λ (t : TrackState). record t { pending = [] })

  -- a track stays, with nothing pending
  pub end-track : (u : ℕ) → u < length st.tracks
      → get_or (none_pending st.tracks) u no_track ≡ record (get_or st.tracks u no_track) { pending = [] }
  end-track u l = get_or-map (λ (t : TrackState). record t { pending = [] }) st.tracks u no_track no_track l

  -- and so its samples are those of its chunks
  pub end-none_pending : (id u : ℕ) → u < length st.tracks
      → samples_of id (with_end st).chunks ++ (get_or (none_pending st.tracks) u no_track).pending
      ≡ samples_of id (with_end st).chunks
  end-none_pending id u l =
      ap (λ (t : TrackState). samples_of id (with_end st).chunks ++ t.pending) (end-track u l)
      ∙ append-nil (samples_of id (with_end st).chunks)

  -- the samples of a track in all chunks are those that it has accepted
  pub end-samples : (u : ℕ) → u < length st.tracks
      → samples_of (1 + u) (with_end st).chunks ≡ samples_of (1 + u) st.chunks ++ (get_or st.tracks u no_track).pending
  end-samples u l =
      samples_of-append (1 + u) st.chunks (last_chunks 1 st.tracks)
      ∙ ap (λ (ss : List Sample). samples_of (1 + u) st.chunks ++ ss) (last_chunks-samples 1 u st.tracks)

  -- and so it has accepted the same as before
  pub end-accepted : (id : ℕ) → IsIdOf st id → accepted_of (with_end st) id ≡ accepted_of st id
  end-accepted id i =
      let a = i.first in
      let b = i.last in
      let there : id - 1 < length st.tracks = omega (arith, a, b) in
      let same : 1 + (id - 1) ≡ id = omega (arith, a) in
      end-none_pending id (id - 1) there
      ∙ subst (λ v. samples_of v (with_end st).chunks ≡ samples_of v st.chunks ++ (track_at st id).pending) same
      (end-samples (id - 1) there)

  same_tracks : (id : ℕ) (ts : List TrackState)
      → ((u : ℕ) → u < length ts
      → samples_of (id + u) (with_end st).chunks ≡ samples_of (id + u) st.chunks ++ (get_or ts u no_track).pending)
      → accepted_from id (none_pending ts) (with_end st).chunks ≡ accepted_from id ts st.chunks
  unfolding accepted_from
  same_tracks id [] h = refl
  same_tracks id (t ∷ ts) h =
      let here : id + 0 ≡ id = omega arith in
      ap₂ (λ (ss : List Sample) (rest : List AcceptedTrack). record { config = t.config; samples = ss } ∷ rest)
      (append-nil (samples_of id (with_end st).chunks)
      ∙ subst (λ v. samples_of v (with_end st).chunks ≡ samples_of v st.chunks ++ t.pending) here (h 0 (omega arith)))
      (same_tracks (id + 1) ts
      (λ u l. let further : id + suc u ≡ (id + 1) + u = omega arith in
      subst (λ v. samples_of v (with_end st).chunks ≡ samples_of v st.chunks ++ (get_or ts u no_track).pending) further
      (h (suc u) (omega (arith, l)))))

  -- the accepted tracks stay
  pub accepted-end : accepted (with_end st) ≡ accepted st
  accepted-end = same_tracks 1 st.tracks end-samples

  known_again : (cs : List Chunk) → AllByRecursion (IsKnownChunk st) cs
      → AllByRecursion (IsKnownChunk (with_end st)) cs
  known_again [] a = tt
  known_again (c ∷ cs) a =
      let f = a.0.track.first in
      let l = a.0.track.last in (
        record { track = record { first = f; last = omega (arith, end-count, l) }; some = a.0.some },
        known_again cs a.1,
      )

  known_one : (id : ℕ) (ss : List Sample) → 1 ≤ id → id ≤ length st.tracks
      → AllByRecursion (IsKnownChunk (with_end st)) (chunk_of id ss)
  known_one id [] f l = tt
  known_one id (s ∷ ss) f l =
      (record { track = record { first = f; last = omega (arith, end-count, l) }; some = omega arith }, tt)

  known_last : (id : ℕ) (ts : List TrackState) → 1 ≤ id → id + length ts ≤ length st.tracks + 1
      → AllByRecursion (IsKnownChunk (with_end st)) (last_chunks id ts)
  unfolding last_chunks
  known_last id [] f l = tt
  known_last id (t ∷ ts) f l =
      all-append (IsKnownChunk (with_end st)) (chunk_of id t.pending) (last_chunks (id + 1) ts)
      (known_one id t.pending f (omega arith)) (known_last (id + 1) ts (omega arith) (omega arith))

  pub sound_end : IsSound st → IsSound (with_end st)
  sound_end h = record {
    few = omega (arith, end-count, h.few);
    known = all-append (IsKnownChunk (with_end st)) st.chunks (last_chunks 1 st.tracks) (known_again st.chunks h.known)
        (known_last 1 st.tracks (omega arith) (omega arith));
    fine = λ id i.
        let a = i.first in
        let b = i.last in
        let old : IsIdOf st id = record { first = a; last = omega (arith, end-count, b) } in
        let there : id - 1 < length st.tracks = omega (arith, end-count, a, b) in
        let track = end-track (id - 1) there in
        rw (end-accepted id old, track) (h.fine id old);
  }
