-- An end makes what is pending of each track a chunk: at most one of each, in the order of the tracks.
use Rattle.std.proofs.Common.{◌≡◌, ◌≢◌, ℕ, zero, suc, ◌+◌, ◌-◌, ◌<◌, ◌≤◌, List, [], ◌∷◌}
use Rattle.std.proofs.Common.{◌++◌, length, get_or, refl, sym, ap, ap₂, subst, ◌∙◌, arith}
use Rattle.std.specs.List.{All, AllPairs}
use Rattle.std.proofs.lemmas.List.{append-nil}
use Rattle.std.proofs.lemmas.List.Elements.{All-nil, All-cons, All-append, filter-append}
use Rattle.std.proofs.lemmas.List.Kept.{AllPairs-cons}
use Rattle.std.specs.Prelude.{◌==◌}
use Rattle.mp4_samples.specs.Samples.{Sample}
use Rattle.mp4_mux.specs.Chunks.{TrackState, Chunk, chunk_of, last_chunks}
use Rattle.mp4_mux.proofs.ChunksLaws.{same_id, other_id}
use Rattle.mp4_mux.specs.Writing.{WriterState, no_track, track_at}
use Rattle.mp4_mux.specs.Layout.{chunks_of}

pub chunks_of-append : (id : ℕ) (cs ds : List Chunk) → chunks_of id (cs ++ ds) ≡ chunks_of id cs ++ chunks_of id ds
unfolding chunks_of
chunks_of-append id cs ds = filter-append (λ (c : Chunk). c.track_id == id) cs ds

own_chunk : (id : ℕ) (ss : List Sample) → chunks_of id (chunk_of id ss) ≡ chunk_of id ss
unfolding chunks_of
own_chunk id [] = refl
own_chunk id (s ∷ ss) = same_id id (chunk_of id (s ∷ ss)) []

other_chunk : (id other : ℕ) (ss : List Sample) → id ≢ other → chunks_of other (chunk_of id ss) ≡ []
unfolding chunks_of
other_chunk id other [] n = refl
other_chunk id other (s ∷ ss) n = other_id id other (chunk_of id (s ∷ ss)) [] n

chunks_before : (id other : ℕ) (ts : List TrackState) → other < id → chunks_of other (last_chunks id ts) ≡ []
unfolding last_chunks chunks_of
chunks_before id other [] l = refl
chunks_before id other (t ∷ ts) l =
    let n : id ≢ other = omega arith in
    chunks_of-append other (chunk_of id t.pending) (last_chunks (id + 1) ts)
    ∙ ap₂ (λ (x y : List Chunk). x ++ y) (other_chunk id other t.pending n)
    (chunks_before (id + 1) other ts (omega arith))

-- the last chunk of a track has what was pending of it
pub last_chunks-of : (id u : ℕ) (ts : List TrackState)
    → chunks_of (id + u) (last_chunks id ts) ≡ chunk_of (id + u) (get_or ts u no_track).pending
unfolding last_chunks chunks_of
last_chunks-of id u [] = refl
last_chunks-of id zero (t ∷ ts) =
    let same : id + 0 ≡ id = omega arith in
    subst (λ v. chunks_of v (last_chunks id (t ∷ ts)) ≡ chunk_of v t.pending) (sym same)
    (chunks_of-append id (chunk_of id t.pending) (last_chunks (id + 1) ts)
    ∙ ap₂ (λ (x y : List Chunk). x ++ y) (own_chunk id t.pending) (chunks_before (id + 1) id ts (omega arith))
    ∙ append-nil (chunk_of id t.pending))
last_chunks-of id (suc u) (t ∷ ts) =
    let n : id ≢ id + suc u = omega arith in
    let further : (id + 1) + u ≡ id + suc u = omega arith in
    chunks_of-append (id + suc u) (chunk_of id t.pending) (last_chunks (id + 1) ts)
    ∙ ap₂ (λ (x y : List Chunk). x ++ y) (other_chunk id (id + suc u) t.pending n)
    (subst (λ v. chunks_of v (last_chunks (id + 1) ts) ≡ chunk_of v (get_or ts u no_track).pending) further
    (last_chunks-of (id + 1) u ts))

-- the same by the id of the track
pub last_chunks-pending : (st : WriterState) (id : ℕ) → 1 ≤ id
    → chunks_of id (last_chunks 1 st.tracks) ≡ chunk_of id (track_at st id).pending
last_chunks-pending st id l =
    let same : 1 + (id - 1) ≡ id = omega (arith, l) in
    subst (λ v. chunks_of v (last_chunks 1 st.tracks) ≡ chunk_of v (track_at st id).pending) same
    (last_chunks-of 1 (id - 1) st.tracks)

length-chunk_of : (id : ℕ) (ss : List Sample) → length (chunk_of id ss) ≤ 1
length-chunk_of id [] = omega arith
length-chunk_of id (s ∷ ss) = omega arith

-- so each track has at most one
pub last_chunks-once : (id : ℕ) (ts : List TrackState) → length (chunks_of id (last_chunks 1 ts)) ≤ 1
last_chunks-once zero ts = omega (arith, ap length (chunks_before 1 0 ts (omega arith)))
last_chunks-once (suc u) ts =
    let next : 1 + u ≡ suc u = omega arith in
    subst (λ v. length (chunks_of v (last_chunks 1 ts)) ≤ 1) next
    (omega (
      arith,
      ap length (last_chunks-of 1 u ts),
      length-chunk_of (1 + u) (get_or ts u no_track).pending,
    ))

-- they are in the order of their tracks
abbrev pub IsBefore : Chunk → Chunk → Type 0
IsBefore c d = c.track_id < d.track_id

chunk_later : (low id : ℕ) (ss : List Sample) → low < id → All (λ (c : Chunk). low < c.track_id) (chunk_of id ss)
chunk_later low id [] l = All-nil (λ (c : Chunk). low < c.track_id)
chunk_later low id (s ∷ ss) l =
    All-cons (λ (c : Chunk). low < c.track_id) (record { track_id = id; samples = s ∷ ss }) [] l
    (All-nil (λ (c : Chunk). low < c.track_id))

chunks_later : (low id : ℕ) (ts : List TrackState) → low < id
    → All (λ (c : Chunk). low < c.track_id) (last_chunks id ts)
unfolding last_chunks
chunks_later low id [] l = All-nil (λ (c : Chunk). low < c.track_id)
chunks_later low id (t ∷ ts) l =
    All-append (λ (c : Chunk). low < c.track_id) (chunk_of id t.pending) (last_chunks (id + 1) ts)
    (chunk_later low id t.pending l) (chunks_later low (id + 1) ts (omega arith))

chunk_first : (id : ℕ) (ss : List Sample) (cs : List Chunk) → All (λ (c : Chunk). id < c.track_id) cs
    → AllPairs IsBefore cs → AllPairs IsBefore (chunk_of id ss ++ cs)
chunk_first id [] cs later h = h
chunk_first id (s ∷ ss) cs later h = AllPairs-cons IsBefore (record { track_id = id; samples = s ∷ ss }) cs later h

pub last_chunks-ordered : (id : ℕ) (ts : List TrackState) → AllPairs IsBefore (last_chunks id ts)
unfolding last_chunks
last_chunks-ordered id [] = λ i j d l within. absurd (omega arith)
last_chunks-ordered id (t ∷ ts) =
    chunk_first id t.pending (last_chunks (id + 1) ts) (chunks_later id (id + 1) ts (omega arith))
    (last_chunks-ordered (id + 1) ts)
