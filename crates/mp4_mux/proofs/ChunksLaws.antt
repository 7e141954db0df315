-- Chunks that are one after the other: their bytes, their places, and the samples of a track.
use Rattle.std.proofs.Common.{◌≡◌, ◌≢◌, ℕ, zero, suc, ◌+◌, ◌<◌, true, false, cond, eqb, List, [], ◌∷◌, ◌++◌}
use Rattle.std.proofs.Common.{length, get_or, take, refl, sym, ap, ap₂, ◌∙◌, append_assoc, arith, eq-eqb}
use Rattle.std.specs.List.{flat_map}
use Rattle.std.proofs.lemmas.List.{append-nil, length-append}
use Rattle.std.proofs.lemmas.List.Concat.{flat_map-append}
use Rattle.std.proofs.lemmas.Bool.{ne_eqb}
use Rattle.mp4_samples.specs.Samples.{Sample}
use Rattle.mp4_mux.specs.TrackHeaders.{PlacedChunk}
use Rattle.mp4_mux.specs.Chunks.{TrackState, Chunk, sample_bytes, chunk_bytes, chunk_of, last_chunks, samples_of}
use Rattle.mp4_mux.specs.Chunks.{placed_from, of_track}
use Rattle.mp4_mux.specs.Writing.{no_track}

pub same_id : {A : Type 0} (id : ℕ) (a b : A) → cond (eqb id id) a b ≡ a
same_id id a b = ap (λ v. cond v a b) (eq-eqb id id refl)

pub other_id : {A : Type 0} (id other : ℕ) (a b : A) → id ≢ other → cond (eqb id other) a b ≡ b
other_id id other a b n = ap (λ v. cond v a b) (ne_eqb id other n)

pub chunk_bytes-append : (cs ds : List Chunk) → chunk_bytes (cs ++ ds) ≡ chunk_bytes cs ++ chunk_bytes ds
chunk_bytes-append cs ds = flat_map-append (λ (c : Chunk). sample_bytes c.samples) cs ds

pub chunk_bytes-one : (c : Chunk) → chunk_bytes (c ∷ []) ≡ sample_bytes c.samples
chunk_bytes-one c = append-nil (sample_bytes c.samples)

pub samples_of-append : (id : ℕ) (cs ds : List Chunk)
    → samples_of id (cs ++ ds) ≡ samples_of id cs ++ samples_of id ds
unfolding samples_of
samples_of-append id [] ds = refl
samples_of-append id (c ∷ cs) ds =
    elim (eqb c.track_id id) as
    (λ b. cond b (c.samples ++ samples_of id (cs ++ ds)) (samples_of id (cs ++ ds))
    ≡ cond b (c.samples ++ samples_of id cs) (samples_of id cs) ++ samples_of id ds) [
      | true ↦ ap (λ (ss : List Sample). c.samples ++ ss) (samples_of-append id cs ds)
          ∙ sym (append_assoc c.samples (samples_of id cs) (samples_of id ds))
      | false ↦ samples_of-append id cs ds
    ]

pub samples_of-one : (id : ℕ) (ss : List Sample) → samples_of id (record { track_id = id; samples = ss } ∷ []) ≡ ss
unfolding samples_of
samples_of-one id ss = same_id id (ss ++ []) [] ∙ append-nil ss

pub samples_of-other : (id other : ℕ) (ss : List Sample) → id ≢ other
    → samples_of other (record { track_id = id; samples = ss } ∷ []) ≡ []
unfolding samples_of
samples_of-other id other ss n = other_id id other (ss ++ []) [] n

pub of_track-append : (id : ℕ) (cs ds : List PlacedChunk) → of_track id (cs ++ ds) ≡ of_track id cs ++ of_track id ds
unfolding of_track
of_track-append id [] ds = refl
of_track-append id (c ∷ cs) ds =
    elim (eqb c.track_id id) as
    (λ b. cond b (c ∷ of_track id (cs ++ ds)) (of_track id (cs ++ ds))
    ≡ cond b (c ∷ of_track id cs) (of_track id cs) ++ of_track id ds)
    [ true ↦ ap (λ (xs : List PlacedChunk). c ∷ xs) (of_track-append id cs ds) | false ↦ of_track-append id cs ds ]

pub of_track-one : (id count offset : ℕ)
    → of_track id (record { track_id = id; count = count; offset = offset } ∷ [])
    ≡ record { track_id = id; count = count; offset = offset } ∷ []
unfolding of_track
of_track-one id count offset = same_id id (record { track_id = id; count = count; offset = offset } ∷ []) []

pub of_track-other : (id other count offset : ℕ) → id ≢ other
    → of_track other (record { track_id = id; count = count; offset = offset } ∷ []) ≡ []
unfolding of_track
of_track-other id other count offset n =
    other_id id other (record { track_id = id; count = count; offset = offset } ∷ []) [] n

pub placed_from-append : (place : ℕ) (cs ds : List Chunk)
    → placed_from place (cs ++ ds) ≡ placed_from place cs ++ placed_from (place + length (chunk_bytes cs)) ds
unfolding placed_from
placed_from-append place [] ds = ap (λ n. placed_from n ds) (let e : place ≡ place + 0 = omega arith in e)
placed_from-append place (c ∷ cs) ds =
    let one : PlacedChunk = record { track_id = c.track_id; count = length c.samples; offset = place } in
    let next = place + length (sample_bytes c.samples) in
    let further : next + length (chunk_bytes cs) ≡ place + length (chunk_bytes (c ∷ cs)) =
    omega (arith, length-append (sample_bytes c.samples) (chunk_bytes cs)) in
    ap (λ (xs : List PlacedChunk). one ∷ xs)
    (placed_from-append next cs ds ∙ ap (λ n. placed_from next cs ++ placed_from n ds) further)

-- What is pending of each track, as its last chunk.

-- the bytes of what is pending, track after track
abbrev pub pending_bytes : List TrackState → List ℕ
pending_bytes ts = flat_map (λ (t : TrackState). sample_bytes t.pending) ts

chunk_of-bytes : (id : ℕ) (ss : List Sample) → chunk_bytes (chunk_of id ss) ≡ sample_bytes ss
chunk_of-bytes id [] = refl
chunk_of-bytes id (s ∷ ss) = append-nil (sample_bytes (s ∷ ss))

chunk_of-samples : (id : ℕ) (ss : List Sample) → samples_of id (chunk_of id ss) ≡ ss
unfolding samples_of
chunk_of-samples id [] = refl
chunk_of-samples id (s ∷ ss) = samples_of-one id (s ∷ ss)

chunk_of-others : (id other : ℕ) (ss : List Sample) → id ≢ other → samples_of other (chunk_of id ss) ≡ []
unfolding samples_of
chunk_of-others id other [] n = refl
chunk_of-others id other (s ∷ ss) n = samples_of-other id other (s ∷ ss) n

chunk_of-placed : (id place : ℕ) (ss : List Sample)
    → of_track id (placed_from place (chunk_of id ss)) ≡ placed_from place (chunk_of id ss)
unfolding of_track placed_from
chunk_of-placed id place [] = refl
chunk_of-placed id place (s ∷ ss) = of_track-one id (length (s ∷ ss)) place

chunk_of-placed_other : (id other place : ℕ) (ss : List Sample) → id ≢ other
    → of_track other (placed_from place (chunk_of id ss)) ≡ []
unfolding of_track placed_from
chunk_of-placed_other id other place [] n = refl
chunk_of-placed_other id other place (s ∷ ss) n = of_track-other id other (length (s ∷ ss)) place n

pub last_chunks-bytes : (id : ℕ) (ts : List TrackState) → chunk_bytes (last_chunks id ts) ≡ pending_bytes ts
unfolding last_chunks
last_chunks-bytes id [] = refl
last_chunks-bytes id (t ∷ ts) =
    chunk_bytes-append (chunk_of id t.pending) (last_chunks (id + 1) ts)
    ∙ ap₂ (λ (x y : List ℕ). x ++ y) (chunk_of-bytes id t.pending) (last_chunks-bytes (id + 1) ts)

-- of earlier ids there is none
samples_before : (id other : ℕ) (ts : List TrackState) → other < id → samples_of other (last_chunks id ts) ≡ []
unfolding last_chunks samples_of
samples_before id other [] l = refl
samples_before id other (t ∷ ts) l =
    let n : id ≢ other = omega arith in
    samples_of-append other (chunk_of id t.pending) (last_chunks (id + 1) ts)
    ∙ ap₂ (λ (x y : List Sample). x ++ y) (chunk_of-others id other t.pending n)
    (samples_before (id + 1) other ts (omega arith))

placed_before : (place id other : ℕ) (ts : List TrackState) → other < id
    → of_track other (placed_from place (last_chunks id ts)) ≡ []
unfolding last_chunks placed_from of_track
placed_before place id other [] l = refl
placed_before place id other (t ∷ ts) l =
    let n : id ≢ other = omega arith in
    let next = place + length (chunk_bytes (chunk_of id t.pending)) in
    ap (of_track other) (placed_from-append place (chunk_of id t.pending) (last_chunks (id + 1) ts))
    ∙ of_track-append other (placed_from place (chunk_of id t.pending)) (placed_from next (last_chunks (id + 1) ts))
    ∙ ap₂ (λ (x y : List PlacedChunk). x ++ y) (chunk_of-placed_other id other place t.pending n)
    (placed_before next (id + 1) other ts (omega arith))

-- the samples of a track are those that were pending
pub last_chunks-samples : (id u : ℕ) (ts : List TrackState)
    → samples_of (id + u) (last_chunks id ts) ≡ (get_or ts u no_track).pending
unfolding last_chunks samples_of
last_chunks-samples id u [] = refl
last_chunks-samples id zero (t ∷ ts) =
    let same : id + 0 ≡ id = omega arith in
    ap (λ v. samples_of v (last_chunks id (t ∷ ts))) same
    ∙ samples_of-append id (chunk_of id t.pending) (last_chunks (id + 1) ts)
    ∙ ap₂ (λ (x y : List Sample). x ++ y) (chunk_of-samples id t.pending)
    (samples_before (id + 1) id ts (omega arith))
    ∙ append-nil t.pending
last_chunks-samples id (suc u) (t ∷ ts) =
    let n : id ≢ id + suc u = omega arith in
    let further : id + suc u ≡ (id + 1) + u = omega arith in
    samples_of-append (id + suc u) (chunk_of id t.pending) (last_chunks (id + 1) ts)
    ∙ ap₂ (λ (x y : List Sample). x ++ y) (chunk_of-others id (id + suc u) t.pending n)
    (ap (λ v. samples_of v (last_chunks (id + 1) ts)) further ∙ last_chunks-samples (id + 1) u ts)

-- and its chunk lies after what was pending of the tracks before it
pub last_chunks-placed : (place id u : ℕ) (ts : List TrackState) → u < length ts
    → of_track (id + u) (placed_from place (last_chunks id ts))
    ≡ placed_from (place + length (pending_bytes (take u ts))) (chunk_of (id + u) (get_or ts u no_track).pending)
unfolding last_chunks
last_chunks-placed place id u [] l = absurd (omega arith)
last_chunks-placed place id zero (t ∷ ts) l =
    let same : id + 0 ≡ id = omega arith in
    let here : place ≡ place + 0 = omega arith in
    let next = place + length (chunk_bytes (chunk_of id t.pending)) in
    ap (λ v. of_track v (placed_from place (last_chunks id (t ∷ ts)))) same
    ∙ ap (of_track id) (placed_from-append place (chunk_of id t.pending) (last_chunks (id + 1) ts))
    ∙ of_track-append id (placed_from place (chunk_of id t.pending)) (placed_from next (last_chunks (id + 1) ts))
    ∙ ap₂ (λ (x y : List PlacedChunk). x ++ y) (chunk_of-placed id place t.pending)
    (placed_before next (id + 1) id ts (omega arith))
    ∙ append-nil (placed_from place (chunk_of id t.pending))
    ∙ ap₂ (λ (v n : ℕ). placed_from n (chunk_of v t.pending)) (sym same) here
last_chunks-placed place id (suc u) (t ∷ ts) l =
    let n : id ≢ id + suc u = omega arith in
    let further : id + suc u ≡ (id + 1) + u = omega arith in
    let next = place + length (chunk_bytes (chunk_of id t.pending)) in
    let more : next + length (pending_bytes (take u ts)) ≡ place + length (pending_bytes (take (suc u) (t ∷ ts))) =
    omega (
      arith,
      ap length (chunk_of-bytes id t.pending),
      length-append (sample_bytes t.pending) (pending_bytes (take u ts)),
    ) in
    ap (of_track (id + suc u)) (placed_from-append place (chunk_of id t.pending) (last_chunks (id + 1) ts))
    ∙ of_track-append (id + suc u) (placed_from place (chunk_of id t.pending))
    (placed_from next (last_chunks (id + 1) ts))
    ∙ ap₂ (λ (x y : List PlacedChunk). x ++ y) (chunk_of-placed_other id (id + suc u) place t.pending n)
    (ap (λ v. of_track v (placed_from next (last_chunks (id + 1) ts))) further
    ∙ last_chunks-placed next (id + 1) u ts (omega arith)
    ∙ ap₂ (λ (v m : ℕ). placed_from m (chunk_of v (get_or ts u no_track).pending)) (sym further) more)
