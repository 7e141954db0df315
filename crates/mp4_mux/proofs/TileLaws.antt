-- The samples of chunks lie one after the other, and those of a track where its tables lead.
use Rattle.std.proofs.Common.{◌≡◌, ℕ, ◌+◌, true, false, cond, eqb, List, [], ◌∷◌, ◌++◌, length, take, drop, map, sum}
use Rattle.std.proofs.Common.{refl, sym, ap, ap₂, ◌∙◌, arith}
use Rattle.std.specs.List.{filter}
use Rattle.std.proofs.lemmas.List.{take_at, drop_at, map-append, length-map, length-append}
use Rattle.std.proofs.lemmas.List.Concat.{flat_map-append}
use Rattle.std.proofs.lemmas.List.Elements.{filter-append}
use Rattle.std.proofs.lemmas.List.Sums.{sum_by-cons}
use Rattle.mp4_table.specs.Chunks.{laid_from, places}
use Rattle.mp4_samples.specs.Samples.{Sample}
use Rattle.mp4_mux.specs.Chunks.{Chunk, sample_bytes, chunk_bytes, samples_of, placed_from, of_track}
use Rattle.mp4_mux.specs.FinishedTrack.{counts_of, offsets_of}
use Rattle.mp4_mux.specs.TrackHeaders.{PlacedChunk}
use Rattle.mp4_mux.specs.Written.{sizes_of, all_samples, SampleRange, ranges_from, ranges_of}

laid_from-append : (place : ℕ) (ns ms : List ℕ)
    → laid_from place (ns ++ ms) ≡ laid_from place ns ++ laid_from (place + sum ns) ms
unfolding laid_from
laid_from-append place [] ms = ap (λ n. laid_from n ms) (let e : place ≡ place + 0 = omega arith in e)
laid_from-append place (n ∷ ns) ms =
    let further : (place + n) + sum ns ≡ place + sum (n ∷ ns) = omega (arith, sum_by-cons (λ x. x) n ns) in
    ap (λ rs. (place, n) ∷ rs)
    (laid_from-append (place + n) ns ms ∙ ap (λ k. laid_from (place + n) ns ++ laid_from k ms) further)

-- samples have as many bytes as their sizes say
pub sum-sizes_of : (ss : List Sample) → sum (sizes_of ss) ≡ length (sample_bytes ss)
sum-sizes_of [] = refl
sum-sizes_of (s ∷ ss) =
    omega (
      arith,
      sum_by-cons (λ x. x) (length s.bytes) (sizes_of ss),
      sum-sizes_of ss,
      length-append s.bytes (sample_bytes ss),
    )

abbrev pub owned : ℕ → List (ℕ × ℕ) → List SampleRange
owned id rs = map (λ (r : ℕ × ℕ). record { track_id = id; range = r }) rs

ranges-owned : (id : ℕ) (rs : List (ℕ × ℕ)) → map (λ (r : SampleRange). r.range) (owned id rs) ≡ rs
ranges-owned id [] = refl
ranges-owned id (r ∷ rs) = ap (λ xs. r ∷ xs) (ranges-owned id rs)

-- the ranges of all samples lie one after the other
pub ranges_from-in_order : (place : ℕ) (cs : List Chunk)
    → map (λ (r : SampleRange). r.range) (ranges_from place cs) ≡ laid_from place (sizes_of (all_samples cs))
unfolding ranges_from laid_from
ranges_from-in_order place [] = refl
ranges_from-in_order place (c ∷ cs) =
    let next = place + length (sample_bytes c.samples) in
    map-append (λ (r : SampleRange). r.range) (owned c.track_id (laid_from place (sizes_of c.samples)))
    (ranges_from next cs)
    ∙ ap₂ (λ (x y : List (ℕ × ℕ)). x ++ y) (ranges-owned c.track_id (laid_from place (sizes_of c.samples)))
    (ranges_from-in_order next cs)
    ∙ ap (λ n. laid_from place (sizes_of c.samples) ++ laid_from (place + n) (sizes_of (all_samples cs)))
    (sym (sum-sizes_of c.samples))
    ∙ sym (laid_from-append place (sizes_of c.samples) (sizes_of (all_samples cs)))
    ∙ ap (laid_from place) (sym (map-append (λ (s : Sample). length s.bytes) c.samples (all_samples cs)))

-- and take all bytes of the chunks
pub all_samples-bytes : (cs : List Chunk) → sample_bytes (all_samples cs) ≡ chunk_bytes cs
all_samples-bytes [] = refl
all_samples-bytes (c ∷ cs) =
    flat_map-append (λ (s : Sample). s.bytes) c.samples (all_samples cs)
    ∙ ap (λ bs. sample_bytes c.samples ++ bs) (all_samples-bytes cs)

pub ranges_of-append : (id : ℕ) (rs us : List SampleRange)
    → ranges_of id (rs ++ us) ≡ ranges_of id rs ++ ranges_of id us
ranges_of-append id rs us =
    let F = filter (λ (r : SampleRange). eqb r.track_id id) in
    ap (map (λ (r : SampleRange). r.range)) (filter-append (λ (r : SampleRange). eqb r.track_id id) rs us)
    ∙ map-append (λ (r : SampleRange). r.range) (F rs) (F us)

pub ranges_of-owned : (other id : ℕ) (rs : List (ℕ × ℕ)) → ranges_of id (owned other rs) ≡ cond (eqb other id) rs []
ranges_of-owned other id [] =
    elim (eqb other id) as (λ b. ◌≡◌ {A = List (ℕ × ℕ)} [] (cond b [] [])) [ true ↦ refl | false ↦ refl ]
ranges_of-owned other id (r ∷ rs) =
    let one : SampleRange = record { track_id = other; range = r } in
    let later = filter (λ (x : SampleRange). eqb x.track_id id) (owned other rs) in
    let ind = ranges_of-owned other id rs in
    (elim (eqb other id) as
    (λ b. map (λ (x : SampleRange). x.range) later ≡ cond b rs []
    → map (λ (x : SampleRange). x.range) (cond b (one ∷ later) later) ≡ cond b (r ∷ rs) [])
    [ true ↦ λ e. ap (λ xs. r ∷ xs) e | false ↦ λ e. e ]) ind

-- where the tables of a track lead whose chunks lie there
abbrev pub table_places : ℕ → ℕ → List Chunk → List (ℕ × ℕ)
table_places id place cs =
    places (counts_of (of_track id (placed_from place cs))) (offsets_of (of_track id (placed_from place cs)))
    (sizes_of (samples_of id cs))

-- that is where its samples are
pub ranges_of-table : (id place : ℕ) (cs : List Chunk) → ranges_of id (ranges_from place cs) ≡ table_places id place cs
unfolding ranges_from placed_from of_track samples_of places
ranges_of-table id place [] = refl
ranges_of-table id place (c ∷ cs) =
    let next = place + length (sample_bytes c.samples) in
    let here = laid_from place (sizes_of c.samples) in
    let one : PlacedChunk = record { track_id = c.track_id; count = length c.samples; offset = place } in
    let later = of_track id (placed_from next cs) in
    let ns = counts_of later in
    let os = offsets_of later in
    let sizes : sizes_of (c.samples ++ samples_of id cs) ≡ sizes_of c.samples ++ sizes_of (samples_of id cs) =
    map-append (λ (s : Sample). length s.bytes) c.samples (samples_of id cs) in
    let n : length (sizes_of c.samples) ≡ length c.samples = length-map c.samples (λ (s : Sample). length s.bytes) in
    ranges_of-append id (owned c.track_id here) (ranges_from next cs)
    ∙ ap₂ (λ (x y : List (ℕ × ℕ)). x ++ y) (ranges_of-owned c.track_id id here) (ranges_of-table id next cs)
    ∙ (elim (eqb c.track_id id) as
    (λ b. cond b here [] ++ places ns os (sizes_of (samples_of id cs))
    ≡ places (counts_of (cond b (one ∷ later) later)) (offsets_of (cond b (one ∷ later) later))
    (sizes_of (cond b (c.samples ++ samples_of id cs) (samples_of id cs)))) [
      | true ↦ ap₂ (λ (x y : List ℕ). laid_from place x ++ places ns os y)
          (sym (ap (take (length c.samples)) sizes
          ∙ take_at (sizes_of c.samples) (sizes_of (samples_of id cs)) (length c.samples) n))
          (sym (ap (drop (length c.samples)) sizes
          ∙ drop_at (sizes_of c.samples) (sizes_of (samples_of id cs)) (length c.samples) n))
      | false ↦ refl
    ])
