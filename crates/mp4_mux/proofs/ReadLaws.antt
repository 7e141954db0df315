-- The bytes of samples are read where the samples of chunks lie.
use Rattle.std.proofs.Common.{◌≡◌, ℕ, ◌+◌, ◌≤◌, true, false, cond, eqb, List, [], ◌∷◌, ◌++◌, length, take, drop, map}
use Rattle.std.proofs.Common.{refl, sym, ap, ap₂, subst, ◌∙◌, append_assoc, arith}
use Rattle.std.specs.List.{AllByRecursion}
use Rattle.std.proofs.lemmas.List.{take_at, drop_at, map-append, length-append}
use Rattle.mp4_table.specs.Chunks.{laid_from}
use Rattle.mp4_samples.specs.Samples.{Sample}
use Rattle.mp4_mux.specs.Chunks.{Chunk, sample_bytes, chunk_bytes, samples_of}
use Rattle.mp4_mux.proofs.EndedStates.{all-append}
use Rattle.mp4_mux.specs.Written.{sizes_of, ranges_from, ranges_of}
use Rattle.mp4_mux.proofs.TileLaws.{ranges_of-append, ranges_of-owned, owned}

-- the bytes of a range
abbrev pub bytes_at : List ℕ → ℕ × ℕ → List ℕ
bytes_at file r = take r.1 (drop r.0 file)

-- samples that lie one after the other
read_laid : (before : List ℕ) (ss : List Sample) (more : List ℕ)
    → map (bytes_at (before ++ (sample_bytes ss ++ more))) (laid_from (length before) (sizes_of ss))
    ≡ map (λ (s : Sample). s.bytes) ss
unfolding laid_from
read_laid before [] more = refl
read_laid before (s ∷ ss) more =
    let file = before ++ (sample_bytes (s ∷ ss) ++ more) in
    let file_is : file ≡ before ++ (s.bytes ++ (sample_bytes ss ++ more)) =
    ap (λ bs. before ++ bs) (append_assoc s.bytes (sample_bytes ss) more) in
    let further : file ≡ (before ++ s.bytes) ++ (sample_bytes ss ++ more) =
    file_is ∙ sym (append_assoc before s.bytes (sample_bytes ss ++ more)) in
    ap₂ (λ (x : List ℕ) (xs : List (List ℕ)). x ∷ xs)
    (ap (λ bs. take (length s.bytes) (drop (length before) bs)) file_is
    ∙ ap (take (length s.bytes)) (drop_at before (s.bytes ++ (sample_bytes ss ++ more)) (length before) refl)
    ∙ take_at s.bytes (sample_bytes ss ++ more) (length s.bytes) refl)
    (ap₂ (λ (f : List ℕ) n. map (bytes_at f) (laid_from n (sizes_of ss))) further (sym (length-append before s.bytes))
    ∙ read_laid (before ++ s.bytes) ss more)

-- the ranges of a track have the bytes of its samples
pub read_ranges : (before : List ℕ) (cs : List Chunk) (more : List ℕ) (id : ℕ)
    → map (bytes_at (before ++ (chunk_bytes cs ++ more))) (ranges_of id (ranges_from (length before) cs))
    ≡ map (λ (s : Sample). s.bytes) (samples_of id cs)
unfolding ranges_from samples_of
read_ranges before [] more id = refl
read_ranges before (c ∷ cs) more id =
    let bs = sample_bytes c.samples in
    let file = before ++ ((bs ++ chunk_bytes cs) ++ more) in
    let here = laid_from (length before) (sizes_of c.samples) in
    let later = ranges_of id (ranges_from (length before + length bs) cs) in
    let file_is : file ≡ before ++ (bs ++ (chunk_bytes cs ++ more)) =
    ap (λ xs. before ++ xs) (append_assoc bs (chunk_bytes cs) more) in
    let further : file ≡ (before ++ bs) ++ (chunk_bytes cs ++ more) =
    file_is ∙ sym (append_assoc before bs (chunk_bytes cs ++ more)) in
    let first : map (bytes_at file) here ≡ map (λ (s : Sample). s.bytes) c.samples =
    ap (λ f. map (bytes_at f) here) file_is ∙ read_laid before c.samples (chunk_bytes cs ++ more) in
    let rest : map (bytes_at file) later ≡ map (λ (s : Sample). s.bytes) (samples_of id cs) =
    ap₂ (λ (f : List ℕ) n. map (bytes_at f) (ranges_of id (ranges_from n cs))) further (sym (length-append before bs))
    ∙ read_ranges (before ++ bs) cs more id in
    ap (map (bytes_at file))
    (ranges_of-append id (owned c.track_id here) (ranges_from (length before + length bs) cs)
    ∙ ap (λ (rs : List (ℕ × ℕ)). rs ++ later) (ranges_of-owned c.track_id id here))
    ∙ (elim (eqb c.track_id id) as
    (λ b. map (bytes_at file) (cond b here [] ++ later)
    ≡ map (λ (s : Sample). s.bytes) (cond b (c.samples ++ samples_of id cs) (samples_of id cs))) [
      | true ↦ map-append (bytes_at file) here later
          ∙ ap₂ (λ (x y : List (List ℕ)). x ++ y) first rest
          ∙ sym (map-append (λ (s : Sample). s.bytes) c.samples (samples_of id cs))
      | false ↦ rest
    ])

laid-within : (place : ℕ) (ss : List Sample)
    → AllByRecursion (λ (r : ℕ × ℕ). r.0 + r.1 ≤ place + length (sample_bytes ss)) (laid_from place (sizes_of ss))
unfolding laid_from
laid-within place [] = tt
laid-within place (s ∷ ss) =
    let all = length-append s.bytes (sample_bytes ss) in
    let same : (place + length s.bytes) + length (sample_bytes ss) ≡ place + length (sample_bytes (s ∷ ss)) =
    omega (arith, all) in (
      omega (arith, all),
      subst (λ n. AllByRecursion (λ (r : ℕ × ℕ). r.0 + r.1 ≤ n) (laid_from (place + length s.bytes) (sizes_of ss))) same
          (laid-within (place + length s.bytes) ss),
    )

weaker : (n m : ℕ) → n ≤ m → (rs : List (ℕ × ℕ)) → AllByRecursion (λ (r : ℕ × ℕ). r.0 + r.1 ≤ n) rs
    → AllByRecursion (λ (r : ℕ × ℕ). r.0 + r.1 ≤ m) rs
weaker n m l [] h = tt
weaker n m l (r ∷ rs) h = let a = h.0 in (omega (arith, a, l), weaker n m l rs h.1)

-- and none of them ends after the chunks
pub ranges-within : (id place : ℕ) (cs : List Chunk)
    → AllByRecursion (λ (r : ℕ × ℕ). r.0 + r.1 ≤ place + length (chunk_bytes cs)) (ranges_of id (ranges_from place cs))
unfolding ranges_from
ranges-within id place [] = tt
ranges-within id place (c ∷ cs) =
    let next = place + length (sample_bytes c.samples) in
    let here = laid_from place (sizes_of c.samples) in
    let later = ranges_of id (ranges_from next cs) in
    let end = place + length (chunk_bytes (c ∷ cs)) in
    let all = length-append (sample_bytes c.samples) (chunk_bytes cs) in
    let Within : List (ℕ × ℕ) → Type 0 = AllByRecursion (λ (r : ℕ × ℕ). r.0 + r.1 ≤ end) in
    let first : Within here = weaker next end (omega (arith, all)) here (laid-within place c.samples) in
    let rest : Within later =
    weaker (next + length (chunk_bytes cs)) end (omega (arith, all)) later (ranges-within id next cs) in
    subst Within
    (sym (ranges_of-append id (owned c.track_id here) (ranges_from next cs)
    ∙ ap (λ (rs : List (ℕ × ℕ)). rs ++ later) (ranges_of-owned c.track_id id here)))
    (elim (eqb c.track_id id) as (λ b. Within (cond b here [] ++ later))
    [ true ↦ all-append (λ (r : ℕ × ℕ). r.0 + r.1 ≤ end) here later first rest | false ↦ rest ])
