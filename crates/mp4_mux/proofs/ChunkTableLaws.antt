-- The table of chunks: it says of each chunk how many samples it has, and has its first samples.
use Rattle.std.proofs.Common.{◌≡◌, ℕ, zero, suc, ◌+◌, ◌-◌, ◌*◌, ◌<◌, ◌≤◌, cond, List, [], ◌∷◌}
use Rattle.std.proofs.Common.{length, get_or, slice_get, eqb, leb, nat_eq, Option, Some, None, refl, sym, ap}
use Rattle.std.proofs.Common.{◌∙◌, arith}
use Rattle.std.proofs.Common.{IsSomeAnd, subst, option_map, unwrap_or}
use Rattle.std.specs.List.{All, AllAdjacentBelow, fold}
use Rattle.std.proofs.lemmas.Bool.{cond_both, ne_eqb, eq-eqb, eqb-true, eqb-false, lt-leb, le-leb}
use Rattle.std.proofs.lemmas.List.{ext_get_or}
use Rattle.std.proofs.lemmas.List.Elements.{All-nil, All-cons, All-weaker, All-head, All-tail}
use Rattle.std.proofs.lemmas.List.Kept.{AllPairs-cons}
use Rattle.mp4_table.specs.declared.stsc.StscEntry.{StscEntry}
use Rattle.mp4_table.specs.Chunks.{samples_in, counts}
use Rattle.mp4_table.specs.Runs.{changes_after, changes}
use Rattle.mp4_table.specs.Stsc.{HasFirstSamples}
use Rattle.mp4_samples.proofs.ChunkLaws.{Rises, length-counts, get_or-counts}
use Rattle.mp4_mux.specs.SampleTables.{chunk_entries_from, stsc_for}

-- the entry of a chunk that has another number of samples than the one before
abbrev entry_at : ℕ → ℕ → ℕ → StscEntry
entry_at chunk sample m =
    record { first_chunk = chunk; samples_per_chunk = m; sample_description_index = 1; first_sample = sample }

-- an entry is that of chunk c where its first chunk is at most c
abbrev step : ℕ → Option StscEntry → StscEntry → Option StscEntry
step c found e = cond (leb e.first_chunk c) (Some e) found

-- how many samples a chunk of that entry has
abbrev count_of : Option StscEntry → ℕ
count_of found = unwrap_or (option_map (λ (e : StscEntry). e.samples_per_chunk) found) 0

from_here : (c : ℕ) (e : StscEntry) (es : List StscEntry) (found : Option StscEntry) → e.first_chunk ≤ c
    → fold (step c) found (e ∷ es) ≡ fold (step c) (Some e) es
from_here c e es found h = ap (λ b. fold (step c) (cond b (Some e) found) es) (le-leb e.first_chunk c h)

not_yet : (c : ℕ) (e : StscEntry) (es : List StscEntry) (found : Option StscEntry) → c < e.first_chunk
    → fold (step c) found (e ∷ es) ≡ fold (step c) found es
not_yet c e es found h = ap (λ b. fold (step c) (cond b (Some e) found) es) (lt-leb e.first_chunk c h)

-- no chunk before these has one of their entries
none_found : (c n chunk sample : ℕ) (ms : List ℕ) (found : Option StscEntry) → c < chunk
    → fold (step c) found (chunk_entries_from n chunk sample ms) ≡ found
unfolding chunk_entries_from
none_found c n chunk sample [] found h = refl
none_found c n chunk sample (m ∷ ms) found h =
    let rest = chunk_entries_from m (chunk + 1) (sample + m) ms in
    cond_both (eqb m n) rest (entry_at chunk sample m ∷ rest) (λ es. fold (step c) found es ≡ found)
    (λ _. none_found c m (chunk + 1) (sample + m) ms found (omega arith))
    (λ _. not_yet c (entry_at chunk sample m) rest found h
    ∙ none_found c m (chunk + 1) (sample + m) ms found (omega arith))

-- chunk j after the first of these, where before them is an entry of chunks with n samples
count_found : (n chunk sample : ℕ) (ms : List ℕ) (found : Option StscEntry) (c j : ℕ) → count_of found ≡ n
    → chunk + j ≡ c → j < length ms
    → count_of (fold (step c) found (chunk_entries_from n chunk sample ms)) ≡ get_or ms j 0
unfolding chunk_entries_from
count_found n chunk sample [] found c j is at h = absurd (omega arith)
count_found n chunk sample (m ∷ ms) found c zero is at h =
    let rest = chunk_entries_from m (chunk + 1) (sample + m) ms in
    let past : c < chunk + 1 = omega (arith, at) in
    cond_both (eqb m n) rest (entry_at chunk sample m ∷ rest) (λ es. count_of (fold (step c) found es) ≡ m)
    (λ same. ap count_of (none_found c m (chunk + 1) (sample + m) ms found past) ∙ is ∙ sym (eqb-true m n same))
    (λ _. ap count_of (from_here c (entry_at chunk sample m) rest found (omega (arith, at))
    ∙ none_found c m (chunk + 1) (sample + m) ms (Some (entry_at chunk sample m)) past))
count_found n chunk sample (m ∷ ms) found c (suc j) is at h =
    let rest = chunk_entries_from m (chunk + 1) (sample + m) ms in
    let next : chunk + 1 + j ≡ c = omega (arith, at) in
    cond_both (eqb m n) rest (entry_at chunk sample m ∷ rest)
    (λ es. count_of (fold (step c) found es) ≡ get_or ms j 0)
    (λ same. count_found m (chunk + 1) (sample + m) ms found c j (is ∙ sym (eqb-true m n same)) next (omega arith))
    (λ _. ap count_of (from_here c (entry_at chunk sample m) rest found (omega (arith, at)))
    ∙ count_found m (chunk + 1) (sample + m) ms (Some (entry_at chunk sample m)) c j refl next (omega arith))

samples_in-stsc_for : (ns : List ℕ) (c : ℕ) → c < length ns → samples_in (stsc_for ns).entries (c + 1) ≡ get_or ns c 0
unfolding samples_in stsc_for
samples_in-stsc_for ns c h = count_found 0 1 1 ns None (c + 1) c refl (omega arith) h

-- each chunk has its number of samples
pub counts-stsc_for : (ns : List ℕ) → counts (stsc_for ns).entries (length ns) ≡ ns
counts-stsc_for ns =
    let all = length-counts (stsc_for ns).entries (length ns) in
    ext_get_or 0 (counts (stsc_for ns).entries (length ns)) ns all
    (λ c h. let at : c < length ns = omega (arith, all, h) in
    get_or-counts (stsc_for ns).entries (length ns) c at ∙ samples_in-stsc_for ns c at)

-- the entries are those of these chunks
within : (n chunk sample : ℕ) (ms : List ℕ)
    → All (λ e. (chunk ≤ e.first_chunk) × (e.first_chunk < chunk + length ms)) (chunk_entries_from n chunk sample ms)
unfolding chunk_entries_from
within n chunk sample [] = All-nil (λ (e : StscEntry). (chunk ≤ e.first_chunk) × (e.first_chunk < chunk + 0))
within n chunk sample (m ∷ ms) =
    let Within : StscEntry → Type 0 = λ e. (chunk ≤ e.first_chunk) × (e.first_chunk < chunk + suc (length ms)) in
    let rest = chunk_entries_from m (chunk + 1) (sample + m) ms in
    let later : All Within rest =
    All-weaker (λ e. (chunk + 1 ≤ e.first_chunk) × (e.first_chunk < chunk + 1 + length ms)) Within
    (λ e p. (omega (arith, p.0), omega (arith, p.1))) rest (within m (chunk + 1) (sample + m) ms) in
    cond_both (eqb m n) rest (entry_at chunk sample m ∷ rest) (All Within) (λ _. later)
    (λ _. All-cons Within (entry_at chunk sample m) rest (omega arith, omega arith) later)

rise : (n chunk sample : ℕ) (ms : List ℕ) → Rises (chunk_entries_from n chunk sample ms)
unfolding chunk_entries_from
rise n chunk sample [] = λ i j d p q. absurd (omega arith)
rise n chunk sample (m ∷ ms) =
    let rest = chunk_entries_from m (chunk + 1) (sample + m) ms in
    cond_both (eqb m n) rest (entry_at chunk sample m ∷ rest) Rises
    (λ _. rise m (chunk + 1) (sample + m) ms)
    (λ _. AllPairs-cons (λ (a b : StscEntry). a.first_chunk < b.first_chunk) (entry_at chunk sample m) rest
    (All-weaker (λ e. (chunk + 1 ≤ e.first_chunk) × (e.first_chunk < chunk + 1 + length ms))
    (λ e. chunk < e.first_chunk) (λ e p. omega (arith, p.0)) rest (within m (chunk + 1) (sample + m) ms))
    (rise m (chunk + 1) (sample + m) ms))

-- first chunks strictly rise
pub stsc_for-rises : (ns : List ℕ) → Rises (stsc_for ns).entries
unfolding stsc_for
stsc_for-rises ns = rise 0 1 1 ns

-- none is past the last chunk
pub first_chunks_within : (ns : List ℕ) → All (λ e. e.first_chunk ≤ length ns) (stsc_for ns).entries
unfolding stsc_for
first_chunks_within ns =
    All-weaker (λ e. (1 ≤ e.first_chunk) × (e.first_chunk < 1 + length ns)) (λ e. e.first_chunk ≤ length ns)
    (λ e p. omega (arith, p.1)) (chunk_entries_from 0 1 1 ns) (within 0 1 1 ns)

-- what holds of each count holds of each entry's
counts_of_entries : (P : ℕ → Type 0) (n chunk sample : ℕ) (ms : List ℕ) → All P ms
    → All (λ e. P e.samples_per_chunk) (chunk_entries_from n chunk sample ms)
unfolding chunk_entries_from
counts_of_entries P n chunk sample [] h = All-nil (λ (e : StscEntry). P e.samples_per_chunk)
counts_of_entries P n chunk sample (m ∷ ms) h =
    let rest = chunk_entries_from m (chunk + 1) (sample + m) ms in
    let later = counts_of_entries P m (chunk + 1) (sample + m) ms (All-tail P m ms h) in
    cond_both (eqb m n) rest (entry_at chunk sample m ∷ rest) (All (λ e. P e.samples_per_chunk)) (λ _. later)
    (λ _. All-cons (λ (e : StscEntry). P e.samples_per_chunk) (entry_at chunk sample m) rest (All-head P m ms h) later)

pub samples_per_chunk-stsc_for : (P : ℕ → Type 0) (ns : List ℕ) → All P ns
    → All (λ e. P e.samples_per_chunk) (stsc_for ns).entries
unfolding stsc_for
samples_per_chunk-stsc_for P ns h = counts_of_entries P 0 1 1 ns h

-- no chunk, no entry
no_entry : (stsc_for []).entries ≡ []
unfolding stsc_for chunk_entries_from
no_entry = refl

-- a first chunk that has samples begins the first entry
first_entry : (n : ℕ) (ns : List ℕ) → 1 ≤ n
    → entry_at 1 1 n ∷ chunk_entries_from n 2 (1 + n) ns ≡ (stsc_for (n ∷ ns)).entries
unfolding stsc_for chunk_entries_from
first_entry n ns h = rw (ne_eqb n 0 (λ e. omega (arith, e))) refl

pub first_chunk-stsc_for : (ns : List ℕ) → 0 < length ns → All (λ n. 1 ≤ n) ns
    → IsSomeAnd (slice_get (stsc_for ns).entries 0) (λ e. e.first_chunk ≡ 1)
first_chunk-stsc_for [] h some = absurd (omega arith)
first_chunk-stsc_for (n ∷ ns) h some = rw (← first_entry n ns (All-head (λ (n : ℕ). 1 ≤ n) n ns some)) refl

-- an entry changes where the count does
length-chunk_entries_from : (n chunk sample : ℕ) (ms : List ℕ)
    → length (chunk_entries_from n chunk sample ms) ≡ changes_after nat_eq n ms
unfolding chunk_entries_from changes_after
length-chunk_entries_from n chunk sample [] = refl
length-chunk_entries_from n chunk sample (m ∷ ms) =
    let rest = chunk_entries_from m (chunk + 1) (sample + m) ms in
    let later = length-chunk_entries_from m (chunk + 1) (sample + m) ms in
    cond_both (eqb m n) rest (entry_at chunk sample m ∷ rest)
    (λ es. length es ≡ cond (eqb n m) 0 1 + changes_after nat_eq m ms)
    (λ same. rw (eq-eqb n m (sym (eqb-true m n same))) (omega (arith, later)))
    (λ other. rw (ne_eqb n m (λ e. eqb-false m n other (sym e))) (omega (arith, later)))

pub length-stsc_for_changes_after : (ns : List ℕ) → length (stsc_for ns).entries ≡ changes_after nat_eq 0 ns
unfolding stsc_for
length-stsc_for_changes_after ns = length-chunk_entries_from 0 1 1 ns

-- as few entries as there can be
pub length-stsc_for : (ns : List ℕ) → All (λ n. 1 ≤ n) ns → length (stsc_for ns).entries ≡ changes nat_eq ns
unfolding changes
length-stsc_for [] h = ap length no_entry
length-stsc_for (n ∷ ns) h =
    rw (← first_entry n ns (All-head (λ (n : ℕ). 1 ≤ n) n ns h))
    (omega (arith, length-chunk_entries_from n 2 (1 + n) ns))

-- one entry after another
abbrev Follows : StscEntry → StscEntry → Type 0
Follows a b = (a.first_chunk ≤ b.first_chunk)
    × (b.first_sample ≡ a.first_sample + (b.first_chunk - a.first_chunk) * a.samples_per_chunk)

adjacent-cons : (a b : StscEntry) (es : List StscEntry) → Follows a b
    → AllAdjacentBelow Follows (b ∷ es) (length (b ∷ es))
    → AllAdjacentBelow Follows (a ∷ b ∷ es) (length (a ∷ b ∷ es))
adjacent-cons a b es h rest zero d lt = h
adjacent-cons a b es h rest (suc k) d lt =
    let next : suc k + 1 ≡ suc (k + 1) = omega arith in
    rw next (rest k d (omega arith))

-- entries after entry a, whose chunks have n samples: the next chunk is q chunks after its first
follow : (n chunk sample : ℕ) (ms : List ℕ) (a : StscEntry) (q : ℕ) → a.samples_per_chunk ≡ n
    → a.first_chunk + q ≡ chunk → a.first_sample + q * n ≡ sample
    → AllAdjacentBelow Follows (a ∷ chunk_entries_from n chunk sample ms)
    (length (a ∷ chunk_entries_from n chunk sample ms))
unfolding chunk_entries_from
follow n chunk sample [] a q is at begin = λ k d lt. absurd (omega arith)
follow n chunk sample (m ∷ ms) a q is at begin =
    let rest = chunk_entries_from m (chunk + 1) (sample + m) ms in
    let e = entry_at chunk sample m in
    cond_both (eqb m n) rest (e ∷ rest) (λ es. AllAdjacentBelow Follows (a ∷ es) (length (a ∷ es)))
    (λ same. let is_m : n ≡ m = sym (eqb-true m n same) in
    follow m (chunk + 1) (sample + m) ms a (q + 1) (is ∙ is_m) (omega (arith, at))
    (omega (arith, begin, ap (λ k. q * k) is_m)))
    (λ _. adjacent-cons a e rest (
      omega (arith, at),
      let far : chunk - a.first_chunk ≡ q = omega (arith, at) in
          rw (far, is) (sym begin),
    )
    (follow m (chunk + 1) (sample + m) ms e 1 refl refl (omega arith)))

-- each entry has the number of its first sample
pub stsc_for-has_first_samples : (ns : List ℕ) → All (λ n. 1 ≤ n) ns → HasFirstSamples (stsc_for ns).entries
stsc_for-has_first_samples [] h =
    subst HasFirstSamples (sym no_entry) (record {
      first = λ d lt. absurd (omega arith);
      chunks = λ k d lt. absurd (omega arith);
      next = λ k d lt. absurd (omega arith);
    })
stsc_for-has_first_samples (n ∷ ns) h =
    let each = follow n 2 (1 + n) ns (entry_at 1 1 n) 1 refl refl (omega arith) in
    subst HasFirstSamples (first_entry n ns (All-head (λ (n : ℕ). 1 ≤ n) n ns h)) (record {
      first = λ d lt. refl;
      chunks = λ k d lt. (each k d lt).0;
      next = λ k d lt. (each k d lt).1;
    })
