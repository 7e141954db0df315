-- In tables that agree the steps of the lookup answer the tables written out.
use Rattle.std.proofs.Common.{◌≡◌, ℕ, zero, suc, ◌+◌, ◌-◌, ◌*◌, ◌/◌, ◌%◌, ◌^◌, ◌<◌, ◌≤◌, Bool, true, false, cond}
use Rattle.std.proofs.Common.{List, [], ◌∷◌, length, get_or, take, drop, sum, replicate, Option, Some}
use Rattle.std.proofs.Common.{None, Result, Ok, Err, refl, sym, ap, ◌∙◌, arith, ⊎_elim}
use Rattle.std.proofs.Common.{pos}
use Rattle.std.specs.Prelude.{nat_le, nat_lt, slice_get, slice_range, IsSomeAnd}
use Rattle.std.proofs.lemmas.Bool.{lt-leb, lt-ltb, le-ltb, cases_lt, ne_eqb}
use Rattle.std.proofs.lemmas.List.{take-replicate, drop-replicate, get_or-replicate}
use Rattle.std.proofs.lemmas.List.{length-replicate}
use Rattle.std.proofs.lemmas.List.Folds.{sum_by-replicate}
use Rattle.std.proofs.lemmas.List.FromFn.{get_or-map-range_with_len, length-map-range_with_len}
use Rattle.std.proofs.lemmas.Option.{slice_get-get_or, slice_get_past}
use Rattle.mp4_table.specs.declared.stsc.StscEntry.{StscEntry}
use Rattle.mp4_table.specs.declared.stts.SttsEntry.{SttsEntry}
use Rattle.mp4_table.specs.declared.stsz.StszBox.{StszBox}
use Rattle.mp4_boxes.specs.declared.stbl.StblBox.{StblBox}
use Rattle.mp4_table.specs.Chunks.{counts}
use Rattle.mp4_table.specs.Stsc.{HasFirstSamples}
use Rattle.mp4_table.specs.Runs.{durations, rendering_offsets}
use Rattle.mp4_table.specs.Starts.{start_of}
use Rattle.mp4_codec.specs.Cause.{Cause, invalid_data, ◌>>=◌}
use Rattle.mp4_boxes.specs.Stbl.{sample_count}
use Rattle.mp4_samples.specs.declared.sample.Place.{Place}
use Rattle.mp4_samples.specs.Tables.{sizes, chunk_offsets, ctts_runs, is_sync_at}
use Rattle.mp4_samples.specs.Plain.{Consistent, plain, plain_at, sample_place, within_file, sample_places}
use Rattle.mp4_lookup.specs.Rule.{rule, located_at, entry_for, chunk_for, first_in_chunk, time_at}
use Rattle.mp4_lookup.proofs.PlaceLaws.{get_or-places}
use Rattle.mp4_samples.proofs.ChunkLaws.{first_chunk_positive, length-counts, get_or-counts, samples_in_is}
use Rattle.mp4_lookup.proofs.EntryLaws.{Fine, belongs, lies_at, entry_for_is, chunk_within}
use Rattle.mp4_lookup.proofs.EntryLaws.{chunk_past, chunk_le, sum-take-before}

-- the steps on the times
time_at_is : (runs : List SttsEntry) (track k : ℕ) → 1 ≤ k → k ≤ length (durations runs)
    → time_at runs track k ≡ Ok (get_or (durations runs) (k - 1) 0, start_of (durations runs) k)
unfolding time_at
time_at_is runs track k first within =
    rw (slice_get-get_or (durations runs) (k - 1) 0 (omega arith)) refl

-- the sizes do not depend on how many are asked for, as far as both go
pub sizes_agree : (z : StszBox) (m n s r : ℕ) → s + r ≤ m → s + r ≤ n
    → take r (drop s (sizes z m)) ≡ take r (drop s (sizes z n))
unfolding sizes
sizes_agree z m n s r h k =
    elim (nat_lt 0 z.sample_size) as
    (λ b. take r (drop s (cond b (replicate m z.sample_size) z.sample_sizes))
    ≡ take r (drop s (cond b (replicate n z.sample_size) z.sample_sizes))) [
      | true ↦ rw (
        drop-replicate s m z.sample_size,
        drop-replicate s n z.sample_size,
        take-replicate r (m - s) z.sample_size (omega arith),
        take-replicate r (n - s) z.sample_size (omega arith),
      ) refl
      | false ↦ refl
    ]

pub size_agrees : (z : StszBox) (m n j : ℕ) → j < m → j < n → j < length (sizes z n)
    → slice_get (sizes z m) j ≡ Some (get_or (sizes z n) j 0)
unfolding sizes
size_agrees z m n j h k q =
    (elim (nat_lt 0 z.sample_size) as (λ b. j < length (cond b (replicate n z.sample_size) z.sample_sizes)
    → slice_get (cond b (replicate m z.sample_size) z.sample_sizes) j
    ≡ Some (get_or (cond b (replicate n z.sample_size) z.sample_sizes) j 0)) [
      | true ↦ λ p. slice_get-get_or (replicate m z.sample_size) j 0 (rw (length-replicate m z.sample_size) h)
          ∙ ap Some (get_or-replicate m j z.sample_size 0 h ∙ sym (get_or-replicate n j z.sample_size 0 k))
      | false ↦ λ p. slice_get-get_or z.sample_sizes j 0 p
    ]) q

-- the tables agree, as far as stsc goes
fine_from : (t : StblBox) → Consistent t → HasFirstSamples t.stsc.entries
    → Fine t.stsc.entries (length (chunk_offsets t)) (sample_count t)
fine_from t fits firsts = record {
  some = some_entry t.stsc.entries fits.first_chunk;
  rises = fits.rising;
  firsts = firsts;
  one = λ d. first_is_one t.stsc.entries d fits.first_chunk;
  chunks = fits.last_chunk;
  positive = fits.some_per_chunk;
  counted = fits.counted;
} where
  some_entry : (entries : List StscEntry) → IsSomeAnd (slice_get entries 0) (λ e. e.first_chunk ≡ 1)
      → 0 < length entries
  some_entry [] h = absurd h
  some_entry (e ∷ entries) h = omega arith

  first_is_one : (entries : List StscEntry) (d : StscEntry) → IsSomeAnd (slice_get entries 0) (λ e. e.first_chunk ≡ 1)
      → (get_or entries 0 d).first_chunk ≡ 1
  first_is_one [] d h = absurd h
  first_is_one (e ∷ entries) d h = h

-- a step that wants 64 bits, and then an answer
bind_within : (b : Bool) (x size : ℕ) (f : Option (ℕ × ℕ) → Result (Option Place) Cause) (p : Place)
    → f (Some (x, size)) ≡ Ok (Some p)
    → (((cond b (Err invalid_data) (Ok x)) >>= λ offset. Ok (Some (offset, size))) >>= f)
    ≡ cond b (Err invalid_data) (Ok (Some p))
bind_within true x size f p h = refl
bind_within false x size f p h = h

chunk_for_is : (e : StscEntry) (k c : ℕ) → c + 1 ≡ e.first_chunk + (k - e.first_sample) / e.samples_per_chunk
    → c + 1 < 2 ^ 32 → chunk_for e k ≡ Ok (c + 1)
unfolding chunk_for
chunk_for_is e k c h small = rw (← h, ne_eqb (c + 1) 0 (λ z. omega (arith, z)), lt-leb (2 ^ 32) (c + 1) small) refl

plain_at_within : (t : StblBox) (k : ℕ) → 1 ≤ k → k ≤ sample_count t
    → plain_at t k ≡ within_file (Some (sample_place t k))
unfolding plain_at
plain_at_within t zero first within = absurd (omega arith)
plain_at_within t (suc k) first within =
    ap within_file (slice_get-get_or (plain t) k (sample_place t (suc k))
    (rw (length-map-range_with_len (sample_place t) 1 (sample_count t)) (omega arith))
    ∙ ap Some (get_or-map-range_with_len (sample_place t) 1 (sample_count t) k (suc k) (sample_place t (suc k))
    (omega arith)
    (omega arith)))

plain_at_past : (t : StblBox) (k : ℕ) → sample_count t < k → plain_at t k ≡ Ok None
unfolding plain_at
plain_at_past t zero past = absurd (omega arith)
plain_at_past t (suc k) past =
    ap within_file (slice_get_past (plain t) k
    (rw (length-map-range_with_len (sample_place t) 1 (sample_count t)) (omega arith)))

rule_past : (t : StblBox) (track k c : ℕ) (e : StscEntry) → entry_for t.stsc.entries k ≡ Ok e
    → chunk_for e k ≡ Ok (c + 1) → slice_get (chunk_offsets t) (c + 1 - 1) ≡ None → rule t track k ≡ Ok None
unfolding rule located_at
rule_past t track k c e h1 h2 h3 = rw (h1, h2, h3) refl

rule_found : (t : StblBox) (track k c offset size x duration begin : ℕ) (e : StscEntry)
    → entry_for t.stsc.entries k ≡ Ok e → chunk_for e k ≡ Ok (c + 1)
    → slice_get (chunk_offsets t) (c + 1 - 1) ≡ Some offset → slice_get (sizes t.stsz k) (k - 1) ≡ Some size
    → offset + sum (slice_range (sizes t.stsz k) (first_in_chunk e k - 1) (k - 1)) ≡ x
    → time_at t.stts.entries track k ≡ Ok (duration, begin)
    → rule t track k ≡ within_file (Some (record {
      offset = x;
      size = size;
      start_time = begin;
      duration = duration;
      rendering_offset = get_or (rendering_offsets (ctts_runs t.ctts)) (k - 1) (pos 0);
      is_sync = is_sync_at t.stss k;
    }))
unfolding rule located_at
rule_found t track k c offset size x duration begin e h1 h2 h3 h4 h5 h6 =
    rw (h1, h2, h3, h4, h5) (bind_within (nat_le (2 ^ 64) x) x size _ _ (rw h6 refl))

-- a number up to the last
within : (t : StblBox) (track k i c r : ℕ) (d : StscEntry) → Consistent t → HasFirstSamples t.stsc.entries → 1 ≤ k
    → k ≤ sample_count t → k < 2 ^ 32 →
    entry_for t.stsc.entries k ≡ Ok (get_or t.stsc.entries i d) → chunk_for (get_or t.stsc.entries i d) k ≡ Ok (c + 1)
    → first_in_chunk (get_or t.stsc.entries i d) k ≡ k - r →
    c < length (chunk_offsets t) → sum (take c (counts t.stsc.entries (length (chunk_offsets t)))) + r + 1 ≡ k
    → r < get_or (counts t.stsc.entries (length (chunk_offsets t))) c 0 →
    rule t track k ≡ plain_at t k
within t track k i c r d fits firsts first last small h1 h2 h3 there whole rest =
    let all = counts t.stsc.entries (length (chunk_offsets t)) in
    let before = sum (take c all) in
    let n = sample_count t in
    let at : k - 1 ≡ before + r = omega (arith, whole) in
    let begin : k - r - 1 ≡ before = omega (arith, whole) in
    let listed : length (sizes t.stsz n) ≡ n = fits.sizes_listed in
    let chunk_is : c + 1 - 1 ≡ c = omega arith in
    let offset : slice_get (chunk_offsets t) (c + 1 - 1) ≡ Some (get_or (chunk_offsets t) c 0) =
    rw chunk_is (slice_get-get_or (chunk_offsets t) c 0 there) in
    let size : slice_get (sizes t.stsz k) (k - 1) ≡ Some (get_or (sizes t.stsz n) (k - 1) 0) =
    size_agrees t.stsz k n (k - 1) (omega arith) (omega arith) (omega (arith, listed)) in
    let earlier : slice_range (sizes t.stsz k) (first_in_chunk (get_or t.stsc.entries i d) k - 1) (k - 1)
    ≡ take r (drop before (sizes t.stsz n)) =
    rw (h3, begin, at) (let go : before + r - before ≡ r = omega arith in
    rw go (sizes_agree t.stsz k n before r (omega (arith, whole)) (omega (arith, whole)))) in
    let located : get_or (sample_places t) (k - 1) (0, 0)
    ≡ (
      get_or (chunk_offsets t) c 0 + sum (take r (drop before (sizes t.stsz n))),
      get_or (sizes t.stsz n) (k - 1) 0,
    ) =
    rw at (get_or-places all (chunk_offsets t) (sizes t.stsz n) c r (0, 0)
    (rw (length-counts t.stsc.entries (length (chunk_offsets t))) there) there rest
    (omega (arith, whole, listed))) in
    rule_found t track k c (get_or (chunk_offsets t) c 0) (get_or (sizes t.stsz n) (k - 1) 0)
    (get_or (chunk_offsets t) c 0 + sum (take r (drop before (sizes t.stsz n))))
    (get_or (durations t.stts.entries) (k - 1) 0) (start_of (durations t.stts.entries) k)
    (get_or t.stsc.entries i d)
    h1 h2 offset size (ap (λ xs. get_or (chunk_offsets t) c 0 + sum xs) earlier)
    (time_at_is t.stts.entries track k first (rw fits.timed last))
    ∙ sym (plain_at_within t k first last
    ∙ ap (λ (p : ℕ × ℕ). within_file
    (Some (record {
      offset = p.0;
      size = p.1;
      start_time = start_of (durations t.stts.entries) k;
      duration =
          get_or (durations t.stts.entries) (k - 1) 0;
      rendering_offset =
          get_or (rendering_offsets (ctts_runs t.ctts)) (k - 1) (pos 0);
      is_sync =
          is_sync_at t.stss k;
    }))) located)

-- the law
pub rule_is_plain : (t : StblBox) (track k : ℕ) → Consistent t → HasFirstSamples t.stsc.entries → k < 2 ^ 32
    → rule t track k ≡ plain_at t k
unfolding rule located_at plain_at entry_for
rule_is_plain t track zero fits firsts small = refl
rule_is_plain t track (suc p) fits firsts small =
    let k = suc p in
    let entries = t.stsc.entries in
    let chunks = length (chunk_offsets t) in
    let d : StscEntry = record {
      first_chunk = 0;
      samples_per_chunk = 0;
      sample_description_index = 0;
      first_sample =
          0;
    } in
    let fine = fine_from t fits firsts in
    let there = belongs entries k firsts fine.some (omega arith) d in
    let i = there.0 in
    let e = get_or entries i d in
    let q = (k - e.first_sample) / e.samples_per_chunk in
    let r = (k - e.first_sample) % e.samples_per_chunk in
    let lies = lies_at entries chunks (sample_count t) k i d fine there.1 in
    let c = e.first_chunk + q - 1 in
    let positive : 1 ≤ e.first_chunk = first_chunk_positive entries i d fine.rises (fine.one d) there.1.within in
    let chunk_is : c + 1 ≡ e.first_chunk + q = omega arith in
    let entry = entry_for_is entries k i d (omega arith) firsts fits.some_per_chunk there.1 in
    let chunk = chunk_for_is e k c chunk_is
    (omega (arith, chunk_le entries chunks (sample_count t) k i q r d fine there.1 lies)) in
    ⊎_elim
    (λ (past : sample_count t < k). rule_past t track k c e entry chunk
    (slice_get_past (chunk_offsets t) (c + 1 - 1)
    (omega (arith, chunk_past entries chunks (sample_count t) k i q r d fine there.1 lies past)))
    ∙ sym (plain_at_past t k past))
    (λ last.
    let in_time : c < chunks =
    omega (arith, chunk_within entries chunks (sample_count t) k i q r d fine there.1 lies last) in
    within t track k i c r d fits firsts (omega arith) last small entry chunk refl in_time
    (sum-take-before entries chunks (sample_count t) k i q r c d fine there.1 lies chunk_is in_time)
    (rw (
      get_or-counts entries chunks c in_time,
      samples_in_is entries i (c + 1) d fine.rises there.1.within (omega arith)
          (λ h. omega (arith, lies.before_next h)),
    ) lies.rest))
    (cases_lt (sample_count t) k)

-- the sum of the sizes from one number up to another, where all are one size
pub sum-sizes_one : (z : StszBox) (first k : ℕ) → 1 ≤ first → first ≤ k → 0 < z.sample_size
    → sum (slice_range (sizes z k) (first - 1) (k - 1)) ≡ (k - first) * z.sample_size
unfolding sizes
sum-sizes_one z first k h1 h2 h3 =
    rw (
      lt-ltb 0 z.sample_size h3,
      drop-replicate (first - 1) k z.sample_size,
      take-replicate (k - 1 - (first - 1)) (k - (first - 1)) z.sample_size (omega arith),
    )
    (sum_by-replicate (λ x. x) (k - 1 - (first - 1)) z.sample_size ∙ ap (λ n. n * z.sample_size) (omega arith))

pub sizes_are_listed : (z : StszBox) (n : ℕ) → z.sample_size ≤ 0 → sizes z n ≡ z.sample_sizes
unfolding sizes
sizes_are_listed z n h = rw (le-ltb 0 z.sample_size h) refl
