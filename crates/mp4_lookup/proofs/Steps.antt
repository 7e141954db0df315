-- Where a walk is in each table: which samples an entry, a chunk or a run is for.
use Rattle.std.proofs.Common.{◌≡◌, ℕ, suc, ◌+◌, ◌-◌, ◌*◌, ◌/◌, ◌%◌, ◌^◌, ◌<◌, ◌≤◌, pos, List, length, get_or, take, map}
use Rattle.std.proofs.Common.{Bool, true, false, cond, Option, Some, None, Result, Ok, Err, ◌⊎◌, ⊎_elim}
use Rattle.std.proofs.Common.{refl, sym, ap, ◌∙◌, arith}
use Rattle.std.specs.Prelude.{nat_le, ◌==◌, slice_get, slice_index, IfErr, IfOk, IfNone, IfSome}
use Rattle.mp4_codec.specs.Cause.{Cause, invalid_data}
use Rattle.mp4_codec.specs.declared.error.Error.{Error}
use Rattle.mp4_table.specs.Chunks.{last_where}
use Rattle.mp4_table.specs.Runs.{rendering_offsets}
use Rattle.std.specs.List.{All, list_any, sum_by}
use Rattle.std.specs.List.Sorted.{IsNonDecreasing}
use Rattle.std.proofs.lemmas.Bool.{cases_lt, cases_eq, eq-eqb, le-leb, lt-leb, ne_eqb}
use Rattle.std.proofs.lemmas.List.{get_or_default, get_or-map, length-map, take_all}
use Rattle.std.proofs.lemmas.List.Folds.{list_any_none, list_any_at}
use Rattle.std.proofs.lemmas.List.Sums.{sum_by_more}
use Rattle.std.proofs.lemmas.Nat.{div-add-mod', div-mul-add, mod-mul-add, mod_below, mul-le}
use Rattle.mp4_table.specs.declared.ctts.CttsEntry.{CttsEntry}
use Rattle.mp4_table.specs.declared.stsc.StscEntry.{StscEntry}
use Rattle.mp4_table.specs.declared.stts.SttsEntry.{SttsEntry}
use Rattle.mp4_table.specs.Stsc.{HasFirstSamples}
use Rattle.mp4_boxes.specs.declared.stbl.StblBox.{StblBox}
use Rattle.mp4_samples.proofs.LastLaws.{last_where_is}
use Rattle.mp4_samples.specs.Tables.{chunk_offsets}
use Rattle.mp4_search.specs.Search.{IsLastAtMost}
use Rattle.mp4_lookup.proofs.EntryLaws.{first_samples_climb, first_samples_positive}
use Rattle.mp4_lookup.specs.Rule.{chunk_for, entry_for, first_in_chunk, located_at, located_by, located_in_chunk}
use Rattle.mp4_lookup.specs.Rule.{time_at}
use Rattle.mp4_lookup.specs.Walk.{BeginsChunk, IsForSamples, IsOffsetRun, IsSyncGap, IsTimeRun}
use Rattle.mp4_lookup.specs.declared.located.Chunk.{Chunk}
use Rattle.mp4_lookup.specs.declared.chunk_run.EntryRun.{EntryRun}
use Rattle.mp4_lookup.specs.declared.timing.OffsetRun.{OffsetRun}
use Rattle.mp4_lookup.specs.declared.timing.SyncGap.{SyncGap}
use Rattle.mp4_lookup.specs.declared.timing.TimeRun.{TimeRun}
use Rattle.mp4_lookup.proofs.Sums.{ticks_before}
use Rattle.mp4_lookup.proofs.Times.{time_at_in, value_in, value_past}

-- stsc

-- the entry with this index is for the samples from its first to before the first of the entry after it
pub entry_run : (entries : List StscEntry) (i : ℕ) (d : StscEntry) (r : EntryRun) → HasFirstSamples entries
    → i < length entries → r.entry ≡ get_or entries i d
    → ((e : StscEntry) → i + 1 < length entries → r.end ≡ (get_or entries (i + 1) e).first_sample)
    → IsForSamples entries r
entry_run entries i d r firsts h entry end = record {
  first = λ _. rw entry (first_samples_positive entries firsts i d h);
  last = λ k from to.
      rw entry (last_where_is (λ e. nat_le e.first_sample k) entries i d h (le-leb _ _ (rw (← entry) from))
      (λ j e p q.
      let climbs = first_samples_climb entries e firsts (i + 1) j (omega (arith, p)) q in
      lt-leb _ _ (omega (arith, climbs, end e (omega (arith, p, q)), to))));
}

-- a sample of such an entry
pub entry_of : (entries : List StscEntry) (r : EntryRun) (k : ℕ) → IsForSamples entries r
    → r.entry.first_sample ≤ k → k < r.end → 1 ≤ r.entry.samples_per_chunk → entry_for entries k ≡ Ok r.entry
unfolding entry_for
entry_of entries r k at from to some =
    let first = at.first (omega (arith, from, to)) in
    rw (
      ne_eqb k 0 (λ z. omega (arith, z, from, first)),
      at.last k from to,
      ne_eqb r.entry.samples_per_chunk 0 (λ z. omega (arith, z, some)),
    ) refl

-- the last entry whose first sample is at most k is that of each number from its first sample up to k
pub entry_is : (entries : List StscEntry) (k n i : ℕ) (d : StscEntry) → HasFirstSamples entries
    → IsLastAtMost (map (λ e. e.first_sample) entries) k i → (get_or entries i d).first_sample ≤ n → n ≤ k
    → 1 ≤ (get_or entries i d).samples_per_chunk → entry_for entries n ≡ Ok (get_or entries i d)
unfolding entry_for
entry_is entries k n i d firsts at from to some =
    let within : i < length entries = rw length-map at at.within in
    let first = first_samples_positive entries firsts i d within in
    let last : last_where (λ e. nat_le e.first_sample n) entries ≡ Some (get_or entries i d) =
    last_where_is (λ e. nat_le e.first_sample n) entries i d within (le-leb _ _ from)
    (λ j e p q.
    let later : k < (get_or entries j e).first_sample =
    rw (← get_or-map (λ (e : StscEntry). e.first_sample) entries j e 0 q)
    (at.later j p (rw (length-map entries (λ (e : StscEntry). e.first_sample)) q)) in
    lt-leb _ _ (omega (arith, to, later))) in
    rw (
      ne_eqb n 0 (λ z. omega (arith, z, from, first)),
      last,
      ne_eqb (get_or entries i d).samples_per_chunk 0 (λ z. omega (arith, z, some)),
    ) refl

pub located_by_entry : (t : StblBox) (e : StscEntry) (k : ℕ) → entry_for t.stsc.entries k ≡ Ok e
    → located_at t k ≡ located_by t e k
unfolding located_at
located_by_entry t e k is = rw is refl

-- the same by the entry that a walk is in
pub located_by_run : (t : StblBox) (r : EntryRun) (k : ℕ) → IsForSamples t.stsc.entries r → r.entry.first_sample ≤ k
    → k < r.end → 1 ≤ r.entry.samples_per_chunk → located_at t k ≡ located_by t r.entry k
located_by_run t r k at from to some = located_by_entry t r.entry k (entry_of t.stsc.entries r k at from to some)

-- an entry that has no samples in a chunk is refused
pub unusable : (entries : List StscEntry) (k : ℕ) (e : StscEntry) → 1 ≤ k
    → last_where (λ e. nat_le e.first_sample k) entries ≡ Some e → e.samples_per_chunk ≡ 0
    → entry_for entries k ≡ Err invalid_data
unfolding entry_for
unusable entries k e first last none = rw (ne_eqb k 0 (λ z. omega (arith, z, first)), last, eq-eqb _ _ none) refl

pub located_refused : (t : StblBox) (k : ℕ) (c : Cause) → entry_for t.stsc.entries k ≡ Err c → located_at t k ≡ Err c
unfolding located_at
located_refused t k c is = rw is refl

-- what follows of a chunk that was looked up, if there is one, and where there is none
pub of_both : (r : Result (Option Chunk) Error) (P P' Q : Chunk → Type 0) → IfOk r (λ c. IfSome c P)
    → IfOk r (λ c. IfSome c P') → ((c : Chunk) → P c → P' c → Q c) → IfOk r (λ c. IfSome c Q)
of_both (Ok (Some c)) P P' Q p p' f = f c p p'
of_both (Ok None) P P' Q p p' f = tt
of_both (Err e) P P' Q p p' f = tt

pub of_no_chunk : (r : Result (Option Chunk) Error) (P Q : Type 0) → IfOk r (λ c. IfNone c P) → (P → Q)
    → IfOk r (λ c. IfNone c Q)
of_no_chunk (Ok (Some c)) P Q p f = tt
of_no_chunk (Ok None) P Q p f = f p
of_no_chunk (Err e) P Q p f = tt

pub of_refused : (r : Result (Option Chunk) Error) (P Q : Error → Type 0) → IfErr r P → ((e : Error) → P e → Q e)
    → IfErr r Q
of_refused (Ok c) P Q p f = tt
of_refused (Err e) P Q p f = f e p

-- the samples of a chunk: those from its first on, as many as the entry says
pub chunk_same : (t : StblBox) (e : StscEntry) (k n c offset : ℕ) → e.first_sample ≤ k → 1 ≤ e.samples_per_chunk
    → chunk_for e k ≡ Ok c → slice_get (chunk_offsets t) (c - 1) ≡ Some offset
    → first_in_chunk e k ≤ n → n < first_in_chunk e k + e.samples_per_chunk
    → (e.first_sample ≤ n) × (located_by t e n ≡ located_in_chunk t offset (first_in_chunk e k) n)
unfolding chunk_for
chunk_same t e k n c offset reached some chunk there from to =
    let m = k - e.first_sample in
    let q = m / e.samples_per_chunk in
    let whole = div-add-mod' m e.samples_per_chunk in
    let rest : m % e.samples_per_chunk < e.samples_per_chunk = mod_below _ _ (omega (arith, some)) in
    let first = first_in_chunk e k in
    let begin : first ≡ e.first_sample + q * e.samples_per_chunk = omega (arith, whole, reached) in
    let at : n - e.first_sample ≡ q * e.samples_per_chunk + (n - first) = omega (arith, begin, from) in
    let less : n - first < e.samples_per_chunk = omega (arith, from, to) in
    let row : (n - e.first_sample) / e.samples_per_chunk ≡ q =
    rw at (div-mul-add q e.samples_per_chunk (n - first) less) in
    let column : (n - e.first_sample) % e.samples_per_chunk ≡ n - first =
    rw at (mod-mul-add q e.samples_per_chunk (n - first) less) in
    let same : first_in_chunk e n ≡ first = rw column (omega (arith, from)) in
    let one : chunk_for e n ≡ Ok c = rw row chunk in (
      omega (arith, begin, from),
      rw (one, there, same) refl,
    )

number_is : (none past : Bool) (x c : ℕ) → cond none (Err invalid_data) (cond past (Err invalid_data) (Ok x)) ≡ Ok c
    → c ≡ x
number_is true past x c h = absurd cc
number_is false true x c h = absurd cc
number_is false false x c h = cc

-- the number of the chunk of sample k
pub chunk_is : (e : StscEntry) (k c : ℕ) → chunk_for e k ≡ Ok c
    → c ≡ e.first_chunk + (k - e.first_sample) / e.samples_per_chunk
unfolding chunk_for
chunk_is e k c h = number_is _ _ _ c h

-- the chunk that begins with sample k
pub begins_there : (e : StscEntry) (k number : ℕ) → BeginsChunk e k number → 1 ≤ number → number < 2 ^ 32
    → (chunk_for e k ≡ Ok number) × (first_in_chunk e k ≡ k)
unfolding chunk_for
begins_there e k number b counts small =
    let q = number - e.first_chunk in
    let gone : k - e.first_sample ≡ q * e.samples_per_chunk + 0 = omega (arith, b.at) in
    let row : (k - e.first_sample) / e.samples_per_chunk ≡ q =
    rw gone (div-mul-add q e.samples_per_chunk 0 (omega (arith, b.some))) in
    let column : (k - e.first_sample) % e.samples_per_chunk ≡ 0 =
    rw gone (mod-mul-add q e.samples_per_chunk 0 (omega (arith, b.some))) in
    let chunk : e.first_chunk + q ≡ number = omega (arith, b.from) in (
      rw (row, chunk, ne_eqb number 0 (λ z. omega (arith, z, counts)), lt-leb (2 ^ 32) number small) refl,
      rw column (omega arith),
    )

-- its number may pass 32 bits, or be 0: then it is refused
pub begins_past : (e : StscEntry) (k number : ℕ) → BeginsChunk e k number → (number ≡ 0) ⊎ (2 ^ 32 ≤ number)
    → chunk_for e k ≡ Err invalid_data
unfolding chunk_for
begins_past e k number b wrong =
    let q = number - e.first_chunk in
    let gone : k - e.first_sample ≡ q * e.samples_per_chunk + 0 = omega (arith, b.at) in
    let row : (k - e.first_sample) / e.samples_per_chunk ≡ q =
    rw gone (div-mul-add q e.samples_per_chunk 0 (omega (arith, b.some))) in
    let chunk : e.first_chunk + q ≡ number = omega (arith, b.from) in
    rw (row, chunk) (⊎_elim (λ (z : number ≡ 0). rw z refl) (λ (past : 2 ^ 32 ≤ number).
    rw (ne_eqb number 0 (λ z. omega (arith, z, past)), le-leb (2 ^ 32) number past) refl) wrong)

-- the first sample of an entry begins its first chunk
pub begins_entry : (e : StscEntry) (k : ℕ) → e.first_sample ≡ k → 1 ≤ e.samples_per_chunk
    → BeginsChunk e k e.first_chunk
begins_entry e k first some = record {
  some = some;
  from = omega arith;
  at =
      let none : e.first_chunk - e.first_chunk ≡ 0 = omega arith in
      rw none (omega (arith, first));
}

-- where a chunk begins, the one after it does so many samples later
pub begins_after : (e : StscEntry) (k n number : ℕ) → BeginsChunk e k number → n ≡ k + e.samples_per_chunk
    → BeginsChunk e n (number + 1)
begins_after e k n number b later = record {
  some = b.some;
  from = omega (arith, b.from);
  at =
      let more : number + 1 - e.first_chunk ≡ suc (number - e.first_chunk) = omega (arith, b.from) in
      rw more (omega (arith, later, b.at));
}

-- the chunk of sample k, which isn't its first
pub begins_chunk_after : (e : StscEntry) (k c n : ℕ) → e.first_sample ≤ k → 1 ≤ e.samples_per_chunk
    → chunk_for e k ≡ Ok c → n ≡ first_in_chunk e k + e.samples_per_chunk → BeginsChunk e n (c + 1)
begins_chunk_after e k c n reached some chunk later =
    let q = (k - e.first_sample) / e.samples_per_chunk in
    let whole = div-add-mod' (k - e.first_sample) e.samples_per_chunk in
    let number : c ≡ e.first_chunk + q = chunk_is e k c chunk in
    let more : c + 1 - e.first_chunk ≡ suc q = omega (arith, number) in
    record {
      some = some;
      from = omega (arith, number);
      at = rw more (omega (arith, later, whole, reached));
    }

-- stts and ctts

pub time_run : (runs : List SttsEntry) (k i before begin : ℕ) (d : SttsEntry) (r : TimeRun)
    → All (λ r. r.sample_delta < 2 ^ 32) runs → 1 ≤ k → i < length runs
    → before ≡ sum_by (λ r. r.sample_count) (take i runs)
    → begin ≡ sum_by (λ r. r.sample_count * r.sample_delta) (take i runs) → before ≤ k - 1
    → r.left + (k - 1 - before) ≡ (get_or runs i d).sample_count
    → r.start ≡ begin + (k - 1 - before) * (get_or runs i d).sample_delta → r.delta ≡ (get_or runs i d).sample_delta
    → r.next ≡ i + 1 → IsTimeRun runs k r
time_run runs k i before begin d r small first h counted timed reached left start delta next =
    let e = get_or runs i d in
    let gone = k - 1 - before in
    let samples = sum_by_more (λ (r : SttsEntry). r.sample_count) runs i d h in
    let ticks = sum_by_more (λ (r : SttsEntry). r.sample_count * r.sample_delta) runs i d h in
    let short : e.sample_delta < 2 ^ 32 = small i d h in
    record {
      samples = λ track j inside.
          let at : k + j - 1 - before ≡ gone + j = omega (arith, first, reached) in
          let same : begin + (k + j - 1 - before) * e.sample_delta ≡ r.start + j * e.sample_delta =
          rw (at, start) (omega arith) in
          time_at_in runs track (k + j) i before begin d (omega (arith, first)) h counted timed
          (omega (arith, first, reached)) (omega (arith, at, left, inside))
          ∙ rw delta (ap (λ n. Ok (e.sample_delta, n)) same);
      counted = λ _. rw next (omega (arith, samples, counted, left, reached, first));
      timed = λ _.
          rw (next, start, delta)
          (let whole : r.left * e.sample_delta + gone * e.sample_delta ≡ e.sample_count * e.sample_delta =
          rw (← left) (omega arith) in
          omega (arith, ticks, timed, whole));
      fits =
          let most : gone * e.sample_delta ≤ gone * (2 ^ 32 - 1) =
          mul-le gone e.sample_delta gone (2 ^ 32 - 1) (omega arith) (omega (arith, short)) in
          rw start (omega (arith, timed, counted, ticks_before runs i small, most, reached));
      short = rw delta short;
    }

-- the first of them
pub time_first : (runs : List SttsEntry) (track k : ℕ) (r : TimeRun) → IsTimeRun runs k r → 0 < r.left
    → time_at runs track k ≡ Ok (r.delta, r.start)
time_first runs track k r here some =
    ap (λ n. time_at runs track n) (omega arith) ∙ here.samples track 0 some
    ∙ ap (λ n. Ok (r.delta, n)) (omega arith)

-- one sample is taken of what is left
pub time_taken : (runs : List SttsEntry) (k : ℕ) (r s : TimeRun) → 1 ≤ k → IsTimeRun runs k r → s.left + 1 ≡ r.left
    → s.start ≡ r.start + r.delta → s.delta ≡ r.delta → s.next ≡ r.next → IsTimeRun runs (k + 1) s
time_taken runs k r s first here left start delta next = record {
  samples = λ track j inside.
      let at : k + 1 + j ≡ k + (j + 1) = omega arith in
      rw (at, start, delta)
      (here.samples track (j + 1) (omega (arith, inside, left)) ∙ ap (λ n. Ok (r.delta, n)) (omega arith));
  counted = rw next (λ h. omega (arith, here.counted h, left, first));
  timed =
      rw (next, start, delta)
      (λ h.
      let whole : r.delta + s.left * r.delta ≡ r.left * r.delta = rw (← left) (omega arith) in
      omega (arith, here.timed h, whole));
  fits = rw start (omega (arith, here.fits, here.short, first));
  short = rw delta here.short;
}

pub offset_run : (runs : List CttsEntry) (k i before : ℕ) (d : CttsEntry) (r : OffsetRun) → 1 ≤ k → i < length runs
    → before ≡ sum_by (λ r. r.sample_count) (take i runs) → before ≤ k - 1
    → r.left + (k - 1 - before) ≡ (get_or runs i d).sample_count → r.offset ≡ (get_or runs i d).sample_offset
    → r.next ≡ i + 1 → IsOffsetRun runs k r
offset_run runs k i before d r first h counted reached left offset next =
    let samples = sum_by_more (λ (r : CttsEntry). r.sample_count) runs i d h in
    record {
      samples = λ j inside.
          value_in (λ (r : CttsEntry). r.sample_count) (λ r. r.sample_offset) runs (k + j) i before d (pos 0) h counted
          (omega (arith, first, reached)) (omega (arith, first, reached, left, inside)) ∙ sym offset;
      counted = λ _. rw next (omega (arith, samples, counted, left, reached, first));
    }

pub offsets_past : (runs : List CttsEntry) (k : ℕ) (r : OffsetRun) → 1 ≤ k
    → sum_by (λ r. r.sample_count) runs ≤ k - 1 → r.offset ≡ pos 0 → r.next ≡ length runs → IsOffsetRun runs k r
offsets_past runs k r first past offset next =
    let all : sum_by (λ (r : CttsEntry). r.sample_count) (take (length runs) runs)
    ≡ sum_by (λ (r : CttsEntry). r.sample_count) runs =
    ap (sum_by (λ (r : CttsEntry). r.sample_count)) (take_all (length runs) runs (omega arith)) in
    record {
      samples = λ j inside.
          value_past (λ (r : CttsEntry). r.sample_count) (λ r. r.sample_offset) runs (k + j) (length runs) _ (pos 0)
          (omega arith) refl (omega (arith, all, past, first)) ∙ sym offset;
      counted = λ h. absurd (omega (arith, h, next));
    }

-- the first of them
pub offset_first : (runs : List CttsEntry) (k : ℕ) (r : OffsetRun) → IsOffsetRun runs k r → 0 < r.left
    → get_or (rendering_offsets runs) (k - 1) (pos 0) ≡ r.offset
offset_first runs k r here some =
    ap (λ n. get_or (rendering_offsets runs) (n - 1) (pos 0)) (omega arith) ∙ here.samples 0 some

-- one sample is taken of what is left
pub offset_taken : (runs : List CttsEntry) (k : ℕ) (r s : OffsetRun) → 1 ≤ k → IsOffsetRun runs k r
    → s.left + 1 ≡ r.left → s.offset ≡ r.offset → s.next ≡ r.next → IsOffsetRun runs (k + 1) s
offset_taken runs k r s first here left offset next = record {
  samples = λ j inside.
      let at : k + 1 + j - 1 ≡ k + (j + 1) - 1 = omega arith in
      rw (at, offset) (here.samples (j + 1) (omega (arith, inside, left)));
  counted = rw next (λ h. omega (arith, here.counted h, left, first));
}

-- a number that runs end before is past all, where they are all
pub all_before : (runs : List CttsEntry) (i key : ℕ) → length runs ≤ i
    → sum_by (λ r. r.sample_count) (take i runs) ≤ key → sum_by (λ r. r.sample_count) runs ≤ key
all_before runs i key all past =
    let count = λ (r : CttsEntry). r.sample_count in
    let whole : sum_by count (take i runs) ≡ sum_by count runs = ap (sum_by count) (take_all i runs all) in
    omega (arith, whole, past)

-- stss

pub sync_gap : (numbers : List ℕ) (i from : ℕ) (g : SyncGap) → IsNonDecreasing numbers → i ≤ length numbers
    → ((j : ℕ) → j < i → slice_index numbers j < from) → from < 2 ^ 32 → g.next ≡ i + 1
    → (i < length numbers → g.end ≡ slice_index numbers i) → (length numbers ≤ i → g.end ≡ 2 ^ 32)
    → IsSyncGap numbers from g
sync_gap numbers i from g up within earlier small next here none =
    let others : (k : ℕ) → from ≤ k → k < 2 ^ 32 → (i < length numbers → k < slice_index numbers i)
    → list_any (λ n. n == k) numbers ≡ false = λ k reached low later.
    list_any_none (λ n. n == k) numbers (λ j d h. rw (get_or_default numbers j d 0 h) (ne_eqb _ _ (λ e.
    ⊎_elim (λ (q : j < i). absurd (omega (arith, earlier j q, e, reached)))
    (λ (q : i ≤ j). absurd (omega (arith, later (omega (arith, q, h)), up i j 0 q h, e))) (cases_lt j i)))) in
    record {
      samples = λ k positive reached to low.
          ⊎_elim
          (λ (h : i < length numbers).
          ⊎_elim
          (λ (e : k ≡ g.end).
          list_any_at (λ n. n == k) numbers i 0 h (eq-eqb _ _ (sym (e ∙ here h))) ∙ sym (eq-eqb _ _ e))
          (λ ne. others k reached low (λ q. omega (arith, to, here h, ne)) ∙ sym (ne_eqb _ _ ne))
          (cases_eq k g.end))
          (λ (h : length numbers ≤ i).
          others k reached low (λ q. absurd (omega (arith, q, h)))
          ∙ sym (ne_eqb _ _ (λ e. omega (arith, e, none h, low))))
          (cases_lt i (length numbers));
      earlier = λ j p q.
          ⊎_elim
          (λ (h : i < length numbers). omega (arith, here h, up j i 0 (omega (arith, p, next)) h))
          (λ (h : length numbers ≤ i). omega (arith, none h, earlier j (omega (arith, q, h)), small))
          (cases_lt i (length numbers));
    }
