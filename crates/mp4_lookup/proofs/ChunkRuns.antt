-- What is left of a chunk, sample after sample.
use Rattle.std.proofs.Common.{◌≡◌, ℕ, ◌+◌, ◌-◌, ◌^◌, ◌<◌, ◌≤◌, length, get_or, take, sum, replicate, Option, Some, None}
use Rattle.std.proofs.Common.{Bool, true, false, cond, Result, Ok, Err, refl, sym, ap, ◌∙◌, arith, ◌⊎◌, ⊎_elim}
use Rattle.std.specs.Prelude.{min, nat_le, slice_get, slice_range}
use Rattle.std.proofs.lemmas.Option.{slice_get-get_or, slice_get_past}
use Rattle.std.proofs.lemmas.Bool.{cases_lt, lt-leb, lt-ltb}
use Rattle.std.proofs.lemmas.List.{get_or-replicate, length-replicate}
use Rattle.std.proofs.lemmas.List.Sums.{sum_by_more}
use Rattle.mp4_codec.specs.Cause.{Cause, invalid_data, ◌>>=◌}
use Rattle.mp4_table.specs.declared.stsz.StszBox.{StszBox}
use Rattle.mp4_boxes.specs.declared.stbl.StblBox.{StblBox}
use Rattle.mp4_samples.specs.Tables.{chunk_offsets, sizes}
use Rattle.mp4_lookup.specs.Rule.{if_there, located_at, located_by, located_in_chunk, within_64_bits}
use Rattle.mp4_lookup.specs.Walk.{BeginsChunk, IsChunkRun, IsForSamples}
use Rattle.mp4_lookup.specs.declared.located.Chunk.{Chunk}
use Rattle.mp4_lookup.specs.declared.chunk_run.ChunkRun.{ChunkRun}
use Rattle.mp4_lookup.specs.declared.chunk_run.EntryRun.{EntryRun}
use Rattle.mp4_lookup.proofs.RuleLaws.{size_agrees, sizes_agree}
use Rattle.mp4_lookup.proofs.Searches.{sum-slice_range}
use Rattle.mp4_lookup.proofs.Steps.{begins_after, begins_past, begins_there, chunk_same, located_by_run}

-- where something is there, it is enough that both say the same of it
if_there_same : {A B : Type 0} (o : Option A) (f g : A → Result (Option B) Cause) → ((x : A) → o ≡ Some x → f x ≡ g x)
    → if_there o f ≡ if_there o g
if_there_same None f g same = refl
if_there_same (Some x) f g same = same x refl

some_is : {A : Type 0} {x y : A} → Some x ≡ Some y → x ≡ y
some_is h = cc

ok_is : {A : Type 0} {x y : A} (r s : Result A Cause) → r ≡ Ok x → s ≡ Ok y → r ≡ s → x ≡ y
ok_is r s a b h = cc

-- the size of sample k, where all samples have one size
pub one_size : (z : StszBox) (k : ℕ) → 1 ≤ k → 0 < z.sample_size → slice_get (sizes z k) (k - 1) ≡ Some z.sample_size
unfolding sizes
one_size z k first some =
    rw (lt-ltb 0 z.sample_size some)
    (slice_get-get_or (replicate k z.sample_size) (k - 1) 0
    (rw (length-replicate k z.sample_size) (omega (arith, first)))
    ∙ ap Some (get_or-replicate k (k - 1) z.sample_size 0 (omega (arith, first))))

-- a size that is there is within its list
size_within : (z : StszBox) (n x : ℕ) → slice_get (sizes z n) (n - 1) ≡ Some x → n - 1 < length (sizes z n)
size_within z n x found =
    ⊎_elim (λ (h : n - 1 < length (sizes z n)). h)
    (λ past. absurd (let wrong = sym (slice_get_past (sizes z n) (n - 1) past) ∙ found in cc))
    (cases_lt (n - 1) (length (sizes z n)))

-- the bytes up to sample n, with those of sample k before the others
size_first : (z : StszBox) (k n size : ℕ) → 1 ≤ k → k + 1 ≤ n → slice_get (sizes z k) (k - 1) ≡ Some size
    → n - 1 < length (sizes z n)
    → sum (slice_range (sizes z n) (k - 1) (n - 1)) ≡ size + sum (slice_range (sizes z n) (k + 1 - 1) (n - 1))
size_first z k n size first later there within =
    let xs = sizes z n in
    let one : k - 1 + 1 ≡ k + 1 - 1 = omega (arith, first) in
    let agrees = size_agrees z k n (k - 1) (omega (arith, first)) (omega (arith, first, later))
    (omega (arith, first, later, within)) in
    let same : get_or xs (k - 1) 0 ≡ size = some_is (sym agrees ∙ there) in
    let more = sum_by_more (λ x. x) xs (k - 1) 0 (omega (arith, first, later, within)) in
    let so_many : sum (take (k + 1 - 1) xs) ≡ sum (take (k - 1) xs) + get_or xs (k - 1) 0 = rw (← one) more in
    omega (
      arith,
      so_many,
      same,
      sum-slice_range xs (k - 1) (n - 1) (omega (arith, later)),
      sum-slice_range xs (k + 1 - 1) (n - 1) (omega (arith, later)),
    )

-- samples after sample k lie where they lie after the bytes of it
located_next : (t : StblBox) (offset k n size : ℕ) → 1 ≤ k → k + 1 ≤ n
    → slice_get (sizes t.stsz k) (k - 1) ≡ Some size
    → located_in_chunk t offset k n ≡ located_in_chunk t (offset + size) (k + 1) n
located_next t offset k n size first later there =
    if_there_same (slice_get (sizes t.stsz n) (n - 1)) _ _ (λ x found.
    let same : offset + sum (slice_range (sizes t.stsz n) (k - 1) (n - 1))
    ≡ offset + size + sum (slice_range (sizes t.stsz n) (k + 1 - 1) (n - 1)) =
    omega (arith, size_first t.stsz k n size first later there (size_within t.stsz n x found)) in
    rw same refl)

-- the bytes from one sample up to another, and on up to a third
size_between : (z : StszBox) (first k n : ℕ) → 1 ≤ first → first ≤ k → k ≤ n
    → sum (slice_range (sizes z n) (first - 1) (n - 1))
    ≡ sum (slice_range (sizes z k) (first - 1) (k - 1)) + sum (slice_range (sizes z n) (k - 1) (n - 1))
size_between z first k n counts reached later =
    let so_many : k - 1 - (first - 1) ≡ k - first = omega (arith, counts, reached) in
    let agree : slice_range (sizes z k) (first - 1) (k - 1) ≡ slice_range (sizes z n) (first - 1) (k - 1) =
    rw so_many
    (sizes_agree z k n (first - 1) (k - first) (omega (arith, counts, reached))
    (omega (arith, counts, reached, later))) in
    let same : sum (slice_range (sizes z k) (first - 1) (k - 1)) ≡ sum (slice_range (sizes z n) (first - 1) (k - 1)) =
    ap sum agree in
    omega (
      arith,
      same,
      sum-slice_range (sizes z n) (first - 1) (n - 1) (omega (arith, reached, later)),
      sum-slice_range (sizes z n) (first - 1) (k - 1) (omega (arith, reached)),
      sum-slice_range (sizes z n) (k - 1) (n - 1) (omega (arith, later)),
    )

-- a place, and a size
abbrev placed : ℕ → ℕ → Result (Option (ℕ × ℕ)) Cause
placed size offset = Ok (Some (offset, size))

-- a place that is answered is the one that was asked for
place_is : (past : Bool) (x size p s : ℕ) → ((cond past (Err invalid_data) (Ok x)) >>= placed size) ≡ Ok (Some (p, s))
    → x ≡ p
place_is true x size p s h = absurd cc
place_is false x size p s h =
    ap (λ (q : ℕ × ℕ). q.0) (some_is (ok_is (placed size x) (Ok (Some (p, s))) refl refl h))

placed_there : (o : Option ℕ) (x p s : ℕ) → if_there o (λ size. within_64_bits x >>= placed size) ≡ Ok (Some (p, s))
    → x ≡ p
placed_there None x p s h = absurd cc
placed_there (Some size) x p s h = place_is (nat_le (2 ^ 64) x) x size p s h

-- samples from sample k on lie where they lie after it
located_later : (t : StblBox) (offset first k n place size : ℕ) → 1 ≤ first → first ≤ k → k ≤ n
    → located_in_chunk t offset first k ≡ Ok (Some (place, size))
    → located_in_chunk t offset first n ≡ located_in_chunk t place k n
located_later t offset first k n place size counts reached later there =
    let at = placed_there (slice_get (sizes t.stsz k) (k - 1)) _ place size there in
    let same : offset + sum (slice_range (sizes t.stsz n) (first - 1) (n - 1))
    ≡ place + sum (slice_range (sizes t.stsz n) (k - 1) (n - 1)) =
    omega (arith, at, size_between t.stsz first k n counts reached later) in
    rw same refl

-- sample k, the first that is left, lies right there
located_first : (t : StblBox) (offset k size : ℕ) → offset < 2 ^ 64 → slice_get (sizes t.stsz k) (k - 1) ≡ Some size
    → located_in_chunk t offset k k ≡ Ok (Some (offset, size))
located_first t offset k size small there =
    let xs = sizes t.stsz k in
    let none : offset + sum (slice_range xs (k - 1) (k - 1)) ≡ offset =
    omega (arith, sum-slice_range xs (k - 1) (k - 1) (omega arith)) in
    rw (there, none, lt-leb (2 ^ 64) offset small) refl

-- the first sample that is left
pub first_is : (t : StblBox) (k size : ℕ) (c : ChunkRun) → IsChunkRun t k c → 0 < c.left → c.offset < 2 ^ 64
    → slice_get (sizes t.stsz k) (k - 1) ≡ Some size → located_at t k ≡ Ok (Some (c.offset, size))
first_is t k size c here some small there =
    here.samples k (omega arith) (omega (arith, some)) ∙ located_first t c.offset k size small there

pub first_isnt : (t : StblBox) (k : ℕ) (c : ChunkRun) → IsChunkRun t k c → 0 < c.left
    → slice_get (sizes t.stsz k) (k - 1) ≡ None → located_at t k ≡ Ok None
first_isnt t k c here some there = here.samples k (omega arith) (omega (arith, some)) ∙ rw there refl

-- one sample is taken of what is left
pub chunk_taken : (t : StblBox) (k size : ℕ) (c d : ChunkRun) → 1 ≤ k → IsChunkRun t k c
    → slice_get (sizes t.stsz k) (k - 1) ≡ Some size → d.run ≡ c.run → d.number ≡ c.number → d.left + 1 ≡ c.left
    → d.offset ≡ c.offset + size → IsChunkRun t (k + 1) d
chunk_taken t k size c d first here there run number left offset =
    let end : k + 1 + d.left ≡ k + c.left = omega (arith, left) in
    record {
      entry = rw run here.entry;
      first = λ _. omega arith;
      samples = λ n from to.
          here.samples n (omega (arith, from)) (omega (arith, to, left))
          ∙ rw offset (located_next t c.offset k n size first from there);
      after = rw (end, run, number) here.after;
    }

-- a chunk that begins with sample k
pub chunk_begins : (t : StblBox) (k number offset : ℕ) (c : ChunkRun) → IsForSamples t.stsc.entries c.run
    → k < c.run.end → BeginsChunk c.run.entry k number → 1 ≤ number → number < 2 ^ 32
    → slice_get (chunk_offsets t) (number - 1) ≡ Some offset → c.number ≡ number
    → c.left ≡ min c.run.entry.samples_per_chunk (c.run.end - k) → c.offset ≡ offset → IsChunkRun t k c
chunk_begins t k number offset c at to b counts small there is left lies =
    let e = c.run.entry in
    let begins = begins_there e k number b counts small in
    let reached : e.first_sample ≤ k = omega (arith, b.at) in
    record {
      entry = at;
      first = λ _. omega (arith, at.first (omega (arith, reached, to)), reached);
      samples = λ n from before.
          let inside : n < c.run.end = omega (arith, left, before, to) in
          located_by_run t c.run n at (omega (arith, reached, from)) inside b.some
          ∙ (rw lies (rw begins.1 at
          ((chunk_same t e k n number offset reached b.some begins.0 there (rw begins.1 from)
          (rw begins.1 (omega (arith, left, before)))).1)));
      after = λ more.
          rw is (begins_after e k (k + c.left) number b (omega (arith, left, more)));
    }

-- there is no chunk that begins with sample k
pub no_chunk_begins : (t : StblBox) (k number : ℕ) (r : EntryRun) → IsForSamples t.stsc.entries r → k < r.end
    → BeginsChunk r.entry k number → 1 ≤ number → number < 2 ^ 32 → slice_get (chunk_offsets t) (number - 1) ≡ None
    → located_at t k ≡ Ok None
no_chunk_begins t k number r at to b counts small none =
    let begins = begins_there r.entry k number b counts small in
    located_by_run t r k at (omega (arith, b.at)) to b.some
    ∙ rw (begins.0, none) refl

-- a chunk that would begin with sample k has no number of 32 bits
pub wrong_chunk_begins : (t : StblBox) (k number : ℕ) (r : EntryRun) → IsForSamples t.stsc.entries r → k < r.end
    → BeginsChunk r.entry k number → (number ≡ 0) ⊎ (2 ^ 32 ≤ number) → located_at t k ≡ Err invalid_data
wrong_chunk_begins t k number r at to b wrong =
    located_by_run t r k at (omega (arith, b.at)) to b.some
    ∙ rw (begins_past r.entry k number b wrong) refl

-- what is left of a chunk from sample k on, which lies there
pub chunk_from : (t : StblBox) (k size : ℕ) (chunk : Chunk) (c : ChunkRun) → IsForSamples t.stsc.entries c.run
    → 1 ≤ c.run.entry.samples_per_chunk
    → ((n : ℕ) → chunk.first ≤ n → n < chunk.end → (c.run.entry.first_sample ≤ n) × (n < c.run.end)
    × (located_by t c.run.entry n ≡ located_in_chunk t chunk.offset chunk.first n))
    → (1 ≤ chunk.first) × (chunk.first ≤ k) × (k < chunk.end)
    → (chunk.end < c.run.end → BeginsChunk c.run.entry chunk.end (chunk.number + 1))
    → located_in_chunk t chunk.offset chunk.first k ≡ Ok (Some (c.offset, size)) → c.number ≡ chunk.number
    → k + c.left ≡ chunk.end → IsChunkRun t k c
chunk_from t k size chunk c at some samples inside after there number left = record {
  entry = at;
  first = λ _. omega (arith, inside.0, inside.1);
  samples = λ n from before.
      let here = samples n (omega (arith, from, inside.1)) (omega (arith, before, left)) in
      located_by_run t c.run n at here.0 here.1 some ∙ here.2
      ∙ located_later t chunk.offset chunk.first k n c.offset size inside.0 inside.1 from there;
  after = rw (left, number) after;
}
