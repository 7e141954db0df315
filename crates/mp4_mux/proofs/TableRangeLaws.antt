-- What is known of samples and chunks has room in the tables, and the tables are well-formed.
use Rattle.std.proofs.Common.{◌≡◌, ℕ, ◌+◌, ◌-◌, ◌^◌, ◌<◌, ◌≤◌, Bool, true, false, cond, eqb, ltb, List, [], ◌∷◌, length}
use Rattle.std.proofs.Common.{map, sum, Some, None, arith}
use Rattle.std.specs.Prelude.{IfSome}
use Rattle.std.specs.List.{All, AllByRecursion, list_all}
use Rattle.std.proofs.lemmas.Bool.{cond_both, or_parts, ltb-false}
use Rattle.std.proofs.lemmas.List.Elements.{All-head, All-tail, All-weaker, recursion_from_All}
use Rattle.std.proofs.lemmas.List.Sums.{sum_by-cons}
use Rattle.mp4_table.specs.declared.ctts.CttsBox.{CttsBox}
use Rattle.mp4_table.specs.declared.stsc.StscEntry.{StscEntry}
use Rattle.mp4_table.specs.declared.stco.StcoBox.{StcoBox}
use Rattle.mp4_table.specs.declared.co64.Co64Box.{Co64Box}
use Rattle.mp4_table.specs.Stts.{IsInRangeSttsEntry, IsInRangeStts, IsWellFormedStts}
use Rattle.mp4_table.specs.Ctts.{IsInRangeCttsEntry, IsInRangeCtts, IsWellFormedCtts}
use Rattle.mp4_table.specs.Stss.{IsInRangeStss, IsWellFormedStss}
use Rattle.mp4_table.specs.Stsc.{IsInRangeStscEntry, IsInRangeStsc, IsWellFormedStsc}
use Rattle.mp4_table.specs.Stsz.{IsInRangeStsz, IsWellFormedStsz}
use Rattle.mp4_table.specs.Stco.{IsInRangeStco, IsWellFormedStco}
use Rattle.mp4_table.specs.Co64.{IsInRangeCo64, IsWellFormedCo64}
use Rattle.mp4_boxes.specs.Stbl.{HasPlaces}
use Rattle.mp4_mux.specs.SampleInfos.{IsInRangeSampleInfo}
use Rattle.mp4_mux.specs.declared.sample_info.SampleInfo.{SampleInfo}
use Rattle.mp4_mux.specs.SampleTables.{runs_from, runs_of, same_duration, stts_run, same_offset, ctts_run, are_in_order}
use Rattle.mp4_mux.specs.SampleTables.{sync_numbers_from, one_size, listed_sizes, chunk_entries_from, are_far, stts_for}
use Rattle.mp4_mux.specs.SampleTables.{ctts_for, stss_for, stsz_for, stsc_for, stco_for, co64_for}
use Rattle.mp4_mux.proofs.SyncTableLaws.{sync_numbers_within}
use Rattle.mp4_mux.proofs.ChunkTableLaws.{stsc_for-has_first_samples}

-- what holds of a run of at most `most` members of which Q holds, holds of all runs
module _ {X R : Type 0} (same : X → X → Bool) (run : ℕ → X → R) (P : R → Type 0) (Q : X → Type 0) (most : ℕ)
    (fits : (n : ℕ) (x : X) → n ≤ most → Q x → P (run n x)) where
  runs_from_fit : (n : ℕ) (x : X) (ys : List X) → n + length ys ≤ most → Q x → All Q ys
      → AllByRecursion P (runs_from same run n x ys)
  unfolding runs_from
  runs_from_fit n x [] h q qs = (fits n x (omega arith) q, tt)
  runs_from_fit n x (y ∷ ys) h q qs =
      let head = All-head Q y ys qs in
      let tail = All-tail Q y ys qs in
      cond_both (same x y) (runs_from same run (n + 1) y ys) (run n x ∷ runs_from same run 1 y ys) (AllByRecursion P)
      (λ _. runs_from_fit (n + 1) y ys (omega arith) head tail)
      (λ _. (fits n x (omega arith) q, runs_from_fit 1 y ys (omega arith) head tail))

  runs_of_fit : (xs : List X) → length xs ≤ most → All Q xs → AllByRecursion P (runs_of same run xs)
  unfolding runs_of
  runs_of_fit [] h qs = tt
  runs_of_fit (x ∷ xs) h qs = runs_from_fit 1 x xs (omega arith) (All-head Q x xs qs) (All-tail Q x xs qs)

pub IsInRangeStts-stts_for : (ss : List SampleInfo) → All IsInRangeSampleInfo ss → length ss < 2 ^ 32
    → IsInRangeStts (stts_for ss)
unfolding stts_for
IsInRangeStts-stts_for ss fit h = record {
  version_fits = omega arith;
  entries_fit =
      runs_of_fit same_duration stts_run IsInRangeSttsEntry IsInRangeSampleInfo (2 ^ 32 - 1)
      (λ n s le r. record { sample_count = omega (arith, le); sample_delta = r.duration }) ss (omega arith) fit;
}

pub IsWellFormedStts-stts_for : (ss : List SampleInfo) → IsWellFormedStts (stts_for ss)
unfolding stts_for
IsWellFormedStts-stts_for ss = omega arith

pub IsInRangeCtts-ctts_for : (ss : List SampleInfo) → All IsInRangeSampleInfo ss → length ss < 2 ^ 32
    → IfSome (ctts_for ss) IsInRangeCtts
unfolding ctts_for
IsInRangeCtts-ctts_for ss fit h =
    let table : CttsBox = record { version = 0; flags = 0; entries = runs_of same_offset ctts_run ss } in
    cond_both (are_in_order ss) None (Some table) (λ ctts. IfSome ctts IsInRangeCtts) (λ _. tt)
    (λ _. record {
      version_fits = omega arith;
      entries_fit =
          runs_of_fit same_offset ctts_run IsInRangeCttsEntry IsInRangeSampleInfo (2 ^ 32 - 1)
          (λ n s le r. record { sample_count = omega (arith, le); sample_offset = r.rendering_offset }) ss (omega arith)
          fit;
    })

pub IsWellFormedCtts-ctts_for : (ss : List SampleInfo) → IfSome (ctts_for ss) IsWellFormedCtts
unfolding ctts_for
IsWellFormedCtts-ctts_for ss =
    let table : CttsBox = record { version = 0; flags = 0; entries = runs_of same_offset ctts_run ss } in
    cond_both (are_in_order ss) None (Some table) (λ ctts. IfSome ctts IsWellFormedCtts) (λ _. tt) (λ _. omega arith)

pub IsInRangeStss-stss_for : (ss : List SampleInfo) → length ss < 2 ^ 32 → IfSome (stss_for ss) IsInRangeStss
unfolding stss_for
IsInRangeStss-stss_for [] h = tt
IsInRangeStss-stss_for (s ∷ ss) h = record {
  version_fits = omega arith;
  entries_fit =
      recursion_from_All (λ n. n < 2 ^ 32) (sync_numbers_from 1 (s ∷ ss))
      (All-weaker (λ n. (1 ≤ n) × (n ≤ length (s ∷ ss))) (λ n. n < 2 ^ 32) (λ n p. omega (arith, p.1, h))
      (sync_numbers_from 1 (s ∷ ss)) (sync_numbers_within (s ∷ ss)));
}

pub IsWellFormedStss-stss_for : (ss : List SampleInfo) → IfSome (stss_for ss) IsWellFormedStss
unfolding stss_for
IsWellFormedStss-stss_for [] = tt
IsWellFormedStss-stss_for (s ∷ ss) = omega arith

-- where all sizes fit, one that is all samples' does, and those that are listed do
one_size_fits : (ss : List SampleInfo) → All IsInRangeSampleInfo ss → one_size ss < 2 ^ 32
unfolding one_size
one_size_fits [] fit = omega arith
one_size_fits (s ∷ ss) fit =
    cond_both (list_all (λ o. eqb o.size s.size) ss) s.size 0 (λ n. n < 2 ^ 32)
    (λ _. (All-head IsInRangeSampleInfo s ss fit).size) (λ _. omega arith)

sizes_fit : (ss : List SampleInfo) → All IsInRangeSampleInfo ss
    → AllByRecursion (λ n. n < 2 ^ 32) (map (λ s. s.size) ss)
sizes_fit [] fit = tt
sizes_fit (s ∷ ss) fit =
    ((All-head IsInRangeSampleInfo s ss fit).size, sizes_fit ss (All-tail IsInRangeSampleInfo s ss fit))

listed_sizes_fit : (ss : List SampleInfo) → All IsInRangeSampleInfo ss
    → AllByRecursion (λ n. n < 2 ^ 32) (listed_sizes ss)
unfolding listed_sizes
listed_sizes_fit ss fit =
    cond_both (eqb (one_size ss) 0) (map (λ s. s.size) ss) [] (AllByRecursion (λ n. n < 2 ^ 32))
    (λ _. sizes_fit ss fit) (λ _. tt)

pub IsInRangeStsz-stsz_for : (ss : List SampleInfo) → All IsInRangeSampleInfo ss → length ss < 2 ^ 32
    → IsInRangeStsz (stsz_for ss)
unfolding stsz_for
IsInRangeStsz-stsz_for ss fit h = record {
  version = omega arith;
  sample_size = one_size_fits ss fit;
  sample_count = h;
  sample_sizes = listed_sizes_fit ss fit;
}

pub IsWellFormedStsz-stsz_for : (ss : List SampleInfo) → IsWellFormedStsz (stsz_for ss)
unfolding stsz_for
IsWellFormedStsz-stsz_for ss = omega arith

-- chunks have at least as many samples as there are chunks
pub length-le-sum : (ns : List ℕ) → All (λ n. 1 ≤ n) ns → length ns ≤ sum ns
length-le-sum [] some = omega arith
length-le-sum (n ∷ ns) some =
    omega (
      arith,
      sum_by-cons (λ x. x) n ns,
      All-head (λ (n : ℕ). 1 ≤ n) n ns some,
      length-le-sum ns (All-tail (λ (n : ℕ). 1 ≤ n) n ns some),
    )

chunk_entries_fit : (n chunk sample : ℕ) (ms : List ℕ) → All (λ n. 1 ≤ n) ms → 1 ≤ sample
    → chunk + length ms ≤ 2 ^ 32 → sample + sum ms ≤ 2 ^ 32
    → AllByRecursion IsInRangeStscEntry (chunk_entries_from n chunk sample ms)
unfolding chunk_entries_from
chunk_entries_fit n chunk sample [] some first chunks samples = tt
chunk_entries_fit n chunk sample (m ∷ ms) some first chunks samples =
    let rest = chunk_entries_from m (chunk + 1) (sample + m) ms in
    let total : sample + (m + sum ms) ≤ 2 ^ 32 = omega (arith, samples, sum_by-cons (λ x. x) m ms) in
    let one : 1 ≤ m = All-head (λ (n : ℕ). 1 ≤ n) m ms some in
    let later : AllByRecursion IsInRangeStscEntry rest =
    chunk_entries_fit m (chunk + 1) (sample + m) ms (All-tail (λ (n : ℕ). 1 ≤ n) m ms some) (omega (arith, first))
    (omega (arith, chunks)) (omega (arith, total)) in
    let e : StscEntry = record {
      first_chunk = chunk;
      samples_per_chunk = m;
      sample_description_index = 1;
      first_sample = sample;
    } in
    cond_both (eqb m n) rest (e ∷ rest) (AllByRecursion IsInRangeStscEntry) (λ _. later)
    (λ _. (
      record {
        first_chunk = omega (arith, chunks);
        samples_per_chunk = omega (arith, total, first);
        sample_description_index = omega arith;
        first_sample = omega (arith, total, one);
      },
      later,
    ))

pub IsInRangeStsc-stsc_for : (ns : List ℕ) → All (λ n. 1 ≤ n) ns → sum ns < 2 ^ 32 → IsInRangeStsc (stsc_for ns)
unfolding stsc_for
IsInRangeStsc-stsc_for ns some h = record {
  version_fits = omega arith;
  entries_fit =
      chunk_entries_fit 0 1 1 ns some (omega arith) (omega (arith, length-le-sum ns some)) (omega arith);
}

pub IsWellFormedStsc-stsc_for : (ns : List ℕ) → All (λ n. 1 ≤ n) ns → IsWellFormedStsc (stsc_for ns)
unfolding stsc_for
IsWellFormedStsc-stsc_for ns some = record {
  flags = omega arith;
  first_samples = stsc_for-has_first_samples ns some;
}

-- where none is far, each has room in 32 bits
near_fit : (os : List ℕ) → are_far os ≡ false → AllByRecursion (λ n. n < 2 ^ 32) os
near_fit [] h = tt
near_fit (o ∷ os) h =
    let parts = or_parts (ltb (2 ^ 32 - 1) o) (are_far os) h in
    (omega (arith, ltb-false (2 ^ 32 - 1) o parts.0), near_fit os parts.1)

pub IsInRangeStco-stco_for : (os : List ℕ) → IfSome (stco_for os) IsInRangeStco
unfolding stco_for
IsInRangeStco-stco_for os =
    let table : StcoBox = record { version = 0; flags = 0; entries = os } in
    cond_both (are_far os) None (Some table) (λ stco. IfSome stco IsInRangeStco) (λ _. tt)
    (λ near. record { version_fits = omega arith; entries_fit = near_fit os near })

pub IsWellFormedStco-stco_for : (os : List ℕ) → IfSome (stco_for os) IsWellFormedStco
unfolding stco_for
IsWellFormedStco-stco_for os =
    let table : StcoBox = record { version = 0; flags = 0; entries = os } in
    cond_both (are_far os) None (Some table) (λ stco. IfSome stco IsWellFormedStco) (λ _. tt) (λ _. omega arith)

pub IsInRangeCo64-co64_for : (os : List ℕ) → All (λ o. o < 2 ^ 64) os → IfSome (co64_for os) IsInRangeCo64
unfolding co64_for
IsInRangeCo64-co64_for os fit =
    let table : Co64Box = record { version = 0; flags = 0; entries = os } in
    cond_both (are_far os) (Some table) None (λ co64. IfSome co64 IsInRangeCo64)
    (λ _. record { version_fits = omega arith; entries_fit = recursion_from_All (λ o. o < 2 ^ 64) os fit }) (λ _. tt)

pub IsWellFormedCo64-co64_for : (os : List ℕ) → IfSome (co64_for os) IsWellFormedCo64
unfolding co64_for
IsWellFormedCo64-co64_for os =
    let table : Co64Box = record { version = 0; flags = 0; entries = os } in
    cond_both (are_far os) (Some table) None (λ co64. IfSome co64 IsWellFormedCo64) (λ _. omega arith) (λ _. tt)

-- stco or co64 is there
pub HasPlaces-stco_for-co64_for : (os : List ℕ) → HasPlaces (stco_for os) (co64_for os)
unfolding stco_for co64_for
HasPlaces-stco_for-co64_for os =
    let near : StcoBox = record { version = 0; flags = 0; entries = os } in
    let far : Co64Box = record { version = 0; flags = 0; entries = os } in
    (elim (are_far os) as (λ b. HasPlaces (cond b None (Some near)) (cond b (Some far) None)) [
      | true ↦ tt
      | false ↦ tt
    ])
