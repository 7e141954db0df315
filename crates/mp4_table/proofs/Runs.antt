-- Runs of chunks, numbered one after the other as a loop does, without a list of them.
use Rattle.std.proofs.Common.{◌≡◌, ℕ, suc, ◌+◌, ◌-◌, ◌*◌, ◌^◌, ◌<◌, ◌≤◌, Bool, true, false, cond, ltb, List}
use Rattle.std.proofs.Common.{◌∷◌}
use Rattle.std.proofs.Common.{Option, Some, None, Result, Ok, Err, refl, sym, ap, ◌∙◌, arith}
use Rattle.mp4_codec.specs.Cause.{Cause, invalid_data, ◌>>=◌, fault_of}
use Rattle.mp4_codec.specs.Bytes.{list_at}
use Rattle.mp4_codec.specs.Blocks.{block-is_block, is_block-has_length}
use Rattle.mp4_codec.specs.FieldLaws.{list-refuses}
use Rattle.mp4_codec.proofs.EarlyLaws.{fault-is, no_fault-early}
use Rattle.mp4_table.specs.declared.stsc.StscEntry.{StscEntry}
use Rattle.mp4_table.specs.Stsc.{with_first_sample, stsc_entry_in, stsc_entry_at, first_sample_after}
use Rattle.mp4_table.specs.Stsc.{numbered_after, runs_fault}

pub ruleset checked = (fault-is, no_fault-early)

abbrev runs_fault_of : Option StscEntry → Result (List StscEntry × List ℕ) Cause → Option Cause
runs_fault_of before r = fault_of (r >>= λ runs. numbered_after before runs.0)

abbrev led_by : StscEntry → Result (List StscEntry × List ℕ) Cause → Result (List StscEntry × List ℕ) Cause
led_by e r = ◌>>=◌ {B = List StscEntry × List ℕ} r (λ others. Ok (e ∷ others.0, others.1))

fault_after_first : (first : StscEntry) (r : Result (List StscEntry) Cause)
    → fault_of (r >>= λ others. Ok (first ∷ others)) ≡ fault_of r
fault_after_first first (Ok x) = refl
fault_after_first first (Err c) = refl

-- a run that can be numbered leaves the fault of the runs after it
one_more : (before : Option StscEntry) (e : StscEntry) (first_sample : ℕ)
    → first_sample_after before e.first_chunk ≡ Ok first_sample
    → (r : Result (List StscEntry × List ℕ) Cause)
    → runs_fault_of before (led_by e r) ≡ runs_fault_of (Some (with_first_sample first_sample e)) r
unfolding numbered_after
one_more before e first_sample is (Err c) = refl
one_more before e first_sample is (Ok x) =
    rw is (fault_after_first (with_first_sample first_sample e)
    (numbered_after (Some (with_first_sample first_sample e)) x.0))

-- the refusal of a run
one_refused : (before : Option StscEntry) (e : StscEntry) → first_sample_after before e.first_chunk ≡ Err invalid_data
    → (r : Result (List StscEntry × List ℕ) Cause) → ((d : Cause) → r ≡ Err d → d ≡ invalid_data)
    → runs_fault_of before (led_by e r) ≡ Some invalid_data
unfolding numbered_after
one_refused before e is (Err d) known = ap Some (known d refl)
one_refused before e is (Ok x) known = rw is refl

first_sample-refuses : (before : Option StscEntry) (chunk : ℕ) (c : Cause) → first_sample_after before chunk ≡ Err c
    → c ≡ invalid_data
unfolding first_sample_after
first_sample-refuses None chunk c e = absurd cc
first_sample-refuses (Some b) chunk c e =
    falls (ltb chunk b.first_chunk)
    (ltb (2 ^ 32 - 1) (b.first_sample + (chunk - b.first_chunk) * b.samples_per_chunk)) e
  where
    past : (b : Bool) (n : ℕ) → cond {A = Result ℕ Cause} b (Err invalid_data) (Ok n) ≡ Err c → c ≡ invalid_data
    past true n e = cc
    past false n e = absurd cc

    falls : (a d : Bool)
        → cond {A = Result ℕ Cause} a (Err invalid_data) (cond {A = Result ℕ Cause} d (Err invalid_data)
        (Ok (b.first_sample + (chunk - b.first_chunk) * b.samples_per_chunk))) ≡ Err c → c ≡ invalid_data
    falls true d e = cc
    falls false d e = past d _ e

module _ (before : Option StscEntry) (count i : ℕ) (bytes : List ℕ) (total : Option Cause) (lt : i < count)
    (so_far : runs_fault before (count - i) bytes ≡ total) where
  steps : count - i ≡ suc (count - (i + 1))
  steps = omega arith

  pub goes_on : (e : StscEntry) (after : List ℕ) (first_sample : ℕ) → stsc_entry_at bytes ≡ Ok (e, after)
      → first_sample_after before e.first_chunk ≡ Ok first_sample
      → runs_fault (Some (with_first_sample first_sample e)) (count - (i + 1)) after ≡ total
  unfolding list_at
  goes_on e after first_sample read is =
      let one : runs_fault before (count - i) bytes
      ≡ runs_fault (Some (with_first_sample first_sample e)) (count - (i + 1)) after =
      rw (steps, read) (one_more before e first_sample is (list_at stsc_entry_at (count - (i + 1)) after)) in
      sym one ∙ so_far

  pub ends_short : stsc_entry_at bytes ≡ Err invalid_data → total ≡ Some invalid_data
  unfolding list_at
  ends_short read =
      let one : runs_fault before (count - i) bytes ≡ Some invalid_data = rw (steps, read) refl in
      sym so_far ∙ one

  pub ends : (e : StscEntry) (after : List ℕ) (c : Cause) → stsc_entry_at bytes ≡ Ok (e, after)
      → first_sample_after before e.first_chunk ≡ Err c → total ≡ Some c
  unfolding list_at
  ends e after c read is =
      let known : c ≡ invalid_data = first_sample-refuses before e.first_chunk c is in
      let refused : first_sample_after before e.first_chunk ≡ Err invalid_data = is ∙ ap Err known in
      let one : runs_fault before (count - i) bytes ≡ Some invalid_data =
      rw (steps, read) (one_refused before e refused (list_at stsc_entry_at (count - (i + 1)) after)
      (λ d is_err. list-refuses stsc_entry_at 12
      (is_block-has_length stsc_entry_at 12 stsc_entry_in (block-is_block 12 stsc_entry_in)) (count - (i + 1)) after d
      is_err)) in
      sym so_far ∙ one ∙ ap Some (sym known)

-- all runs were gone over
pub is_done : (before : Option StscEntry) (count i : ℕ) (bytes : List ℕ) (total : Option Cause) → count ≤ i
    → runs_fault before (count - i) bytes ≡ total → total ≡ None
unfolding list_at numbered_after
is_done before count i bytes total le so_far =
    let none : count - i ≡ 0 = omega arith in
    let one : runs_fault before (count - i) bytes ≡ None = rw none refl in
    sym so_far ∙ one
