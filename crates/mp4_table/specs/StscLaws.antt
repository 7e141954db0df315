-- Entries are read as they were written, with the first samples that they have.
use Rattle.std.proofs.Common.{◌≡◌, ℕ, zero, suc, ◌+◌, ◌-◌, ◌*◌, ◌^◌, ◌<◌, ◌≤◌, Bool, true, false, cond, ltb, List, []}
use Rattle.std.proofs.Common.{◌∷◌, ◌++◌, length, get_or, map, Some, None, Result, Ok, Err, refl, sym, ap, ◌∙◌, subst}
use Rattle.std.proofs.Common.{arith}
use Rattle.std.specs.List.{flat_map, AllByRecursion}
use Rattle.std.proofs.lemmas.Bool.{le-ltb, ltb-false}
use Rattle.std.proofs.lemmas.List.Concat.{flat_map-cons}
use Rattle.std.proofs.lemmas.List.{length-map, drop-drop}
use Rattle.mp4_codec.specs.Cause.{Cause, invalid_data, ◌>>=◌}
use Rattle.mp4_codec.specs.Bytes.{◌⧺◌}
use Rattle.mp4_codec.specs.FieldLaws.{block_again, take-number, drop-number, number_back}
use Rattle.mp4_codec.specs.FieldLaws.{length-number, length-then}
use Rattle.mp4_codec.specs.Steps.{ok_is, both_steps}
use Rattle.mp4_table.specs.declared.stsc.StscEntry.{StscEntry}
use Rattle.mp4_table.specs.declared.stsc.StscBox.{StscBox}
use Rattle.mp4_table.specs.Table.{table_of, table}
use Rattle.mp4_table.specs.TableLaws.{table_again, length-table_of_same}
use Rattle.mp4_table.specs.Stsc.{with_first_sample, stsc_entry_in, stsc_entry_at, stsc_entry, IsInRangeStscEntry}
use Rattle.mp4_table.specs.Stsc.{FitsStoredEntry}
use Rattle.mp4_table.specs.Stsc.{sample_number, first_sample_after, numbered_after, stsc_of, stsc_payload}
use Rattle.mp4_table.specs.Stsc.{HasFirstSamples, IsInRangeStsc, IsCanonicalStsc}
use Rattle.mp4_codec.specs.WriteLaws.{is_written}

pub length-stsc_entry : (e : StscEntry) → length (stsc_entry e) ≡ 12
unfolding stsc_entry
length-stsc_entry e = simp (length-then, length-number) refl

pub length-stsc_payload : (b : StscBox) → length (stsc_payload b) ≡ 8 + length b.entries * 12
unfolding stsc_payload
length-stsc_payload b = length-table_of_same (λ _. stsc_entry) 12 b.version b.flags b.entries length-stsc_entry

-- an entry as it is stored is read again
pub stsc_entry_again : (e : StscEntry) (rest : List ℕ) → FitsStoredEntry e
    → stsc_entry_at (stsc_entry e ⧺ rest) ≡ Ok (e, rest)
unfolding stsc_entry
stsc_entry_again e rest f =
    rw (
      block_again 12 stsc_entry_in (stsc_entry e) rest (length-stsc_entry e),
      take-number 4 e.first_chunk _,
      ← drop-drop 4 4 (stsc_entry e),
      drop-number 4 e.first_chunk _,
      take-number 4 e.samples_per_chunk _,
      drop-number 4 e.samples_per_chunk _,
      number_back 4 e.first_chunk f.fits.first_chunk,
      number_back 4 e.samples_per_chunk f.fits.samples_per_chunk,
      number_back 4 e.sample_description_index f.fits.sample_description_index,
    ) (ap (λ (n : ℕ). Ok (with_first_sample n e, rest)) (sym f.no_first_sample))

-- one entry after another
abbrev Follows : StscEntry → StscEntry → Type 0
Follows a b = (a.first_chunk ≤ b.first_chunk)
    × (b.first_sample ≡ a.first_sample + (b.first_chunk - a.first_chunk) * a.samples_per_chunk)

abbrev AllFollow : StscEntry → List StscEntry → Type 0
AllFollow a [] = Unit {0}
AllFollow a (b ∷ bs) = Follows a b × AllFollow b bs

sample_number-is : (n m : ℕ) → sample_number n ≡ Ok m → m ≡ n
sample_number-is n m e = chosen (ltb (2 ^ 32 - 1) n) e
  where
    chosen : (b : Bool) → cond {A = Result ℕ Cause} b (Err invalid_data) (Ok n) ≡ Ok m → m ≡ n
    chosen true h = absurd cc
    chosen false h = cc

follows : (a b : StscEntry) (n : ℕ) → first_sample_after (Some a) b.first_chunk ≡ Ok n
    → Follows a (with_first_sample n b)
unfolding first_sample_after
follows a b n e = chosen (ltb b.first_chunk a.first_chunk) (ltb-false b.first_chunk a.first_chunk) e
  where
    chosen : (t : Bool) → (t ≡ false → a.first_chunk ≤ b.first_chunk)
        → cond {A = Result ℕ Cause} t (Err invalid_data)
        (sample_number (a.first_sample + (b.first_chunk - a.first_chunk) * a.samples_per_chunk)) ≡ Ok n
        → Follows a (with_first_sample n b)
    chosen true h k = absurd cc
    chosen false h k =
        (h refl, sample_number-is (a.first_sample + (b.first_chunk - a.first_chunk) * a.samples_per_chunk) n k)

-- the entries after the first step of numbering
abbrev numbered_from : StscEntry → List StscEntry → ℕ → Result (List StscEntry) Cause
numbered_from e es n =
    numbered_after (Some (with_first_sample n e)) es >>= λ others. Ok (with_first_sample n e ∷ others)

all_follow : (es : List StscEntry) (a : StscEntry) (out : List StscEntry) → numbered_after (Some a) es ≡ Ok out
    → AllFollow a out
unfolding numbered_after
all_follow [] a out h = subst (AllFollow a) (ok_is [] out h) tt
all_follow (e ∷ es) a out h =
    let one = both_steps (first_sample_after (Some a) e.first_chunk) (numbered_from e es) out h in
    let b = with_first_sample one.0 e in
    let two = both_steps (numbered_after (Some b) es) (λ others. Ok (b ∷ others)) out one.2 in
    subst (AllFollow a) (ok_is (b ∷ two.0) out two.2) (follows a e one.0 one.1, all_follow es b two.0 two.1)

-- the same by place
follows_at : (a : StscEntry) (es : List StscEntry) → AllFollow a es → (k : ℕ) (d : StscEntry)
    → k + 1 < length (a ∷ es) → Follows (get_or (a ∷ es) k d) (get_or (a ∷ es) (k + 1) d)
follows_at a [] h k d lt = absurd (omega arith)
follows_at a (b ∷ bs) h zero d lt = h.0
follows_at a (b ∷ bs) h (suc k) d lt =
    let next : suc k + 1 ≡ suc (k + 1) = omega arith in
    rw next (follows_at b bs h.1 k d (omega arith))

all_follow_by_place : (a : StscEntry) (es : List StscEntry)
    → ((k : ℕ) (d : StscEntry) → k + 1 < length (a ∷ es) → Follows (get_or (a ∷ es) k d) (get_or (a ∷ es) (k + 1) d))
    → AllFollow a es
all_follow_by_place a [] h = tt
all_follow_by_place a (b ∷ bs) h =
    let next : (k : ℕ) → suc k + 1 ≡ suc (k + 1) = λ k. omega arith in
    (h 0 a (omega arith), all_follow_by_place b bs (λ k d lt. rw (next k) at (h (suc k) d (omega arith))))

-- what reading gives has its first samples
pub numbered-has_first_samples : (es out : List StscEntry) → numbered_after None es ≡ Ok out → HasFirstSamples out
unfolding numbered_after first_sample_after
numbered-has_first_samples [] out h = subst HasFirstSamples (ok_is [] out h) (record {
  first = λ d lt. absurd (omega arith);
  chunks = λ k d lt. absurd (omega arith);
  next = λ k d lt. absurd (omega arith);
})
numbered-has_first_samples (e ∷ es) out h =
    let a = with_first_sample 1 e in
    let two = both_steps (numbered_after (Some a) es) (λ others. Ok (a ∷ others)) out h in
    let each = follows_at a two.0 (all_follow es a two.0 two.1) in
    subst HasFirstSamples (ok_is (a ∷ two.0) out two.2) (record {
      first = λ d lt. refl;
      chunks = λ k d lt. (each k d lt).0;
      next = λ k d lt. (each k d lt).1;
    })

pub stsc_of-has_first_samples : (payload : List ℕ) (b : StscBox) → stsc_of payload ≡ Ok b → HasFirstSamples b.entries
unfolding stsc_of
stsc_of-has_first_samples payload b h =
    let one = both_steps (table_of (λ _. stsc_entry_at) payload)
    (λ t. numbered_after None t.2 >>= λ es. Ok (record { version = t.0; flags = t.1; entries = es })) b h in
    let two = both_steps (numbered_after None one.0.2)
    (λ es. Ok (record { version = one.0.0; flags = one.0.1; entries = es })) b one.2 in
    let same = ok_is (record { version = one.0.0; flags = one.0.1; entries = two.0 }) b two.2 in
    subst (λ (t : StscBox). HasFirstSamples t.entries) same (numbered-has_first_samples one.0.2 two.0 two.1)

-- the entries as they are stored
abbrev stored : List StscEntry → List StscEntry
stored es = map (with_first_sample 0) es

stored_bytes : (es : List StscEntry) → flat_map stsc_entry (stored es) ≡ flat_map stsc_entry es
unfolding stsc_entry
stored_bytes [] = refl
stored_bytes (e ∷ es) =
    flat_map-cons stsc_entry (with_first_sample 0 e) (stored es)
    ∙ ap (λ (rest : List ℕ). stsc_entry e ++ rest) (stored_bytes es) ∙ sym (flat_map-cons stsc_entry e es)

stored_fit : (es : List StscEntry) → AllByRecursion IsInRangeStscEntry es → AllByRecursion FitsStoredEntry (stored es)
stored_fit [] h = tt
stored_fit (e ∷ es) h = (
  record {
    fits = record {
      first_chunk = h.0.first_chunk;
      samples_per_chunk = h.0.samples_per_chunk;
      sample_description_index = h.0.sample_description_index;
      first_sample = omega arith;
    };
    no_first_sample = refl;
  },
  stored_fit es h.1,
)

first_sample_is : (a b : StscEntry) → IsInRangeStscEntry b → Follows a b
    → first_sample_after (Some a) b.first_chunk ≡ Ok b.first_sample
unfolding first_sample_after
first_sample_is a b f h =
    rw (
      le-ltb b.first_chunk a.first_chunk h.0,
      ← h.1,
      le-ltb (2 ^ 32 - 1) b.first_sample (omega (arith, f.first_sample)),
    ) refl

numbered_again : (a : StscEntry) (es : List StscEntry) → AllByRecursion IsInRangeStscEntry es → AllFollow a es
    → numbered_after (Some a) (stored es) ≡ Ok es
unfolding numbered_after
numbered_again a [] fits h = refl
numbered_again a (e ∷ es) fits h = rw (first_sample_is a e fits.0 h.0, numbered_again e es fits.1 h.1) refl

pub first_samples_again : (es : List StscEntry) → AllByRecursion IsInRangeStscEntry es → HasFirstSamples es
    → numbered_after None (stored es) ≡ Ok es
unfolding numbered_after first_sample_after
first_samples_again [] fits h = refl
first_samples_again (e ∷ es) fits h =
    let one : 1 ≡ e.first_sample = sym (h.first e (omega arith)) in
    rw (one, numbered_again e es fits.1 (all_follow_by_place e es (λ k d lt. (h.chunks k d lt, h.next k d lt)))) refl

stored_again : (b : StscBox) → IsInRangeStsc b → b.flags < 2 ^ 24 → length b.entries < 2 ^ 32
    → table_of (λ _. stsc_entry_at) (stsc_payload b) ≡ Ok (b.version, b.flags, stored b.entries)
unfolding stsc_payload table
stored_again b f flags count =
    rw (← stored_bytes b.entries, ← length-map b.entries (with_first_sample 0))
    (table_again (λ _. stsc_entry_at) (λ _. stsc_entry) FitsStoredEntry b.version b.flags (stored b.entries)
    (record { again = stsc_entry_again })
    (record { version_fits = f.version_fits; entries_fit = stored_fit b.entries f.entries_fit }) flags
    (rw (length-map b.entries (with_first_sample 0)) count))

pub stsc_again : (b : StscBox) → IsCanonicalStsc b → stsc_of (stsc_payload b) ≡ Ok b
unfolding stsc_of
stsc_again b f =
    let size = (is_written (stsc_payload b) None f.written).small in
    let count : length b.entries < 2 ^ 32 = omega (arith, size, length-stsc_payload b) in
    rw (
      stored_again b f.in_range f.well_formed.flags count,
      first_samples_again b.entries f.in_range.entries_fit f.well_formed.first_samples,
    ) refl
