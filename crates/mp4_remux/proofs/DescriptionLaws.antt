-- Runs of samples of one description, one after the other.
use Rattle.std.proofs.Common.{◌≡◌, ◌∙◌, ◌+◌, ◌-◌, ◌^◌, ◌<◌, ◌≤◌, ◌++◌, ℕ, min, nat_lt, Bool, true, false, List}
use Rattle.std.proofs.Common.{[], ◌∷◌}
use Rattle.std.proofs.Common.{drop, length, map, get_or, refl, sym, ap, append_assoc, arith}
use Rattle.std.proofs.lemmas.Bool.{le-ltb, lt-ltb, ltb-false, ltb-true}
use Rattle.std.proofs.lemmas.List.{append-nil, drop_all, drop_more}
use Rattle.std.specs.Prelude.{option_map, unwrap_or}
use Rattle.std.specs.List.{filter}
use Rattle.mp4_codec.specs.Children.{last}
use Rattle.mp4_table.specs.declared.stsc.StscEntry.{StscEntry}
use Rattle.mp4_moof.specs.declared.traf.TrafBox.{TrafBox}
use Rattle.mp4_remux.specs.declared.descriptions.DescribedRun.{DescribedRun}
use Rattle.mp4_remux.specs.Descriptions.{description_in, fragment_runs, last_before, samples_in, table_runs}
use Rattle.mp4_remux.specs.Descriptions.{within_32_bits}

-- THE LAST OF SOME

module _ {X : Type 0} (f : X → ℕ) where
  -- what is said where there is none doesn't matter
  some_last : (x : X) (xs : List X) (d e : ℕ)
      → unwrap_or (option_map f (last (x ∷ xs))) d ≡ unwrap_or (option_map f (last (x ∷ xs))) e
  some_last x [] d e = refl
  some_last x (y ∷ ys) d e = some_last y ys d e

  after_first : (x : X) (xs : List X) (d : ℕ)
      → unwrap_or (option_map f (last (x ∷ xs))) d ≡ unwrap_or (option_map f (last xs)) (f x)
  after_first x [] d = refl
  after_first x (y ∷ ys) d = some_last y ys d (f x)

  module _ (p : X → Bool) (xs : List X) (i : ℕ) (x : X) (lt : i < length xs) (d : ℕ) where
    -- one that counts
    pub one_counts : p (get_or xs i x) ≡ true
        → unwrap_or (option_map f (last (filter p (drop (i + 1) xs)))) (f (get_or xs i x))
        ≡ unwrap_or (option_map f (last (filter p (drop i xs)))) d
    one_counts yes' =
        rw (drop_more xs i x lt, yes') (sym (after_first (get_or xs i x) (filter p (drop (i + 1) xs)) d))

    -- one that doesn't
    pub one_passed : p (get_or xs i x) ≡ false
        → unwrap_or (option_map f (last (filter p (drop (i + 1) xs)))) d
        ≡ unwrap_or (option_map f (last (filter p (drop i xs)))) d
    one_passed no' = rw (drop_more xs i x lt, no') refl

-- RUNS

module _ (rs : List DescribedRun) (i : ℕ) (r : DescribedRun) (lt : i < length rs) (is : r ≡ get_or rs i r) where
  there : drop i rs ≡ r ∷ drop (i + 1) rs
  there = drop_more rs i r lt ∙ ap (λ (x : DescribedRun). x ∷ drop (i + 1) rs) (sym is)

  -- a run that is over
  pub run_over : (k later : ℕ) → r.last < k → k ≤ later
      → description_in (drop (i + 1) rs) later ≡ description_in (drop i rs) later
  unfolding description_in
  run_over k later over le = rw (there, lt-ltb r.last later (omega (arith, over, le))) refl

  -- the run of a sample
  pub run_found : (k : ℕ) → k ≤ r.last → description_in (drop i rs) k ≡ r.description
  unfolding description_in
  run_found k le = rw (there, le-ltb r.last k le) refl

pub none_found : (rs : List DescribedRun) (i k : ℕ) → length rs ≤ i → description_in (drop i rs) k ≡ 1
unfolding description_in
none_found rs i k le = rw (drop_all i rs le) refl

-- the runs of one entry more
pub entry_run : (es : List StscEntry) (i count : ℕ) (d : StscEntry) (done : List DescribedRun) → i < length es
    → (done ++ record {
      last = last_before count (drop (i + 1) es);
      description = (get_or es i d).sample_description_index;
    } ∷ []) ++ table_runs count (drop (i + 1) es) ≡ done ++ table_runs count (drop i es)
unfolding table_runs
entry_run es i count d done lt =
    append_assoc done _ (table_runs count (drop (i + 1) es)) ∙ rw (drop_more es i d lt) refl

pub entries_over : (es : List StscEntry) (i count : ℕ) (done : List DescribedRun) → length es ≤ i
    → done ++ table_runs count (drop i es) ≡ done
unfolding table_runs
entries_over es i count done le = rw (drop_all i es le) (append-nil done)

-- the run of one track fragment more
pub traf_run : (fs : List TrafBox) (i default before : ℕ) (d : TrafBox) (done : List DescribedRun) (end : ℕ)
    → i < length fs → end ≡ min (2 ^ 32 - 1) (before + samples_in (get_or fs i d).truns)
    → (done ++ record {
      last = end;
      description = unwrap_or (get_or fs i d).tfhd.sample_description_index default;
    } ∷ []) ++ map within_32_bits (fragment_runs default (before + samples_in (get_or fs i d).truns) (drop (i + 1) fs))
    ≡ done ++ map within_32_bits (fragment_runs default before (drop i fs))
unfolding fragment_runs
traf_run fs i default before d done end lt is =
    append_assoc done _
    (map within_32_bits (fragment_runs default (before + samples_in (get_or fs i d).truns) (drop (i + 1) fs)))
    ∙ rw (drop_more fs i d lt, is) refl

pub trafs_over : (fs : List TrafBox) (i default before : ℕ) (done : List DescribedRun) → length fs ≤ i
    → done ++ map within_32_bits (fragment_runs default before (drop i fs)) ≡ done
unfolding fragment_runs
trafs_over fs i default before done le = rw (drop_all i fs le) (append-nil done)

-- a number of 32 bits is past a run as it is kept exactly where it is past the run
kept_past : (end k : ℕ) → k < 2 ^ 32 → nat_lt (min (2 ^ 32 - 1) end) k ≡ nat_lt end k
kept_past end k small = by (nat_lt end k) refl
  where
    by : (b : Bool) → nat_lt end k ≡ b → nat_lt (min (2 ^ 32 - 1) end) k ≡ b
    by true past = lt-ltb (min (2 ^ 32 - 1) end) k (omega (arith, ltb-true end k past, small))
    by false within = le-ltb (min (2 ^ 32 - 1) end) k (omega (arith, ltb-false end k within, small))

same_kept : (rs : List DescribedRun) (k : ℕ) → k < 2 ^ 32
    → description_in (map within_32_bits rs) k ≡ description_in rs k
unfolding description_in
same_kept [] k small = refl
same_kept (r ∷ rs) k small = rw (kept_past r.last k small, same_kept rs k small) refl

pub same_after : (done rs : List DescribedRun) (k : ℕ) → k < 2 ^ 32
    → description_in (done ++ map within_32_bits rs) k ≡ description_in (done ++ rs) k
unfolding description_in
same_after [] rs k small = same_kept rs k small
same_after (d ∷ ds) rs k small = rw (same_after ds rs k small) refl
