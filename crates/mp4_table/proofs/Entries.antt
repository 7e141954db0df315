-- Entries are at least as many as the changes of the counts of their chunks.
use Rattle.std.proofs.Common.{◌≡◌, ℕ, zero, suc, ◌+◌, ◌-◌, ◌<◌, ◌≤◌, Bool, true, false, cond, leb, List, [], ◌∷◌}
use Rattle.std.proofs.Common.{◌++◌, length, replicate, nat_eq, Option, Some, None, IsSome, IsSomeAnd, slice_get}
use Rattle.std.proofs.Common.{option_map, unwrap_or, is_some, refl, sym, ap, ◌∙◌, subst, append_assoc, arith, add-one}
use Rattle.std.proofs.Common.{true≢false, ⊎_elim}
use Rattle.std.specs.List.{fold}
use Rattle.std.proofs.lemmas.Bool.{le-leb, lt-leb, cases_lt, eq-eqb}
use Rattle.std.proofs.lemmas.List.{append-nil, length_push, replicate_more}
use Rattle.std.proofs.lemmas.List.Sums.{fold-append}
use Rattle.std.proofs.lemmas.List.FromFn.{map-range_with_len_more}
use Rattle.mp4_table.specs.declared.stsc.StscEntry.{StscEntry}
use Rattle.mp4_table.specs.Runs.{changes}
use Rattle.mp4_table.specs.Chunks.{entry_of, samples_in, counts, EachHasEntry}
use Rattle.mp4_table.proofs.Changes.{changes-last_run}

-- a fact of each list, built up from the front
from_front : {A : Type 0} (P : List A → Type 0) → P [] → ((xs : List A) (x : A) → P xs → P (xs ++ x ∷ []))
    → (xs : List A) → P xs
from_front {A} P none more xs = on [] xs none
  where
    on : (front rest : List A) → P front → P (front ++ rest)
    on front [] p = subst P (sym (append-nil front)) p
    on front (x ∷ rest) p = subst P (append_assoc front (x ∷ []) rest) (on (front ++ x ∷ []) rest (more front x p))

-- one entry more
entry_of-more : (es : List StscEntry) (e : StscEntry) (c : ℕ)
    → entry_of (es ++ e ∷ []) c ≡ cond (leb e.first_chunk c) (Some e) (entry_of es c)
entry_of-more es e c =
    fold-append (λ (found : Option StscEntry) (x : StscEntry). cond (leb x.first_chunk c) (Some x) found) None es
    (e ∷ [])

entry_of-before : (es : List StscEntry) (e : StscEntry) (c : ℕ) → c < e.first_chunk
    → entry_of (es ++ e ∷ []) c ≡ entry_of es c
entry_of-before es e c h = entry_of-more es e c
    ∙ ap (λ (b : Bool). cond b (Some e) (entry_of es c)) (lt-leb e.first_chunk c h)

entry_of-from : (es : List StscEntry) (e : StscEntry) (c : ℕ) → e.first_chunk ≤ c → entry_of (es ++ e ∷ []) c ≡ Some e
entry_of-from es e c h = entry_of-more es e c
    ∙ ap (λ (b : Bool). cond b (Some e) (entry_of es c)) (le-leb e.first_chunk c h)

samples_in-before : (es : List StscEntry) (e : StscEntry) (c : ℕ) → c < e.first_chunk
    → samples_in (es ++ e ∷ []) c ≡ samples_in es c
unfolding samples_in
samples_in-before es e c h =
    ap (λ (o : Option StscEntry). unwrap_or (option_map (λ (x : StscEntry). x.samples_per_chunk) o) 0)
    (entry_of-before es e c h)

samples_in-from : (es : List StscEntry) (e : StscEntry) (c : ℕ) → e.first_chunk ≤ c
    → samples_in (es ++ e ∷ []) c ≡ e.samples_per_chunk
unfolding samples_in
samples_in-from es e c h =
    ap (λ (o : Option StscEntry). unwrap_or (option_map (λ (x : StscEntry). x.samples_per_chunk) o) 0)
    (entry_of-from es e c h)

-- one chunk more
counts-more : (es : List StscEntry) (n : ℕ) → counts es (n + 1) ≡ counts es n ++ samples_in es (n + 1) ∷ []
unfolding counts
counts-more es n = map-range_with_len_more (samples_in es) 1 n (n + 1) (omega arith)

no_chunks : (es : List StscEntry) → counts es 0 ≡ []
unfolding counts
no_chunks es = refl

counts-before : (es : List StscEntry) (e : StscEntry) (n : ℕ) → n < e.first_chunk
    → counts (es ++ e ∷ []) n ≡ counts es n
counts-before es e zero h = no_chunks (es ++ e ∷ []) ∙ sym (no_chunks es)
counts-before es e (suc n) h =
    let k : suc n ≡ n + 1 = omega arith in
    rw (
      k,
      counts-more (es ++ e ∷ []) n,
      counts-more es n,
      counts-before es e n (omega arith),
      samples_in-before es e (n + 1) (omega arith),
    ) refl

-- from its first chunk on, all chunks are the last entry's
counts-from : (es : List StscEntry) (e : StscEntry) (n m : ℕ) → counts (es ++ e ∷ []) n ≡ counts es n
    → e.first_chunk ≤ n + 1 → counts (es ++ e ∷ []) (n + m) ≡ counts es n ++ replicate m e.samples_per_chunk
counts-from es e n zero same h = let k : n + 0 ≡ n = omega arith in rw k (same ∙ sym (append-nil (counts es n)))
counts-from es e n (suc m) same h =
    let k : n + suc m ≡ n + m + 1 = omega arith in
    let v = e.samples_per_chunk in
    rw (
      k,
      counts-more (es ++ e ∷ []) (n + m),
      counts-from es e n m same h,
      samples_in-from es e (n + m + 1) (omega arith),
    )
    (append_assoc (counts es n) (replicate m v) (v ∷ [])
    ∙ ap (λ (x : List ℕ). counts es n ++ x) (rw (add-one m) at (replicate_more m v)))

-- the chunks before an entry's first have an entry without it
have_entry : (es : List StscEntry) (e : StscEntry) (n m : ℕ) → n < e.first_chunk → n ≤ m
    → EachHasEntry (es ++ e ∷ []) m → EachHasEntry es n
have_entry es e n m h le each c one within = rw (entry_of-before es e c (omega arith)) at (each c one (omega arith))

abbrev AtLeastTheChanges : List StscEntry → Type 0
AtLeastTheChanges es = (n : ℕ) → EachHasEntry es n → changes nat_eq (counts es n) ≤ length es

no_entry : AtLeastTheChanges []
unfolding changes counts
no_entry zero each = omega arith
no_entry (suc n) each = absurd (true≢false (sym (each 1 (omega arith) (omega arith))))

one_more : (es : List StscEntry) (e : StscEntry) → AtLeastTheChanges es → AtLeastTheChanges (es ++ e ∷ [])
one_more es e p n each = ⊎_elim before after (cases_lt n e.first_chunk)
  where
    before : n < e.first_chunk → changes nat_eq (counts (es ++ e ∷ []) n) ≤ length (es ++ e ∷ [])
    before h = rw (counts-before es e n h)
        (omega (arith, p n (have_entry es e n n h (omega arith) each), length_push es e))

    from : (k : ℕ) → k ≤ n → e.first_chunk ≤ k + 1 → counts (es ++ e ∷ []) k ≡ counts es k → EachHasEntry es k
        → changes nat_eq (counts (es ++ e ∷ []) n) ≤ length (es ++ e ∷ [])
    from k le h same with_entry =
        let whole : n ≡ k + (n - k) = omega arith in
        let cut : counts (es ++ e ∷ []) n ≡ counts es k ++ replicate (n - k) e.samples_per_chunk =
        ap (counts (es ++ e ∷ [])) whole ∙ counts-from es e k (n - k) same h in
        rw cut (omega (
          arith,
          changes-last_run nat_eq (λ x. eq-eqb x x refl) (counts es k) (n - k)
              e.samples_per_chunk,
          p k with_entry,
          length_push es e,
        ))

    after : e.first_chunk ≤ n → changes nat_eq (counts (es ++ e ∷ []) n) ≤ length (es ++ e ∷ [])
    after h = at_first e.first_chunk refl
      where
        at_first : (f : ℕ) → e.first_chunk ≡ f → changes nat_eq (counts (es ++ e ∷ []) n) ≤ length (es ++ e ∷ [])
        at_first zero is =
            from 0 (omega arith) (omega arith) (no_chunks (es ++ e ∷ []) ∙ sym (no_chunks es))
            (λ c one within. absurd (omega arith))
        at_first (suc k) is =
            from k (omega arith) (omega arith) (counts-before es e k (omega arith))
            (have_entry es e k n (omega arith) (omega arith) each)

pub changes-counts : (es : List StscEntry) → AtLeastTheChanges es
changes-counts es = from_front AtLeastTheChanges no_entry one_more es

-- what was found stays found
stays_found : (es : List StscEntry) (c : ℕ) (found : Option StscEntry) → IsSome found
    → IsSome (fold (λ (found : Option StscEntry) (x : StscEntry). cond (leb x.first_chunk c) (Some x) found) found es)
stays_found [] c found h = h
stays_found (e ∷ es) c found h =
    stays_found es c (cond (leb e.first_chunk c) (Some e) found) (chosen (leb e.first_chunk c))
  where
    chosen : (b : Bool) → IsSome (cond b (Some e) found)
    chosen true = refl
    chosen false = h

pub from_one : (es : List StscEntry) (n : ℕ) → IsSomeAnd (slice_get es 0) (λ e. e.first_chunk ≡ 1) → EachHasEntry es n
from_one [] n h = absurd h
from_one (e ∷ es) n h =
    λ c one within. stays_found es c (cond (leb e.first_chunk c) (Some e) None)
    (ap (λ (b : Bool). is_some (cond b (Some e) None)) (le-leb e.first_chunk c (omega (arith, h))))
