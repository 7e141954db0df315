-- The last sync sample up to a number, in the numbers of stss.
use Rattle.std.proofs.Common.{◌≡◌, ℕ, zero, suc, ◌+◌, ◌<◌, ◌≤◌, Bool, true, false, List, [], length, get_or, take}
use Rattle.std.proofs.Common.{Option, Some, None, refl, sym, ap, ◌∙◌, arith, ⊎_elim, ◌⊎◌, inl, inr, max}
use Rattle.std.specs.Prelude.{nat_lt, slice_index, ◌==◌, ◌||◌, ◌&&◌}
use Rattle.std.specs.List.{list_any}
use Rattle.std.specs.List.Sorted.{IsNonDecreasing}
use Rattle.std.proofs.lemmas.Bool.{and_right, cases_eq, cases_lt, eq-eqb, le-ltb, lt-ltb, ne_eqb}
use Rattle.std.proofs.lemmas.Bool.{or_from, or_left, or_right}
use Rattle.std.proofs.lemmas.List.Folds.{list_any_more}
use Rattle.mp4_search.specs.Partition.{AnswersLast, IsLastWith}
use Rattle.mp4_search.specs.Search.{IsLastAtMost}
use Rattle.mp4_table.specs.declared.stss.StssBox.{StssBox}
use Rattle.mp4_lookup.specs.ByTime.{is_number_of, is_sync_in_table, larger_upto}
use Rattle.mp4_lookup.proofs.Searches.{list_any-searched, list_any-searched_none}

-- a number that samples have
number_is : (numbers : List ℕ) (k : ℕ) → 0 < k → is_number_of numbers k ≡ list_any (λ n. n == k) numbers
unfolding is_number_of
number_is numbers k some = rw (lt-ltb 0 k some) refl

number_zero : (numbers : List ℕ) → is_number_of numbers 0 ≡ false
unfolding is_number_of
number_zero numbers = refl

-- none of no numbers is one
pub no_number : (k j : ℕ) → j < k + 1 → is_number_of [] j ≡ false
unfolding is_number_of
no_number k j h = and_right (nat_lt 0 j) false refl

-- one number more
pub number_more : (numbers : List ℕ) (i j : ℕ) (d : ℕ) → i < length numbers
    → is_number_of (take (i + 1) numbers) j
    ≡ (nat_lt 0 j && (list_any (λ n. n == j) (take i numbers) || (get_or numbers i d == j)))
unfolding is_number_of
number_more numbers i j d h = ap (λ b. nat_lt 0 j && b) (list_any_more (λ n. n == j) numbers i d h)

-- where numbers rise, the last up to k that is found is the last of them
found_upto : (numbers : List ℕ) (k i j : ℕ) → IsNonDecreasing numbers → IsLastAtMost numbers k i
    → slice_index numbers i ≤ j → j ≤ k → 0 < j → is_number_of numbers j ≡ (slice_index numbers i == j)
found_upto numbers k i j up at least most some =
    number_is numbers j some ∙ sym (list_any-searched numbers j i up (record {
      within = at.within;
      small = least;
      later = λ q h l. omega (arith, at.later q h l, most);
    }))

pub last_number_upto : (numbers : List ℕ) (k i n : ℕ) → IsNonDecreasing numbers → IsLastAtMost numbers k i
    → n ≡ slice_index numbers i → 0 < n → IsLastWith (is_number_of numbers) (k + 1) n
last_number_upto numbers k i n up at is some = record {
  within = omega (arith, at.small, is);
  own = found_upto numbers k i n up at (omega (arith, is)) (omega (arith, at.small, is)) some
      ∙ eq-eqb (slice_index numbers i) n (sym is);
  later = λ j h l. found_upto numbers k i j up at (omega (arith, is, h)) (omega (arith, l)) (omega (arith, h))
      ∙ ne_eqb (slice_index numbers i) j (λ e. omega (arith, e, is, h));
}

pub no_number_upto : (numbers : List ℕ) (k i : ℕ) → IsNonDecreasing numbers → IsLastAtMost numbers k i
    → slice_index numbers i ≡ 0 → (j : ℕ) → j < k + 1 → is_number_of numbers j ≡ false
no_number_upto numbers k i up at is zero h = number_zero numbers
no_number_upto numbers k i up at is (suc j) h =
    found_upto numbers k i (suc j) up at (omega (arith, is)) (omega (arith, h)) (omega arith)
    ∙ ne_eqb (slice_index numbers i) (suc j) (λ e. omega (arith, e, is))

pub none_upto : (numbers : List ℕ) (k : ℕ) → ((j : ℕ) → j < length numbers → k < slice_index numbers j)
    → (j : ℕ) → j < k + 1 → is_number_of numbers j ≡ false
none_upto numbers k above zero h = number_zero numbers
none_upto numbers k above (suc j) h =
    number_is numbers (suc j) (omega arith)
    ∙ list_any-searched_none numbers (suc j) (λ i l. omega (arith, above i l, h))

-- among numbers in no order, the largest so far

or_nothing : (b : Bool) → (b || false) ≡ b
or_nothing true = refl
or_nothing false = refl

spread : (a b c : Bool) → (a && (b || c)) ≡ ((a && b) || (a && c))
spread true b c = refl
spread false b c = refl

not_it : (m j : ℕ) → (m ≡ 0) ⊎ (j < m) ⊎ (m < j) → (nat_lt 0 j && (m == j)) ≡ false
not_it m zero other = refl
not_it m (suc j) other = and_right (nat_lt 0 (suc j)) (m == suc j) (⊎_elim
    (λ (none : m ≡ 0). ne_eqb m (suc j) (λ e. omega (arith, e, none)))
    (λ (apart : (suc j < m) ⊎ (m < suc j)). ne_eqb m (suc j) (λ e. ⊎_elim
    (λ (h : suc j < m). omega (arith, e, h))
    (λ (h : m < suc j). omega (arith, e, h))
    apart))
    other)

it : (m : ℕ) → 0 < m → (nat_lt 0 m && (m == m)) ≡ true
it m some = rw (lt-ltb 0 m some) (eq-eqb m m refl)

same_last : (had has : ℕ → Bool) (k : ℕ) (largest : Option ℕ) → ((j : ℕ) → j < k + 1 → has j ≡ had j)
    → AnswersLast had (k + 1) largest → AnswersLast has (k + 1) largest
same_last had has k None same last = λ j h. same j h ∙ last j h
same_last had has k (Some n) same last = record {
  within = last.within;
  own = same n last.within ∙ last.own;
  later = λ j h l. same j l ∙ last.later j h l;
}

larger_is : (had has : ℕ → Bool) (k m : ℕ) (largest : Option ℕ) → 0 < m → m ≤ k
    → ((j : ℕ) → has j ≡ (had j || (nat_lt 0 j && (m == j)))) → AnswersLast had (k + 1) largest
    → AnswersLast has (k + 1) (larger_upto k largest m)
larger_is had has k m None some most more last =
    rw (ne_eqb m 0 (λ e. omega (arith, e, some)), le-ltb k m most) (record {
      within = omega (arith, most);
      own = more m ∙ or_right (had m) (nat_lt 0 m && (m == m)) (it m some);
      later = λ j h l. more j ∙ or_from (had j) (nat_lt 0 j && (m == j)) (last j l) (not_it m j (inr (inr h)));
    })
larger_is had has k m (Some n) some most more last =
    rw (ne_eqb m 0 (λ e. omega (arith, e, some)), le-ltb k m most) (record {
      within = omega (arith, most, last.within);
      own = ⊎_elim
          (λ (h : n < m + 1). let e : m ≡ max n m = omega (arith, h) in
          rw (← e) (more m ∙ or_right (had m) (nat_lt 0 m && (m == m)) (it m some)))
          (λ (h : m + 1 ≤ n). let e : n ≡ max n m = omega (arith, h) in
          rw (← e) (more n ∙ or_left (had n) (nat_lt 0 n && (m == n)) last.own))
          (cases_lt n (m + 1));
      later = λ j h l. more j
          ∙ or_from (had j) (nat_lt 0 j && (m == j)) (last.later j (omega (arith, h)) l)
          (not_it m j (inr (inr (omega (arith, h)))));
    })

larger_of : (had has : ℕ → Bool) (k m : ℕ) (largest : Option ℕ)
    → ((j : ℕ) → has j ≡ (had j || (nat_lt 0 j && (m == j)))) → AnswersLast had (k + 1) largest
    → AnswersLast has (k + 1) (larger_upto k largest m)
larger_of had has k m largest more last =
    let same = λ (apart : (j : ℕ) → j < k + 1 → (nat_lt 0 j && (m == j)) ≡ false).
    same_last had has k largest (λ j h. more j ∙ rw (apart j h) (or_nothing (had j))) last in
    ⊎_elim
    (λ (none : m ≡ 0). rw (eq-eqb m 0 none) (same (λ j h. not_it m j (inl none))))
    (λ (ne : m ≡ 0 → ⊥). ⊎_elim
    (λ (past : k < m). rw (ne_eqb m 0 ne, lt-ltb k m past)
    (same (λ j h. not_it m j (inr (inl (omega (arith, h, past)))))))
    (λ (most : m ≤ k). larger_is had has k m largest (omega (arith, ne)) most more last)
    (cases_lt k m))
    (cases_eq m 0)

pub larger_more : (numbers : List ℕ) (k i d : ℕ) (largest : Option ℕ) → i < length numbers
    → AnswersLast (is_number_of (take i numbers)) (k + 1) largest
    → AnswersLast (is_number_of (take (i + 1) numbers)) (k + 1) (larger_upto k largest (get_or numbers i d))
unfolding is_number_of
larger_more numbers k i d largest h last =
    larger_of (is_number_of (take i numbers)) (is_number_of (take (i + 1) numbers)) k (get_or numbers i d) largest
    (λ j. number_more numbers i j d h
    ∙ spread (nat_lt 0 j) (list_any (λ n. n == j) (take i numbers)) (get_or numbers i d == j))
    last

-- in the table of sync samples, or without one

pub last_in_table : (stss : StssBox) (k : ℕ) (last : Option ℕ) → AnswersLast (is_number_of stss.entries) (k + 1) last
    → AnswersLast (is_sync_in_table (Some stss)) (k + 1) last
unfolding is_number_of is_sync_in_table
last_in_table stss k last s = s

pub last_of_all : (k : ℕ) → 1 ≤ k → IsLastWith (is_sync_in_table None) (k + 1) k
unfolding is_sync_in_table
last_of_all k some = record {
  within = omega arith;
  own = rw (lt-ltb 0 k (omega (arith, some))) refl;
  later = λ j h l. absurd (omega (arith, h, l));
}

pub none_of_none : (k j : ℕ) → k ≡ 0 → j < k + 1 → is_sync_in_table None j ≡ false
unfolding is_sync_in_table
none_of_none k zero none h = refl
none_of_none k (suc j) none h = absurd (omega (arith, none, h))
