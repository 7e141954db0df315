-- The runs of the values of a column, run after run, and what other tables say of them.
use Rattle.std.proofs.Common.{◌≡◌, ℕ, zero, suc, ◌+◌, ◌<◌, ◌≤◌, Bool, true, false, not, cond, List, [], ◌∷◌, ◌++◌}
use Rattle.std.proofs.Common.{length}
use Rattle.std.proofs.Common.{replicate, get_or, drop, fold, max, refl, sym, ap, ◌∙◌, append_assoc, arith, ◌==◌, eq-eqb}
use Rattle.std.specs.List.{list_all, count_by}
use Rattle.std.proofs.lemmas.List.{drop_more, drop_all, nil_from_length, append-nil, length-append, length-replicate}
use Rattle.std.proofs.lemmas.List.{replicate_more}
use Rattle.std.proofs.lemmas.List.Sums.{sum_by-cons}
use Rattle.mp4_table.specs.Runs.{changes_after, changes}
use Rattle.mp4_mux.specs.declared.column.Run.{Run}
use Rattle.mp4_mux.specs.Columns.{values_of}
use Rattle.mp4_mux.specs.SampleTables.{runs_from, runs_of}
use Rattle.mp4_mux.specs.ColumnTables.{true_numbers_from, same_size}
use Rattle.mp4_mux.proofs.RunTableLaws.{length-runs_from, length-runs_of}

-- the values from run i on
abbrev pub rest : {X : Type 0} → List (Run X) → ℕ → List X
rest rs i = values_of (drop i rs)

pub some-runs : {X : Type 0} (rs : List (Run X)) → 0 < length (values_of rs) → 0 < length rs
unfolding values_of
some-runs [] h = h
some-runs (r ∷ rs) h = omega arith

module _ {X : Type 0} (rs : List (Run X)) where
  pub rest-end : (i : ℕ) → length rs ≤ i → rest rs i ≡ []
  unfolding values_of
  rest-end i h = ap values_of (drop_all i rs h)

  pub rest-more : (i : ℕ) (r : Run X) → i < length rs → r ≡ get_or rs i r
      → rest rs i ≡ replicate r.count r.value ++ rest rs (i + 1)
  unfolding values_of
  rest-more i r h is =
      ap values_of (drop_more rs i r h) ∙ ap (λ q. replicate q.count q.value ++ rest rs (i + 1)) (sym is)

  pub length-rest : (i : ℕ) (r : Run X) → i < length rs → r ≡ get_or rs i r
      → length (rest rs i) ≡ r.count + length (rest rs (i + 1))
  length-rest i r h is =
      omega (
        arith,
        ap length (rest-more i r h is),
        length-append (replicate r.count r.value) (rest rs (i + 1)),
        length-replicate r.count r.value,
      )

  pub length-first : (r : Run X) → 0 < length rs → r ≡ get_or rs 0 r
      → length (values_of rs) ≡ r.count + length (rest rs 1)
  length-first r h is = length-rest 0 r h is

module _ {X R : Type 0} (eq : X → X → Bool) (run : ℕ → X → R) (same : (x : X) → eq x x ≡ true) where
  -- more of the same value
  from-replicate : (n k : ℕ) (x : X) (ys : List X)
      → runs_from eq run n x (replicate k x ++ ys) ≡ runs_from eq run (n + k) x ys
  unfolding runs_from
  from-replicate n zero x ys =
      let none : n ≡ n + 0 = omega arith in
      ap (λ m. runs_from eq run m x ys) none
  from-replicate n (suc k) x ys =
      let more : n + 1 + k ≡ n + suc k = omega arith in
      rw (same x) (from-replicate (n + 1) k x ys ∙ ap (λ m. runs_from eq run m x ys) more)

  from-other : (n k : ℕ) (x y : X) (ys : List X) → eq x y ≡ false → 1 ≤ k
      → runs_from eq run n x (replicate k y ++ ys) ≡ run n x ∷ runs_from eq run k y ys
  unfolding runs_from
  from-other n zero x y ys e some = absurd (omega arith)
  from-other n (suc k) x y ys e some =
      let more : 1 + k ≡ suc k = omega arith in
      rw e (ap (λ rest. run n x ∷ rest) (from-replicate 1 k y ys ∙ ap (λ m. runs_from eq run m y ys) more))

  of-first : (k : ℕ) (x : X) (ys : List X) → 1 ≤ k → runs_of eq run (replicate k x ++ ys) ≡ runs_from eq run k x ys
  unfolding runs_of
  of-first zero x ys some = absurd (omega arith)
  of-first (suc k) x ys some =
      let more : 1 + k ≡ suc k = omega arith in
      from-replicate 1 k x ys ∙ ap (λ m. runs_from eq run m x ys) more

  module _ (rs : List (Run X)) where
    pub runs-same : (n i : ℕ) (x : X) (r : Run X) → i < length rs → r ≡ get_or rs i r → x ≡ r.value
        → runs_from eq run n x (rest rs i) ≡ runs_from eq run (n + r.count) x (rest rs (i + 1))
    runs-same n i x r h is e =
        ap (runs_from eq run n x) (rest-more rs i r h is)
        ∙ ap (λ y. runs_from eq run n x (replicate r.count y ++ rest rs (i + 1))) (sym e)
        ∙ from-replicate n r.count x (rest rs (i + 1))

    pub runs-other : (n i : ℕ) (x : X) (r : Run X) → i < length rs → r ≡ get_or rs i r → eq x r.value ≡ false
        → 1 ≤ r.count
        → runs_from eq run n x (rest rs i) ≡ run n x ∷ runs_from eq run r.count r.value (rest rs (i + 1))
    runs-other n i x r h is e some =
        ap (runs_from eq run n x) (rest-more rs i r h is)
        ∙ from-other n r.count x r.value (rest rs (i + 1)) e some

    pub runs-first : (r : Run X) → 0 < length rs → r ≡ get_or rs 0 r → 1 ≤ r.count
        → runs_from eq run r.count r.value (rest rs 1) ≡ runs_of eq run (values_of rs)
    runs-first r h is some =
        sym (ap (runs_of eq run) (rest-more rs 0 r h is) ∙ of-first r.count r.value (rest rs 1) some)

    pub runs-end : (n i : ℕ) (x : X) → length rs ≤ i → runs_from eq run n x (rest rs i) ≡ run n x ∷ []
    unfolding runs_from
    runs-end n i x h = ap (runs_from eq run n x) (rest-end rs i h)

  pub runs-none : (xs : List X) → length xs ≡ 0 → [] ≡ runs_of eq run xs
  unfolding runs_of
  runs-none xs h = sym (ap (runs_of eq run) (nil_from_length xs h))

module _ {X : Type 0} (eq : X → X → Bool) (same : (x : X) → eq x x ≡ true) (rs : List (Run X)) where
  unit : ℕ → X → ℕ
  unit n x = 0

  pub changes-same : (i : ℕ) (x : X) (r : Run X) → i < length rs → r ≡ get_or rs i r → x ≡ r.value
      → changes_after eq x (rest rs i) ≡ changes_after eq x (rest rs (i + 1))
  changes-same i x r h is e =
      omega (
        arith,
        ap length (runs-same eq unit same rs 0 i x r h is e),
        length-runs_from eq unit 0 x (rest rs i),
        length-runs_from eq unit (0 + r.count) x (rest rs (i + 1)),
      )

  pub changes-other : (i : ℕ) (x : X) (r : Run X) → i < length rs → r ≡ get_or rs i r → eq x r.value ≡ false
      → 1 ≤ r.count
      → changes_after eq x (rest rs i) ≡ 1 + changes_after eq r.value (rest rs (i + 1))
  changes-other i x r h is e some =
      omega (
        arith,
        ap length (runs-other eq unit same rs 0 i x r h is e some),
        length-runs_from eq unit 0 x (rest rs i),
        length-runs_from eq unit r.count r.value (rest rs (i + 1)),
      )

  pub changes-first : (r : Run X) → 0 < length rs → r ≡ get_or rs 0 r → 1 ≤ r.count
      → 1 + changes_after eq r.value (rest rs 1) ≡ changes eq (values_of rs)
  changes-first r h is some =
      omega (
        arith,
        ap length (runs-first eq unit same rs r h is some),
        length-runs_of eq unit (values_of rs),
        length-runs_from eq unit r.count r.value (rest rs 1),
      )

  pub changes-end : (i : ℕ) (x : X) → length rs ≤ i → changes_after eq x (rest rs i) ≡ 0
  unfolding changes_after
  changes-end i x h = ap (changes_after eq x) (rest-end rs i h)

pub changes-none : {X : Type 0} (eq : X → X → Bool) (xs : List X) → length xs ≡ 0 → 0 ≡ changes eq xs
unfolding changes
changes-none eq xs h = sym (ap (changes eq) (nil_from_length xs h))

changes_after-small : {X : Type 0} (eq : X → X → Bool) (x : X) (ys : List X) → changes_after eq x ys ≤ length ys
unfolding changes_after
changes_after-small eq x [] = omega arith
changes_after-small eq x (y ∷ ys) =
    (elim (eq x y) as (λ b. cond b 0 1 + changes_after eq y ys ≤ suc (length ys)) [
      | true ↦ omega (arith, changes_after-small eq y ys)
      | false ↦ omega (arith, changes_after-small eq y ys)
    ])

pub changes-small : {X : Type 0} (eq : X → X → Bool) (xs : List X) → changes eq xs ≤ length xs
unfolding changes
changes-small eq [] = omega arith
changes-small eq (x ∷ xs) = omega (arith, changes_after-small eq x xs)

-- WHETHER ALL ARE AS A TEST WANTS

module _ {X : Type 0} (p : X → Bool) where
  all-replicate : (k : ℕ) (x : X) (ys : List X) → p x ≡ true → list_all p (replicate k x ++ ys) ≡ list_all p ys
  all-replicate zero x ys e = refl
  all-replicate (suc k) x ys e = rw e (all-replicate k x ys e)

  none-replicate : (k : ℕ) (x : X) (ys : List X) → p x ≡ false → 1 ≤ k → list_all p (replicate k x ++ ys) ≡ false
  none-replicate zero x ys e some = absurd (omega arith)
  none-replicate (suc k) x ys e some = rw e refl

  module _ (rs : List (Run X)) where
    pub all-more : (i : ℕ) (r : Run X) → i < length rs → r ≡ get_or rs i r → p r.value ≡ true
        → list_all p (rest rs (i + 1)) ≡ list_all p (rest rs i)
    all-more i r h is e =
        sym (ap (list_all p) (rest-more rs i r h is) ∙ all-replicate r.count r.value (rest rs (i + 1)) e)

    pub all-not : (i : ℕ) (r : Run X) → i < length rs → r ≡ get_or rs i r → p r.value ≡ false → 1 ≤ r.count
        → false ≡ list_all p (rest rs i)
    all-not i r h is e some =
        sym (ap (list_all p) (rest-more rs i r h is) ∙ none-replicate r.count r.value (rest rs (i + 1)) e some)

    pub all-end : (i : ℕ) → length rs ≤ i → true ≡ list_all p (rest rs i)
    all-end i h = sym (ap (list_all p) (rest-end rs i h))

  pub all-none : (xs : List X) → length xs ≡ 0 → true ≡ list_all p xs
  all-none xs h = sym (ap (list_all p) (nil_from_length xs h))

-- THE LARGEST

max-replicate : (k m x : ℕ) (ys : List ℕ) → 1 ≤ k → fold max m (replicate k x ++ ys) ≡ fold max (max m x) ys
max-replicate zero m x ys some = absurd (omega arith)
max-replicate (suc zero) m x ys some = refl
max-replicate (suc (suc k)) m x ys some =
    max-replicate (suc k) (max m x) x ys (omega arith)
    ∙ ap (λ n. fold max n ys) (omega arith)

pub max-more : (rs : List (Run ℕ)) (m i : ℕ) (r : Run ℕ) → i < length rs → r ≡ get_or rs i r → 1 ≤ r.count
    → fold max (max m r.value) (rest rs (i + 1)) ≡ fold max m (rest rs i)
max-more rs m i r h is some =
    sym (ap (fold max m) (rest-more rs i r h is) ∙ max-replicate r.count m r.value (rest rs (i + 1)) some)

pub max-end : (rs : List (Run ℕ)) (m i : ℕ) → length rs ≤ i → m ≡ fold max m (rest rs i)
max-end rs m i h = sym (ap (fold max m) (rest-end rs i h))

pub not-true : (b : Bool) → not b ≡ true → b ≡ false
not-true true e = cc
not-true false e = refl

pub not-false : (b : Bool) → not b ≡ false → b ≡ true
not-false true e = refl
not-false false e = cc

-- HOW MANY ARE TRUE

count-true : (k : ℕ) (bs : List Bool) → count_by (λ b. b) (replicate k true ++ bs) ≡ k + count_by (λ b. b) bs
count-true zero bs =
    let none : count_by (λ b. b) bs ≡ 0 + count_by (λ b. b) bs = omega arith in
    none
count-true (suc k) bs =
    let more : 1 + (k + count_by (λ b. b) bs) ≡ suc k + count_by (λ b. b) bs = omega arith in
    sum_by-cons (λ (b : Bool). cond b 1 0) true (replicate k true ++ bs)
    ∙ ap (λ n. 1 + n) (count-true k bs)
    ∙ more

count-false : (k : ℕ) (bs : List Bool) → count_by (λ b. b) (replicate k false ++ bs) ≡ count_by (λ b. b) bs
count-false zero bs = refl
count-false (suc k) bs =
    let none : 0 + count_by (λ b. b) bs ≡ count_by (λ b. b) bs = omega arith in
    sum_by-cons (λ (b : Bool). cond b 1 0) false (replicate k false ++ bs)
    ∙ ap (λ n. 0 + n) (count-false k bs)
    ∙ none

module _ (rs : List (Run Bool)) (i : ℕ) (r : Run Bool) (h : i < length rs) (is : r ≡ get_or rs i r) where
  pub count-more : r.value ≡ true
      → count_by (λ b. b) (rest rs i) ≡ r.count + count_by (λ b. b) (rest rs (i + 1))
  count-more e =
      ap (count_by (λ b. b)) (rest-more rs i r h is)
      ∙ ap (λ b. count_by (λ b. b) (replicate r.count b ++ rest rs (i + 1))) e
      ∙ count-true r.count (rest rs (i + 1))

  pub count-other : r.value ≡ false → count_by (λ b. b) (rest rs i) ≡ count_by (λ b. b) (rest rs (i + 1))
  count-other e =
      ap (count_by (λ b. b)) (rest-more rs i r h is)
      ∙ ap (λ b. count_by (λ b. b) (replicate r.count b ++ rest rs (i + 1))) e
      ∙ count-false r.count (rest rs (i + 1))

pub count-end : (rs : List (Run Bool)) (i : ℕ) → length rs ≤ i → count_by (λ b. b) (rest rs i) ≡ 0
count-end rs i h = ap (count_by (λ b. b)) (rest-end rs i h)

-- WHICH ARE TRUE

numbers-append : (k : ℕ) (bs cs : List Bool)
    → true_numbers_from k (bs ++ cs) ≡ true_numbers_from k bs ++ true_numbers_from (k + length bs) cs
unfolding true_numbers_from
numbers-append k [] cs =
    let none : k ≡ k + 0 = omega arith in
    ap (λ m. true_numbers_from m cs) none
numbers-append k (b ∷ bs) cs =
    let more : k + 1 + length bs ≡ k + suc (length bs) = omega arith in
    let others = numbers-append (k + 1) bs cs ∙ ap (λ n. true_numbers_from (k + 1) bs ++ true_numbers_from n cs) more in
    (elim b as (λ b. cond b (k ∷ true_numbers_from (k + 1) (bs ++ cs)) (true_numbers_from (k + 1) (bs ++ cs))
    ≡ cond b (k ∷ true_numbers_from (k + 1) bs) (true_numbers_from (k + 1) bs)
    ++ true_numbers_from (k + suc (length bs)) cs) [
      | true ↦ ap (λ ns. k ∷ ns) others
      | false ↦ others
    ])

numbers-false : (n k : ℕ) → true_numbers_from k (replicate n false) ≡ []
unfolding true_numbers_from
numbers-false zero k = refl
numbers-false (suc n) k = numbers-false n (k + 1)

-- one more that is true
pub numbers-push : (k n : ℕ)
    → true_numbers_from k (replicate n true) ++ (k + n) ∷ [] ≡ true_numbers_from k (replicate (n + 1) true)
unfolding true_numbers_from
numbers-push k n =
    ap (λ m. true_numbers_from k (replicate n true) ++ m ∷ []) (ap (λ m. k + m) (sym (length-replicate n true)))
    ∙ sym (numbers-append k (replicate n true) (true ∷ []))
    ∙ ap (true_numbers_from k) (replicate_more n true)

pub numbers-nil : (k : ℕ) → true_numbers_from k [] ≡ []
unfolding true_numbers_from
numbers-nil k = refl

module _ (rs : List (Run Bool)) (i : ℕ) (r : Run Bool) (h : i < length rs) (is : r ≡ get_or rs i r) where
  numbers-more : (k : ℕ)
      → true_numbers_from k (rest rs i)
      ≡ true_numbers_from k (replicate r.count r.value) ++ true_numbers_from (k + r.count) (rest rs (i + 1))
  numbers-more k =
      ap (true_numbers_from k) (rest-more rs i r h is)
      ∙ numbers-append k (replicate r.count r.value) (rest rs (i + 1))
      ∙ ap (λ n. true_numbers_from k (replicate r.count r.value) ++ true_numbers_from (k + n) (rest rs (i + 1)))
      (length-replicate r.count r.value)

  pub numbers-other : (before : ℕ) → r.value ≡ false
      → true_numbers_from (before + r.count + 1) (rest rs (i + 1)) ≡ true_numbers_from (before + 1) (rest rs i)
  numbers-other before e =
      let others = λ (n : ℕ). true_numbers_from n (rest rs (i + 1)) in
      let at : before + 1 + r.count ≡ before + r.count + 1 = omega arith in
      sym (numbers-more (before + 1)
      ∙ ap (λ b. true_numbers_from (before + 1) (replicate r.count b) ++ others (before + 1 + r.count)) e
      ∙ ap (λ ns. ns ++ others (before + 1 + r.count)) (numbers-false r.count (before + 1))
      ∙ ap (λ n. true_numbers_from n (rest rs (i + 1))) at)

  pub numbers-true : (done : List ℕ) (before : ℕ) → r.value ≡ true
      → (done ++ true_numbers_from (before + 1) (replicate r.count true))
      ++ true_numbers_from (before + r.count + 1) (rest rs (i + 1))
      ≡ done ++ true_numbers_from (before + 1) (rest rs i)
  numbers-true done before e =
      let others = λ (n : ℕ). true_numbers_from n (rest rs (i + 1)) in
      let at : before + 1 + r.count ≡ before + r.count + 1 = omega arith in
      append_assoc done (true_numbers_from (before + 1) (replicate r.count true)) (others (before + r.count + 1))
      ∙ ap (λ ns. done ++ ns)
      (sym (numbers-more (before + 1)
      ∙ ap (λ b. true_numbers_from (before + 1) (replicate r.count b) ++ others (before + 1 + r.count)) e
      ∙ ap (λ n. true_numbers_from (before + 1) (replicate r.count true) ++ others n) at))

pub numbers-end : (rs : List (Run Bool)) (done : List ℕ) (before i : ℕ) → length rs ≤ i
    → done ++ true_numbers_from (before + 1) (rest rs i) ≡ done
unfolding true_numbers_from
numbers-end rs done before i h =
    ap (λ bs. done ++ true_numbers_from (before + 1) bs) (rest-end rs i h) ∙ append-nil done

-- THE ONE SIZE

of-one : (k x : ℕ) (ys : List ℕ) → 1 ≤ k
    → cond (list_all (λ y. y == x) (replicate k x ++ ys)) x 0 ≡ same_size (replicate k x ++ ys)
unfolding same_size
of-one zero x ys some = absurd (omega arith)
of-one (suc k) x ys some = rw (eq-eqb x x refl) refl

pub same_size-is : (rs : List (Run ℕ)) (r : Run ℕ) → 0 < length rs → r ≡ get_or rs 0 r → 1 ≤ r.count
    → cond (list_all (λ y. y == r.value) (values_of rs)) r.value 0 ≡ same_size (values_of rs)
same_size-is rs r h is some =
    ap (λ xs. cond (list_all (λ y. y == r.value) xs) r.value 0) (rest-more rs 0 r h is)
    ∙ of-one r.count r.value (rest rs 1) some
    ∙ sym (ap same_size (rest-more rs 0 r h is))

pub same_size-none : (xs : List ℕ) → length xs ≡ 0 → 0 ≡ same_size xs
unfolding same_size
same_size-none xs h = sym (ap same_size (nil_from_length xs h))
