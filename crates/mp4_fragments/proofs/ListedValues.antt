-- Sums of values of which some are listed.
use Rattle.std.proofs.Common.{◌≡◌, ℕ, zero, suc, ◌+◌, ◌-◌, ◌*◌, ◌<◌, ◌≤◌, ◌⊎◌, min, List, length, get_or, take, drop}
use Rattle.std.proofs.Common.{sum, refl, sym, ap, ◌∙◌, arith, add-one, inl, inr, ⊎_elim}
use Rattle.std.specs.List.{between}
use Rattle.std.proofs.Math.Nat.{add-mul}
use Rattle.std.proofs.lemmas.Bool.{cases_lt}
use Rattle.std.proofs.lemmas.List.{get_or_past, take-take}
use Rattle.std.proofs.lemmas.List.Sums.{sum_by_more, sum_by-take-drop}
use Rattle.std.proofs.lemmas.Slice.{between_is}
use Rattle.mp4_fragments.specs.Numbers.{sum_of_first}

pub sum_of_first-none : (values : List ℕ) (default : ℕ) → sum_of_first 0 values default ≡ 0
unfolding sum_of_first
sum_of_first-none values default = refl

pub sum_of_first-more : (n : ℕ) (values : List ℕ) (default : ℕ) → sum_of_first (n + 1) values default
    ≡ sum_of_first n values default + get_or values n default
unfolding sum_of_first
sum_of_first-more n values default = rw (add-one n) refl

-- past those that are listed each is the default
past : (n m : ℕ) (values : List ℕ) (default : ℕ) → length values ≤ n → sum_of_first (m + n) values default
    ≡ sum_of_first n values default + m * default
past n zero values default h = let e : 0 + n ≡ n = omega arith in rw e (omega arith)
past n (suc m) values default h =
    let e : suc m + n ≡ (m + n) + 1 = omega arith in
    let last : get_or values (m + n) default ≡ default = get_or_past values (m + n) default (omega arith) in
    rw e (omega (arith, sum_of_first-more (m + n) values default, past n m values default h, last))

pub sum_of_first-past : (n m : ℕ) (values : List ℕ) (default : ℕ) → length values ≤ n
    → sum_of_first (n + m) values default ≡ sum_of_first n values default + m * default
sum_of_first-past n m values default h = let e : n + m ≡ m + n = omega arith in rw e (past n m values default h)

pub sum_of_first-listed : (listed n : ℕ) (values : List ℕ) (default : ℕ) → listed ≤ n → (length values ≤ listed) ⊎
    (listed ≡ n) → sum_of_first listed values default + (n - listed) * default ≡ sum_of_first n values default
sum_of_first-listed listed n values default h which =
    ⊎_elim
    (λ (all : length values ≤ listed).
    let e : n ≡ listed + (n - listed) = omega arith in
    sym (sum_of_first-past listed (n - listed) values default all) ∙ ap (λ k. sum_of_first k values default) (sym e))
    (λ (same : listed ≡ n).
    let none : n - listed ≡ 0 = omega arith in
    rw (none, same) (omega arith))
    which

-- those that are listed
sum_of_first-all : (n : ℕ) (values : List ℕ) (default : ℕ) → n ≤ length values
    → sum_of_first n values default ≡ sum (take n values)
sum_of_first-all zero values default h = sum_of_first-none values default
sum_of_first-all (suc n) values default h =
    rw (← add-one n) (omega (
      arith,
      sum_of_first-more n values default,
      sum_by_more (λ x. x) values n default (omega arith),
      sum_of_first-all n values default (omega arith),
    ))

-- and those between two numbers
sum_of_first-between : (start end : ℕ) (values : List ℕ) (default : ℕ) → start ≤ end → end ≤ length values
    → sum_of_first start values default + sum (between start end values) ≡ sum_of_first end values default
sum_of_first-between start end values default h l =
    let parts : sum (take start (take end values)) + sum (drop start (take end values)) ≡ sum (take end values) =
    sum_by-take-drop (λ x. x) (take end values) start in
    let front : take start (take end values) ≡ take start values = take-take start end values h in
    let part : between start end values ≡ drop start (take end values) = between_is values start end in
    omega (
      arith,
      sum_of_first-all start values default (omega arith),
      sum_of_first-all end values default l,
      ap sum part,
      ap sum front,
      parts,
    )

-- The values between two numbers: those that are listed, then as many defaults.
pub sum_of_first-on : (from to start end unlisted : ℕ) (values : List ℕ) (default : ℕ) → from ≤ to
    → start ≡ min (length values) from → end ≡ min (length values) to → unlisted ≡ (to - from) - (end - start)
    → sum_of_first from values default + (sum (between start end values) + unlisted * default)
    ≡ sum_of_first to values default
sum_of_first-on from to start end unlisted values default h s e u =
    let many : (to - end) ≡ (from - start) + unlisted = omega arith in
    let defaults : (to - end) * default ≡ (from - start) * default + unlisted * default =
    ap (λ n. n * default) many ∙ add-mul (from - start) unlisted default in
    omega (
      arith,
      sum_of_first-between start end values default (omega arith) (omega arith),
      sum_of_first-listed start from values default (omega arith) (listed (length values) from start s),
      sum_of_first-listed end to values default (omega arith) (listed (length values) to end e),
      defaults,
    )
  where
    listed : (l n m : ℕ) → m ≡ min l n → (l ≤ m) ⊎ (m ≡ n)
    listed l n m is = ⊎_elim (λ (a : l < n). inl (omega arith)) (λ (b : n ≤ l). inr (omega arith)) (cases_lt l n)
