-- Whether numbers lie near a line, place after place, and how many numbers a search by it compares.
use Rattle.std.proofs.Common.{◌≡◌, ◌∙◌, ℕ, zero, suc, ◌+◌, ◌-◌, ◌/◌, ◌<◌, ◌≤◌, List, length, true, false, refl, sym, ap}
use Rattle.std.proofs.Common.{arith}
use Rattle.std.specs.Prelude.{Some, None}
use Rattle.std.proofs.lemmas.Bool.{le-leb, lt-leb}
use Rattle.mp4_search.specs.Guess.{expected_in, is_near, line_of, spread_place, strays, strays_among}
use Rattle.mp4_search.specs.Search.{comparisons_by_guess, comparisons_from, comparisons_in}
use Rattle.mp4_search.specs.declared.line.Line.{Line}

-- one place more, which doesn't stray
pub as_many : (line : Line) (numbers : List ℕ) (n place : ℕ) → place ≡ spread_place (length numbers) (n + 1)
    → strays line numbers place ≡ false → strays_among line numbers (n + 1) ≡ strays_among line numbers n
unfolding strays_among
as_many line numbers n place e k =
    let next : n + 1 ≡ suc n = omega arith in
    let same : strays line numbers (spread_place (length numbers) (suc n)) ≡ false = rw (sym next) (rw (sym e) k) in
    rw next (rw same (omega arith))

-- one that strays
pub one_more : (line : Line) (numbers : List ℕ) (n place : ℕ) → place ≡ spread_place (length numbers) (n + 1)
    → strays line numbers place ≡ true → strays_among line numbers (n + 1) ≡ strays_among line numbers n + 1
unfolding strays_among
one_more line numbers n place e k =
    let next : n + 1 ≡ suc n = omega arith in
    let same : strays line numbers (spread_place (length numbers) (suc n)) ≡ true = rw (sym next) (rw (sym e) k) in
    rw next (rw same refl)

-- at more places they stray no less often
strays_grow : (line : Line) (numbers : List ℕ) (more n : ℕ)
    → strays_among line numbers n ≤ strays_among line numbers (more + n)
unfolding strays_among
strays_grow line numbers zero n = let e : 0 + n ≡ n = omega arith in rw e (omega arith)
strays_grow line numbers (suc more) n =
    let e : suc more + n ≡ suc (more + n) = omega arith in
    rw e (omega (arith, strays_grow line numbers more n))

-- where one more strays than a quarter of all, they aren't near
pub far_from : (line : Line) (numbers : List ℕ) (n count place : ℕ) → n < count
    → place ≡ spread_place (length numbers) (n + 1) → strays line numbers place ≡ true
    → strays_among line numbers n ≡ count / 4 → is_near line numbers count ≡ false
far_from line numbers n count place h e k quarter =
    let parts : count - (n + 1) + (n + 1) ≡ count = omega (arith, h) in
    let grown : strays_among line numbers (n + 1) ≤ strays_among line numbers count =
    rw (sym parts) (strays_grow line numbers (count - (n + 1)) (n + 1)) in
    lt-leb _ (count / 4) (omega (arith, grown, one_more line numbers n place e k, quarter))

-- where no more than a quarter of all stray, they are
pub near_to : (line : Line) (numbers : List ℕ) (n count few : ℕ) → n ≡ count → strays_among line numbers n ≡ few
    → few ≤ count / 4 → is_near line numbers count ≡ true
near_to line numbers n count few whole is le =
    let same : strays_among line numbers count ≡ few = ap (λ (k : ℕ). strays_among line numbers k) (sym whole) ∙ is in
    le-leb _ (count / 4) (omega (arith, same, le))

-- few numbers have no line
few_none : (numbers : List ℕ) → length numbers ≤ 7 → line_of numbers ≡ None
unfolding line_of
few_none numbers h = rw (le-leb (length numbers) 7 h) refl

-- and are searched by halves
pub guessed_in_few : (numbers : List ℕ) → (key : ℕ) → length numbers ≤ 7 →
    comparisons_by_guess numbers key ≡ comparisons_in numbers key
unfolding comparisons_by_guess expected_in
guessed_in_few numbers key h = rw (few_none numbers h) refl

-- where there is no guess, by halves
pub guessed_nowhere : (numbers : List ℕ) → (key : ℕ) → None ≡ expected_in numbers key →
    comparisons_by_guess numbers key ≡ comparisons_in numbers key
unfolding comparisons_by_guess
guessed_nowhere numbers key h = rw (sym h) refl

-- else from the guess on
pub guessed_at : (numbers : List ℕ) → (key i : ℕ) → Some i ≡ expected_in numbers key →
    comparisons_by_guess numbers key ≡ comparisons_from numbers key i
unfolding comparisons_by_guess
guessed_at numbers key i h = rw (sym h) refl
