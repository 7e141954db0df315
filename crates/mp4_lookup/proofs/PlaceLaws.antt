-- Where a sample lies by `places`, read off at its place in the list.
use Rattle.std.proofs.Common.{◌≡◌, ℕ, zero, suc, ◌+◌, ◌<◌, ◌≤◌, List, [], ◌∷◌, ◌++◌, length, get_or, take, drop}
use Rattle.std.proofs.Common.{sum, refl, sym, ap, ◌∙◌, arith, zero-add, add-zero}
use Rattle.std.proofs.lemmas.List.{length-take, length-take-le, take-take, get_or-take, get_or-drop, drop-drop}
use Rattle.std.proofs.lemmas.List.{get_or_append_left, get_or-append-add, length-drop}
use Rattle.std.proofs.lemmas.List.Sums.{sum_by-cons}
use Rattle.mp4_table.specs.Chunks.{laid_from, places}

pub length-laid_from : (place : ℕ) (sizes : List ℕ) → length (laid_from place sizes) ≡ length sizes
unfolding laid_from
length-laid_from place [] = refl
length-laid_from place (size ∷ sizes) = ap suc (length-laid_from (place + size) sizes)

pub get_or-laid_from : (place : ℕ) (sizes : List ℕ) (j : ℕ) (d : ℕ × ℕ) → j < length sizes
    → get_or (laid_from place sizes) j d ≡ (place + sum (take j sizes), get_or sizes j 0)
unfolding laid_from
get_or-laid_from place [] j d h = absurd (omega arith)
get_or-laid_from place (size ∷ sizes) zero d h = ap (λ (p : ℕ). (p, size)) (sym (add-zero place))
get_or-laid_from place (size ∷ sizes) (suc j) d h = get_or-laid_from (place + size) sizes j d (omega arith)
    ∙ ap (λ (p : ℕ). (p, get_or sizes j 0)) (omega (arith, sum_by-cons (λ x. x) size (take j sizes)))

-- member j of piece c
pub get_or-places : (counts offsets sizes : List ℕ) (c j : ℕ) (d : ℕ × ℕ) → c < length counts → c < length offsets
    → j < get_or counts c 0 → sum (take c counts) + j < length sizes →
    get_or (places counts offsets sizes) (sum (take c counts) + j) d
    ≡ (
      get_or offsets c 0 + sum (take j (drop (sum (take c counts)) sizes)),
      get_or sizes (sum (take c counts) + j) 0,
    )
unfolding places
get_or-places [] offsets sizes c j d h1 h2 h3 h4 = absurd (omega arith)
get_or-places (n ∷ counts) [] sizes c j d h1 h2 h3 h4 = absurd (omega arith)
get_or-places (n ∷ counts) (offset ∷ offsets) sizes zero j d h1 h2 h3 h4 =
    let at : j < length (take n sizes) = rw (length-take n sizes) (omega arith) in
    let whole : j < length (laid_from offset (take n sizes)) = rw (length-laid_from offset (take n sizes)) at in
    rw (zero-add j)
    (get_or_append_left (laid_from offset (take n sizes)) (places counts offsets (drop n sizes)) d j whole
    ∙ get_or-laid_from offset (take n sizes) j d at
    ∙ rw (take-take j n sizes (omega arith), get_or-take n sizes j 0 h3) refl)
get_or-places (n ∷ counts) (offset ∷ offsets) sizes (suc c) j d h1 h2 h3 h4 =
    let before = sum (take c counts) in
    let piece = laid_from offset (take n sizes) in
    let cut : sum (n ∷ take c counts) ≡ n + before = sum_by-cons (λ x. x) n (take c counts) in
    let fits : n ≤ length sizes = omega (arith, cut) in
    let whole : length piece ≡ n = length-laid_from offset (take n sizes) ∙ length-take-le n sizes fits in
    let rest : before + j < length (drop n sizes) = rw (length-drop n sizes) (omega (arith, cut)) in
    let at : sum (n ∷ take c counts) + j ≡ length piece + (before + j) = omega (arith, cut, whole) in
    let located : n + (before + j) ≡ sum (n ∷ take c counts) + j = omega (arith, cut) in
    ap (λ m. get_or (piece ++ places counts offsets (drop n sizes)) m d) at
    ∙ get_or-append-add piece (places counts offsets (drop n sizes)) (before + j) d
    ∙ get_or-places counts offsets (drop n sizes) c j d (omega arith) (omega arith) h3 rest
    ∙ rw (drop-drop before n sizes, get_or-drop n sizes (before + j) 0, located, sym cut) refl
