-- Lists without the zeros at their ends.
use Rattle.std.proofs.Common.{◌≡◌, ℕ, ◌+◌, ◌-◌, ◌<◌, ◌≤◌, List, [], ◌∷◌, ◌++◌, length, take}
use Rattle.std.proofs.Common.{get_or, refl, arith, ap, ◌∙◌, sym}
use Rattle.std.proofs.lemmas.Bool.Decides.{nat_tests}
use Rattle.std.proofs.lemmas.Grind.{common_steps}
use Rattle.std.proofs.lemmas.List.{take_more}
use Rattle.mp4_report.specs.CodecNames.{without_end_zeros}

-- a zero more at the end
end_zero : (xs : List ℕ) → without_end_zeros (xs ++ (0 ∷ [])) ≡ without_end_zeros xs
unfolding without_end_zeros
end_zero [] = refl
end_zero (x ∷ xs) = let before = end_zero xs in grind (arith, common_steps, before)

-- another number at the end
end_other : (xs : List ℕ) (n : ℕ) → 0 < n → without_end_zeros (xs ++ (n ∷ [])) ≡ xs ++ (n ∷ [])
unfolding without_end_zeros
end_other [] n some = grind (arith, nat_tests)
end_other (x ∷ xs) n some = let before = end_other xs n some in grind (arith, nat_tests, common_steps, before)

-- up to a zero, and past it
pub past_zero : (xs : List ℕ) (count : ℕ) → 0 < count → count ≤ length xs → get_or xs (count - 1) 0 ≡ 0
    → without_end_zeros (take (count - 1) xs) ≡ without_end_zeros (take count xs)
past_zero xs count some le zero =
    let next : count - 1 + 1 ≡ count = omega arith in
    let more = take_more xs (count - 1) 0 (omega arith) in
    let last = ap (λ n. take n xs) (sym next) ∙ more ∙ ap (λ x. take (count - 1) xs ++ (x ∷ [])) zero in
    sym (ap without_end_zeros last ∙ end_zero (take (count - 1) xs))

-- nothing is left out after another number
pub past_other : (xs : List ℕ) (count : ℕ) → 0 < count → count ≤ length xs → (get_or xs (count - 1) 0 ≡ 0 → ⊥)
    → without_end_zeros (take count xs) ≡ take count xs
past_other xs count some le other =
    let next : count - 1 + 1 ≡ count = omega arith in
    let last = ap (λ n. take n xs) (sym next) ∙ take_more xs (count - 1) 0 (omega arith) in
    ap without_end_zeros last ∙ end_other (take (count - 1) xs) _ (omega (arith, other)) ∙ sym last

-- nor where there are none
pub past_none : (xs : List ℕ) (count : ℕ) → count ≤ 0 → without_end_zeros (take count xs) ≡ take count xs
unfolding without_end_zeros
past_none xs count none = let no : count ≡ 0 = omega arith in rw no

pub ruleset end_zeros = (past_zero, past_other, past_none)
