-- A part of a block is a part of the source.
use Rattle.std.proofs.Common.{◌≡◌, ℕ, ◌+◌, ◌-◌, ◌≤◌, List, length, take, drop, Option, None, Some, sym, ap, ◌∙◌}
use Rattle.std.proofs.Common.{arith, take-take}
use Rattle.std.proofs.lemmas.List.{drop-take, drop-drop}
use Rattle.mp4_source.specs.Source.{IsPartOf}
use Rattle.mp4_source.specs.Block.{IsHeld, IsBlockOf}

-- lists with the same front have the same parts within it
same_parts : (skipped n filled : ℕ) (xs ys : List ℕ) → skipped + n ≤ filled → take filled xs ≡ take filled ys
    → take n (drop skipped xs) ≡ take n (drop skipped ys)
same_parts skipped n filled xs ys within same =
    let rest = filled - skipped in
    let whole : skipped + rest ≡ filled = omega arith in
    let fits : n ≤ rest = omega arith in
    let front = λ (zs : List ℕ). ap (λ k. take k zs) whole in
    sym (take-take n rest (drop skipped xs) fits)
    ∙ ap (take n) (
    sym (drop-take skipped rest xs)
    ∙ ap (drop skipped) (front xs ∙ same ∙ sym (front ys))
    ∙ drop-take skipped rest ys
    )
    ∙ take-take n rest (drop skipped ys) fits

-- what a block holds is that part of the source
pub held_part : (known : Option (List ℕ)) (len start filled place n : ℕ) (bytes part : List ℕ)
    → part ≡ take n (drop (place - start) bytes) → IsHeld place n start filled → filled ≤ length bytes
    → start + length bytes ≤ len → IsBlockOf known len start filled bytes → IsPartOf known place n part
held_part None len start filled place n bytes part is held bound end block = tt
held_part (Some xs) len start filled place n bytes part is held bound end block =
    let skipped = place - start in
    let there : start + skipped ≡ place = omega arith in (
      omega arith,
      is
          ∙ same_parts skipped n filled bytes (drop start xs) (omega arith) block.1
          ∙ ap (take n) (drop-drop skipped start xs ∙ ap (λ k. drop k xs) there),
    )
