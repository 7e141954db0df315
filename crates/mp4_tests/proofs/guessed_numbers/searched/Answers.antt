use Rattle.std.proofs.lemmas.List.Sorted.{IsNonDecreasingBy-from_sort}
use Rattle.mp4_tests.proofs.guessed_numbers.searched.Goals as goal

pub returns : goal.returns
returns c = rw c.new.ensures (IsNonDecreasingBy-from_sort (λ x. x) _ c.sort_unstable.ensures.sorted)
