-- Where there are no numbers, no search compares one.
use Rattle.std.proofs.Common.{ℕ, [], refl, arith}
use Rattle.mp4_search.specs.Guess.{expected_in, line_of}
use Rattle.mp4_search.specs.Partition.{asked_between}
use Rattle.mp4_search.specs.Search.{IsCountByGuess, IsCountByHalves, comparisons_by_guess, comparisons_in}

pub nothing_by_halves : (key : ℕ) → IsCountByHalves [] key 0
unfolding comparisons_in asked_between
nothing_by_halves key = record {
  searched = refl;
  few = record { most = omega arith; some = λ h. absurd (omega (arith, h)) };
}

pub nothing_by_guess : (key : ℕ) → IsCountByGuess [] key 0
unfolding comparisons_by_guess expected_in line_of comparisons_in asked_between
nothing_by_guess key = record {
  searched = refl;
  few = record { most = omega arith; some = λ h. absurd (omega (arith, h)) };
}
