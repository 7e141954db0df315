-- What holds of each element of a list holds of each that a sort moves.
use Rattle.std.proofs.lemmas.List.Sorted.{All-permutation}

pub ruleset permuted = (All-permutation)
