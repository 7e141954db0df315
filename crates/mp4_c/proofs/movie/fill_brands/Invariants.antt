-- The front of the rows has the brands that were passed over.
use Rattle.std.proofs.Common.{◌≡◌, ◌≤◌, ◌++◌, length, map, take, drop}
use Rattle.mp4_c.specs.Movie.{brand_of}
use Rattle.mp4_c.proofs.movie.fill_brands.Given as goal

abbrev pub invariant-loop-k : goal.invariant-loop-k
invariant-loop-k l = record {
  front : l.rows ≡ map brand_of (take l.k l.brands) ++ drop l.k l.fn.rows;
  within : l.k ≤ length l.brands;
}
