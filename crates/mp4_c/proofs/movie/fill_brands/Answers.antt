-- Each turn fills in one brand more.
use Rattle.std.proofs.Common.{arith, ◌∙◌}
use Rattle.mp4_c.specs.Movie.{brand_of}
use Rattle.mp4_c.proofs.Fills.{fill_more, fills_all}
use Rattle.mp4_c.proofs.movie.fill_brands.Goals as goal

pub loop-k-preserved : goal.loop-k-preserved
loop-k-preserved c = record {
  front = fill_more brand_of _ _ _ _ _ c.loop-k.invariant.front (omega arith) (omega arith);
  within = omega arith;
}

pub returns-clause-rows : goal.returns-clause-rows
returns-clause-rows c =
    c.loop-k.invariant.front ∙ fills_all brand_of _ _ _ (omega arith) (omega arith) c.loop-k.invariant.within
