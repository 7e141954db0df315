-- The codes are those of the brands that were passed over.
use Rattle.std.proofs.Common.{◌≡◌, map, take}
use Rattle.mp4_c.specs.Written.{four_cc}
use Rattle.mp4_c.proofs.configs.brand_codes.Given as goal

abbrev pub invariant-loop-brand : goal.invariant-loop-brand
invariant-loop-brand l = l.codes.items ≡ map four_cc (take l.brand-index l.brands)
