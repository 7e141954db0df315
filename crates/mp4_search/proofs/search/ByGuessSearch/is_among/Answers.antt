use Rattle.std.proofs.Common.{sym, ◌∙◌}
use Rattle.mp4_search.proofs.Bits.{known_is}
use Rattle.mp4_search.proofs.search.ByGuessSearch.is_among.Goals as goal

pub returns-in-Some-clause-value : goal.returns-in-Some-clause-value
returns-in-Some-clause-value c =
    known_is c.args.numbers.now c.args.bits.now c.args.k c.in-Some.is_one c.requires.bits
    (sym c.in-Some.is ∙ c.contains.ensures.known)
