use Rattle.mp4_search.proofs.Bits.{one_more}
use Rattle.mp4_search.proofs.bit_set.set_bit.Goals as goal

pub returns-then-index-words-clause-set : goal.returns-then-index-words-clause-set
returns-then-index-words-clause-set c = λ k h. one_more c.args.words.now c.args.number k c.if-index-words.true
