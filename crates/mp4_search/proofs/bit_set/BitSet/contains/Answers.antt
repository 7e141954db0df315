use Rattle.std.proofs.Common.{◌*◌, ◌<◌, length, refl, arith}
use Rattle.std.proofs.lemmas.Bool.{lt-ltb}
use Rattle.mp4_search.specs.BitSet.{has_bit}
use Rattle.mp4_search.proofs.bit_set.BitSet.contains.Goals as goal

pub returns-then-index-len-clause-known : goal.returns-then-index-len-clause-known
unfolding has_bit
returns-then-index-len-clause-known c =
    let within : c.args.k < 64 * length c.args.self.now.words.items =
    omega (arith, c.if-index-len.true, c.len.ensures) in
    rw (lt-ltb _ _ within, c.read-word.ensures.word) refl
