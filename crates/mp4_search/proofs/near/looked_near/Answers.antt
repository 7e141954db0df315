use Rattle.std.proofs.Common.{◌+◌, ◌-◌, ap, arith, ◌∙◌}
use Rattle.mp4_search.specs.Search.{after_earlier_looks, after_later_looks, after_looks_near}
use Rattle.mp4_search.proofs.Looks.{stays_after, stays_before}
use Rattle.mp4_search.proofs.near.looked_near.Goals as goal

-- what is left is after the index, so no look goes before it
pub returns-then-at-all-clause-counted : goal.returns-then-at-all-clause-counted
unfolding after_looks_near
returns-then-at-all-clause-counted c =
    let numbers = c.args.numbers.now in
    let key = c.args.key in
    let i = c.args.index in
    let after = c.look-at.ensures.after c.if-at-all.true in
    let from = c.look_later.ensures.from in
    let looked = rw (c.len.ensures, c.requires.room) at c.look-at.ensures.counted in
    stays_after numbers key (i - 256) _ _
    (stays_after numbers key (i - 16) _ _
    (stays_after numbers key (i - 1) _ _
    (c.look_later.ensures.counted ∙ ap (after_later_looks numbers key i) looked)
    (omega (arith, after, from)))
    (omega (arith, after, from)))
    (omega (arith, after, from))

pub returns-then-at-all-clause-some : goal.returns-then-at-all-clause-some
returns-then-at-all-clause-some c =
    let seen = c.look-at.ensures.seen (omega arith) (omega arith) in
    omega (arith, seen, c.look_later.ensures.some)

-- what is left is before the index, so no look goes after it
pub returns-else-at-all-clause-counted : goal.returns-else-at-all-clause-counted
unfolding after_looks_near
returns-else-at-all-clause-counted c =
    let numbers = c.args.numbers.now in
    let key = c.args.key in
    let i = c.args.index in
    let parted = c.look-at.ensures.parted (omega arith) (omega arith) in
    let looked = rw (c.len.ensures, c.requires.room) at c.look-at.ensures.counted in
    c.look_earlier.ensures.counted ∙ ap (after_earlier_looks numbers key i)
    (stays_before numbers key (i + 256) _ _
    (stays_before numbers key (i + 16) _ _
    (stays_before numbers key (i + 1) _ _ looked (omega (arith, parted)))
    (omega (arith, parted)))
    (omega (arith, parted)))

pub returns-else-at-all-clause-some : goal.returns-else-at-all-clause-some
returns-else-at-all-clause-some c =
    let seen = c.look-at.ensures.seen (omega arith) (omega arith) in
    omega (arith, seen, c.look_earlier.ensures.some)
