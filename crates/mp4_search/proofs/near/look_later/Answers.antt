use Rattle.std.proofs.Common.{◌+◌, ap, arith, ◌∙◌}
use Rattle.mp4_search.specs.Search.{after_look}
use Rattle.mp4_search.proofs.Looks.{stays_before}
use Rattle.mp4_search.proofs.near.look_later.Goals as goal

pub returns-then-beside-at-clause-counted : goal.returns-then-beside-at-clause-counted
returns-then-beside-at-clause-counted c =
    let numbers = c.args.numbers.now in
    let key = c.args.key in
    let i = c.args.index in
    let upto = c.look-beside.ensures.upto c.if-beside-at.true in
    stays_before numbers key (i + 256) _ _
    (stays_before numbers key (i + 16) _ _ c.look-beside.ensures.counted (omega (arith, upto)))
    (omega (arith, upto))

pub returns-then-far-at-clause-counted : goal.returns-then-far-at-clause-counted
returns-then-far-at-clause-counted c =
    let numbers = c.args.numbers.now in
    let key = c.args.key in
    let i = c.args.index in
    let upto = c.look-far.ensures.upto (omega (arith, c.if-far-at.true, c.if-beside-at.false)) in
    stays_before numbers key (i + 256) _ _
    (c.look-far.ensures.counted ∙ ap (after_look numbers key (i + 16)) c.look-beside.ensures.counted)
    (omega (arith, upto))
