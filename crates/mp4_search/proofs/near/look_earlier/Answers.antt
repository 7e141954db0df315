use Rattle.std.proofs.Common.{◌-◌, ap, arith, ◌∙◌}
use Rattle.mp4_search.specs.Search.{after_look}
use Rattle.mp4_search.proofs.Looks.{stays_after}
use Rattle.mp4_search.proofs.near.look_earlier.Goals as goal

pub returns-then-beside-at-clause-counted : goal.returns-then-beside-at-clause-counted
returns-then-beside-at-clause-counted c =
    let numbers = c.args.numbers.now in
    let key = c.args.key in
    let i = c.args.index in
    let after = c.look-beside.ensures.after c.if-beside-at.true in
    stays_after numbers key (i - 256) _ _
    (stays_after numbers key (i - 16) _ _ (rw c.saturating_sub.ensures at c.look-beside.ensures.counted)
    (omega (arith, after)))
    (omega (arith, after))

pub returns-then-far-at-clause-counted : goal.returns-then-far-at-clause-counted
returns-then-far-at-clause-counted c =
    let numbers = c.args.numbers.now in
    let key = c.args.key in
    let i = c.args.index in
    let after = c.look-far.ensures.after (omega (arith, c.if-far-at.true, c.if-beside-at.false)) in
    stays_after numbers key (i - 256) _ _
    ((rw c.saturating_sub-2.ensures at c.look-far.ensures.counted)
    ∙ ap (after_look numbers key (i - 16)) (rw c.saturating_sub.ensures at c.look-beside.ensures.counted))
    (omega (arith, after))
