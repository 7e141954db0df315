use Rattle.std.proofs.Common.{◌≡◌, ◌+◌, ◌∙◌, drop, refl, sym, Some, None}
use Rattle.std.proofs.lemmas.List.{drop_more}
use Rattle.mp4_extract.specs.Descriptions.{description_of, other_in_fragments, other_traf, samples_after}
use Rattle.mp4_extract.proofs.descriptions.other_in_fragments.Goals as goal

pub returns-in-Some : goal.returns-in-Some
returns-in-Some c =
    let t = c.index-trafs-i.result in
    let found : other_traf c.loop-i.count (samples_after c.loop-i.count t.truns) (description_of c.args.default t)
    ≡ Some c.in-Some.other =
    rw (← c.as_slice.ensures, ← c.samples_after-after.ensures, ← c.description_of.ensures)
    (sym c.other_traf.ensures ∙ c.in-Some.is) in
    sym (sym c.loop-i.invariant
    ∙ rw (drop_more c.args.trafs.now c.loop-i.i t c.loop-i-test.true, ← c.index-trafs-i.is, found) refl)

pub loop-i-preserved : goal.loop-i-preserved
loop-i-preserved c =
    let t = c.index-trafs-i.result in
    let after = samples_after c.loop-i.count t.truns in
    let none : other_traf c.loop-i.count after (description_of c.args.default t) ≡ None =
    rw (← c.as_slice.ensures, ← c.samples_after-after.ensures, ← c.description_of.ensures)
    (sym c.other_traf.ensures ∙ c.in_default.is) in
    let step : other_in_fragments c.args.default c.loop-i.count (drop c.loop-i.i c.args.trafs.now)
    ≡ other_in_fragments c.args.default after (drop (c.loop-i.i + 1) c.args.trafs.now) =
    rw (drop_more c.args.trafs.now c.loop-i.i t c.loop-i-test.true, ← c.index-trafs-i.is, none) refl in
    rw (c.samples_after-after.ensures, c.as_slice.ensures) (sym step ∙ c.loop-i.invariant)
