use Rattle.std.proofs.Common.{◌≡◌, ◌∙◌, sym, refl, arith}
use Rattle.mp4_codec.specs.BoxType.{code_of}
use Rattle.mp4_faults.specs.Inner.{inner}
use Rattle.mp4_faults.proofs.Searching.{search-starts, search-counts, search-passes, step-there, last-starts}
use Rattle.mp4_faults.proofs.Searching.{last-stays}
use Rattle.mp4_faults.proofs.wrong_id.last_child.Goals as goal

pub loop-child-init : goal.loop-child-init
loop-child-init c =
    record { searched = search-starts c.args.name c.args.payload.now; last = refl; within = tt; onward = tt }

pub loop-child-preserved-then-from : goal.loop-child-preserved-then-from
loop-child-preserved-then-from c =
    let l = c.loop-child in
    let b = inner c.in-Some.child in
    let payload = c.args.payload.now in
    let there = sym c.in-Some.ensures.value in
    let named = sym c.from.ensures ∙ c.if-from.true ∙ c.from-in-Some.ensures in
    let onward = c.in-Some.ensures.onward in
    let at = c.in-Some.ensures.place in
    record {
      searched = rw c.end-place.ensures (search-counts c.args.name payload l.place l.count b l.invariant.searched there
          at onward named);
      last = last-starts c.args.name payload c.end-place.result _ b
          (step-there c.args.name payload l.place l.count b l.invariant.searched there at onward named) named
          (sym c.end-place.ensures);
      within = c.in-Some.ensures.within;
      onward = omega (arith, onward, at);
    }

pub loop-child-preserved : goal.loop-child-preserved
loop-child-preserved c =
    let l = c.loop-child in
    let b = inner c.in-Some.child in
    let payload = c.args.payload.now in
    let there = sym c.in-Some.ensures.value in
    let other : code_of b.name ≡ code_of c.args.name → ⊥ =
    λ named. c.if-from.false (c.from.ensures ∙ named ∙ sym c.from-in-Some.ensures) in
    record {
      searched = rw c.end-place.ensures (search-passes c.args.name payload l.place l.count b l.invariant.searched there
          c.in-Some.ensures.place c.in-Some.ensures.onward other);
      last = rw c.end-place.ensures
          (last-stays c.args.name payload l.place l.count l.last b l.invariant.last there other);
      within = l.invariant.within;
      onward = l.invariant.onward;
    }
