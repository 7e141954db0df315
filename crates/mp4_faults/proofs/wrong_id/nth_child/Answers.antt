use Rattle.std.proofs.Common.{◌∙◌, sym, arith}
use Rattle.mp4_faults.specs.Inner.{inner}
use Rattle.mp4_faults.proofs.Searching.{search-starts, search-counts, search-passes}
use Rattle.mp4_faults.proofs.wrong_id.nth_child.Goals as goal

pub loop-child-init : goal.loop-child-init
loop-child-init c = record { searched = search-starts c.args.name c.args.payload.now; few = λ some. some }

pub loop-child-preserved-else-count-number : goal.loop-child-preserved-else-count-number
loop-child-preserved-else-count-number c =
    let l = c.loop-child in
    let named = sym c.from.ensures ∙ c.if-from.true ∙ c.from-in-Some.ensures in
    record {
      searched = rw c.end-place.ensures (search-counts c.args.name c.args.payload.now l.place l.count
          (inner c.in-Some.child) l.invariant.searched (sym c.in-Some.ensures.value) c.in-Some.ensures.place
          c.in-Some.ensures.onward named);
      few = λ some. let fewer = l.invariant.few some in let other = c.if-count-number.false in grind arith;
    }

pub loop-child-preserved : goal.loop-child-preserved
loop-child-preserved c =
    let l = c.loop-child in
    record {
      searched = rw c.end-place.ensures (search-passes c.args.name c.args.payload.now l.place l.count
          (inner c.in-Some.child) l.invariant.searched (sym c.in-Some.ensures.value) c.in-Some.ensures.place
          c.in-Some.ensures.onward (λ named. c.if-from.false (c.from.ensures ∙ named ∙ sym c.from-in-Some.ensures)));
      few = l.invariant.few;
    }
