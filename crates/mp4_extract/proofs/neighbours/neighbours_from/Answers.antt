use Rattle.std.proofs.Common.{◌≡◌, ◌+◌, ◌-◌, ◌^◌, ◌∷◌, ◌∙◌, Ok, sym, ap, arith}
use Rattle.mp4_lookup.specs.InOrder.{answers_from, samples_left}
use Rattle.mp4_extract.proofs.ReadTogether.{first_of, one_there, one_more_there, places_of}
use Rattle.mp4_extract.proofs.neighbours.neighbours_from.Goals as goal

pub loop-count-init : goal.loop-count-init
loop-count-init c =
    let track = c.args.track.now in
    let next : samples_left c.samples_from-samples.result ≡ Ok c.in-Some-Ok.first ∷ samples_left c.next.new.self =
    rw c.in-Some-Ok.field-0-is at c.in-Some-Ok.ensures.steps in
    let first = first_of track (2 ^ 32 - c.args.k) c.args.k c.in-Some-Ok.first (samples_left c.next.new.self)
    (sym c.samples_from-samples.ensures ∙ next) in record {
      left = first.1 ∙ ap (λ n. answers_from n track (c.args.k + 1)) (omega arith);
      until = one_there (places_of track) c.args.k c.in-Some-Ok.first first.0;
    }

pub loop-count-preserved : goal.loop-count-preserved
loop-count-preserved c =
    let track = c.args.track.now in
    let k = c.args.k + c.loop-count.count in
    let next = c.in-Some.ensures in
    let first = first_of track (2 ^ 32 - k) k next.0 (samples_left c.size_with_next.new.samples)
    (sym c.loop-count.invariant.left ∙ next.1) in
    let number : k + 1 ≡ c.args.k + (c.loop-count.count + 1) = omega arith in
    let left : 2 ^ 32 - k - 1 ≡ 2 ^ 32 - (c.args.k + (c.loop-count.count + 1)) = omega arith in record {
      left = first.1 ∙ ap (λ n. answers_from n track (k + 1)) left
          ∙ ap (answers_from (2 ^ 32 - (c.args.k + (c.loop-count.count + 1))) track) number;
      until = one_more_there (places_of track) c.args.k c.in-Some-Ok.first.offset c.loop-count.count c.loop-count.size
          c.in-Some.sum next.0 c.loop-count.invariant.until first.0 next.2 next.3;
    }

pub returns-clause-places : goal.returns-clause-places
returns-clause-places c =
    let all : c.loop-count.count ≡ c.args.most = omega arith in
    rw all at c.loop-count.invariant.until
