use Rattle.std.proofs.Common.{◌≡◌, Some, None, refl, sym, ◌∙◌}
use Rattle.mp4_fragments.specs.ByTime.{earlier}
use Rattle.mp4_fragments.proofs.Decoding.{keep_more}
use Rattle.mp4_fragments.proofs.times.keep_begin.Goals as goal

pub returns-in_ok-push : goal.returns-in_ok-push
returns-in_ok-push c = λ begins from s mine.
    let e : earlier c.args.earliest c.args.begin ≡ Some c.in-Some.time =
    sym c.earlier-earliest.ensures ∙ c.in-Some.is in
    let kept = keep_more begins from c.args.times.now.items c.push.new.self.items c.args.earliest c.args.begin s mine
    (rw e (c.in_ok-push.ensures.items)) in
    rw e at kept

pub returns-in_default : goal.returns-in_default
returns-in_default c = λ begins from s mine.
    let e : earlier c.args.earliest c.args.begin ≡ None = sym c.earlier-earliest.ensures ∙ c.in_default.is in
    let kept = keep_more begins from c.args.times.now.items c.args.times.now.items c.args.earliest c.args.begin s mine
    (rw e refl) in
    rw c.earlier-earliest.ensures kept
