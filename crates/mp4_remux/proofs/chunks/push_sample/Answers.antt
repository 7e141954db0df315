use Rattle.std.proofs.Common.{◌-◌, ℕ, take, sym, ap, ◌∙◌}
use Rattle.mp4_remux.proofs.ChunkLaws.{first_sample, other_chunk, same_chunk}
use Rattle.mp4_remux.proofs.chunks.push_sample.Goals as goal

pub returns-in_default : goal.returns-in_default
returns-in_default c =
    first_sample c.args.chunks.now.items c.push.new.self.items c.pop.new.self.items c.args.end c.args.sample.now
    c.in_default.ensures.items
    (c.in_default.ensures.rest
    ∙ ap (λ (n : ℕ). take (n - 1) c.args.chunks.now.items) c.in_default.ensures.cases.0)
    (rw c.of.ensures at c.in_ok-push.ensures.items)

pub returns-then-has_next : goal.returns-then-has_next
returns-then-has_next c =
    same_chunk c.args.chunks.now.items c.push-then-has_next.new.self.items c.pop.new.self.items c.args.end
    c.args.sample.now c.in-Some.last c.in-Some.ensures.items (sym c.has_next.ensures ∙ c.if-has_next.true)
    c.in_ok-push-2.ensures.items

pub returns : goal.returns
returns c =
    other_chunk c.args.chunks.now.items c.push-3.new.self.items c.pop.new.self.items c.args.end c.args.sample.now
    c.in-Some.last c.in-Some.ensures.items (sym c.has_next.ensures ∙ c.if-has_next.false)
    (rw (c.in_ok-push-3.ensures.items, c.of-2.ensures) at c.in_ok-push-4.ensures.items)
