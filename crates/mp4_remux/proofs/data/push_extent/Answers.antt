use Rattle.std.proofs.Common.{◌≡◌, ◌∙◌, List, length, arith, subst, sym, refl}
use Rattle.std.proofs.lemmas.List.{nil_from_length}
use Rattle.mp4_remux.specs.Data.{AreApartFrom}
use Rattle.mp4_remux.specs.declared.data.Extent.{Extent}
use Rattle.mp4_remux.proofs.ClosingUp.{apart_first, apart_longer, apart_added}
use Rattle.mp4_remux.proofs.data.push_extent.Goals as goal
use Rattle.mp4_remux.proofs.data.push_extent.Goals.{in-Some+else-last-extent+in_ok-push-2, in_default}
use Rattle.mp4_remux.proofs.data.push_extent.Goals.{else-last-extent-via-then-last-extent+else-extent-last}
use Rattle.mp4_remux.proofs.data.push_extent.Goals.{else-last-extent-via-else-last-extent}

pub returns-then-extent-last-clause-apart : goal.returns-then-extent-last-clause-apart
returns-then-extent-last-clause-apart c = λ apart begins some.
    let items = rw c.in-Some.is at c.pop.ensures.items in
    subst (λ (xs : List Extent). AreApartFrom 0 xs) (sym c.in_ok-push.ensures.items)
    (apart_longer 0 c.pop.new.self.items c.in-Some.last _
    (subst (λ (xs : List Extent). AreApartFrom 0 xs) items apart) refl (omega (arith, c.max.ensures)))

pub returns-clause-apart : goal.returns-clause-apart
returns-clause-apart c = λ apart begins some.
    elim c.match-pop.branch [
      | in-Some+else-last-extent+in_ok-push-2 w ↦
          apart_added c.args.extents.now.items c.pop.new.self.items c.match-pop.extents.items c.push-2.new.self.items
          w.in-Some.last c.args.extent (rw w.in-Some.is at c.pop.ensures.items)
          (rw w.extents-is w.in_ok-push-2.ensures.items)
          c.in_ok-push-3.ensures.items apart begins
          (λ from. elim w.else-last-extent.branch [
            | else-last-extent-via-then-last-extent+else-extent-last w' ↦ omega arith
            | else-last-extent-via-else-last-extent w' ↦ omega arith
          ]) some
      | in_default w ↦
          let none : length c.pop.new.self.items ≡ 0 = omega (arith, w.in_default.ensures.cases, c.pop.new.self.ok.0) in
          let same : c.match-pop.extents.items ≡ c.pop.new.self.items = rw w.extents-is refl in
          subst (λ (xs : List Extent). AreApartFrom 0 xs) (sym c.in_ok-push-3.ensures.items)
          (apart_first c.args.extent c.match-pop.extents.items (same ∙ nil_from_length c.pop.new.self.items none)
          some)
    ]
