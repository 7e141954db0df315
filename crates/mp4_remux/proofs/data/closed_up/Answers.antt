use Rattle.std.proofs.Common.{refl, arith, ◌∙◌, sym, ◌-◌, ap, take_all}
use Rattle.std.proofs.lemmas.List.Sums.{sum_by_more}
use Rattle.mp4_remux.specs.declared.data.Extent.{Extent}
use Rattle.mp4_remux.specs.Data.{closed_moves}
use Rattle.mp4_remux.proofs.ClosedUp.{closed_step, none_closed}
use Rattle.mp4_remux.proofs.data.closed_up.Goals as goal

pub loop-extent-init : goal.loop-extent-init
loop-extent-init c = record { moves = c.in_ok-moves.ensures.items ∙ sym none_closed; to = refl }

pub loop-extent-preserved : goal.loop-extent-preserved
loop-extent-preserved c =
    let d : Extent = record { place = 0; end = 0 } in
    let es = c.args.extents.now in
    let i = c.loop-extent.extent-index in
    record {
      moves = closed_step es i d c.loop-extent.moves.items _ c.loop-extent.to c.loop-extent-test.true
          c.loop-extent.invariant.moves c.loop-extent.invariant.to c.in_ok-push.ensures.items;
      to = omega (
        arith,
        sum_by_more (λ (e : Extent). e.end - e.place) es i d c.loop-extent-test.true,
        c.loop-extent.invariant.to,
        c.saturating_sub.ensures,
        c.saturating_add-to.ensures,
      );
    }

pub returns : goal.returns
returns c =
    let whole = take_all c.loop-extent.extent-index c.args.extents.now (omega arith) in
    record {
      moves = λ apart. record {
        apart = apart;
        are = c.loop-extent.invariant.moves ∙ ap (closed_moves 0) whole;
      };
    }
