use Rattle.std.proofs.Common.{List, ap, arith, subst, sym, take_all, length}
use Rattle.std.specs.List.{All}
use Rattle.mp4_remux.specs.declared.data.Extent.{Extent}
use Rattle.mp4_remux.specs.Data.{IsWithin, have_byte}
use Rattle.mp4_remux.proofs.ClosingUp.{apart_step, begin_step, bytes_step, none_apart, within_step}
use Rattle.mp4_remux.proofs.data.joined.Goals as goal

pub loop-extent-init : goal.loop-extent-init
loop-extent-init c =
    let none = c.new-joined.ensures.items in
    record {
      bytes = λ byte. ap (have_byte byte) none;
      within = λ len all k d lt. absurd (omega (arith, lt, ap length none));
      begin = λ place all k d lt. absurd (omega (arith, lt, ap length none));
      apart = λ len up all. none_apart c.new-joined.result.items none;
    }

pub loop-extent-preserved : goal.loop-extent-preserved
loop-extent-preserved c =
    let d : Extent = record { place = 0; end = 0 } in
    let es = c.args.extents.now in
    let i = c.loop-extent.extent-index in
    let lt = c.loop-extent-test.true in
    let inv = c.loop-extent.invariant in
    let old = c.loop-extent.joined.items in
    let new = c.push_extent.new.extents.items in
    let more = c.in_ok-push_extent.ensures in
    record {
      bytes = λ byte. bytes_step es i d lt old new byte (inv.bytes byte) (more.bytes byte);
      within = λ len. within_step es i d lt old new len (inv.within len) (more.within len);
      begin = λ place. begin_step es i d lt old new place (inv.begin place) (more.begin place);
      apart = λ len up. apart_step es i d lt old new len up (inv.apart len up) (inv.begin _) more.apart;
    }

pub returns-clause-within : goal.returns-clause-within
returns-clause-within c = λ len all.
    let whole = take_all c.loop-extent.extent-index c.args.extents.now (omega arith) in
    c.loop-extent.invariant.within len (subst (λ (es : List Extent). All (IsWithin len) es) (sym whole) all)
