use Rattle.std.proofs.Common.{◌≡◌, ◌∙◌, ◌+◌, ◌<◌, [], length, Err, ap, arith, refl, subst}
use Rattle.std.specs.Prelude.{slice_index_or}
use Rattle.std.proofs.lemmas.Result.{err_from_is_err_and}
use Rattle.mp4_media.specs.FileBoxes.{opened_movie}
use Rattle.mp4_remux.specs.Data.{AddsBytes}
use Rattle.mp4_remux.specs.declared.layout_error.LayoutError.{LayoutError}
use Rattle.mp4_remux.proofs.Counting.{more_samples}
use Rattle.mp4_remux.proofs.DataBytes.{IsFirstDataByte, data_is, data_more, no_data, unread_differs, unread_of_one}
use Rattle.mp4_remux.proofs.Naming.{why_among}
use Rattle.mp4_remux.proofs.Numbered.{at_index}
use Rattle.mp4_remux.proofs.data.data_of.Goals as goal

pub loop-i-init : goal.loop-i-init
loop-i-init c = record {
  upto = omega arith;
  few = c.requires.most;
  ids = refl;
  have = (0, (refl, omega arith));
  bytes = no_data (opened_movie c.args.movie.now) c.args.ids.now c.new-extents.result.items c.new-extents.ensures.items;
  within = λ k d lt. absurd (omega (arith, lt, ap length c.new-extents.ensures.items));
}

pub loop-i-preserved : goal.loop-i-preserved
loop-i-preserved c =
    let opened = opened_movie c.args.movie.now in
    let inv = c.loop-i.invariant in
    let ids = c.args.ids.now in
    let i = c.loop-i.i in
    let n = c.in_ok-left.field-0 in
    let lt : i < length ids = omega (arith, c.loop-i-test.true) in
    let there = at_index ids i 0 lt in
    record {
      upto = omega (arith, lt);
      few = omega (arith, inv.few);
      ids = inv.ids;
      have = (
        inv.have.0 + n,
        (
          more_samples opened ids i inv.have.0 n (slice_index_or ids i 0) inv.have.1.0 there
              c.in_ok-left.ensures.counted,
          omega (arith, inv.have.1.1, c.in_ok-left.ensures.few),
        ),
      );
      bytes = data_more opened ids i (slice_index_or ids i 0) _ _ there inv.bytes c.in_ok-left.ensures.bytes;
      within = c.in_ok-left.ensures.within inv.within;
    }

pub returns-in_err-left-clause-why : goal.returns-in_err-left-clause-why
returns-in_err-left-clause-why c =
    let p = err_from_is_err_and c.from_residual.result c.from_residual.ensures.1 in
    let inv = c.loop-i.invariant in
    let ids = c.args.ids.now in
    let there = at_index ids c.loop-i.i 0 (omega (arith, c.loop-i-test.true)) in
    rw (p.1 ∙ ap (λ (e : LayoutError). Err e) p.2)
    (why_among (slice_index_or ids c.loop-i.i 0) c.loop-i.left c.args.most ids (opened_movie c.args.movie.now)
    c.loop-i.i inv.have.0 there inv.have.1.0 inv.have.1.1 _ c.in_err-left.ensures.why)

pub returns-in_err-left-clause-differs : goal.returns-in_err-left-clause-differs
returns-in_err-left-clause-differs c =
    let opened = opened_movie c.args.movie.now in
    let p = err_from_is_err_and c.from_residual.result c.from_residual.ensures.1 in
    let ids = c.args.ids.now in
    let there = at_index ids c.loop-i.i 0 (omega (arith, c.loop-i-test.true)) in
    rw (p.1 ∙ ap (λ (e : LayoutError). Err e) p.2)
    (unread_differs opened ids c.args.len _
    (unread_of_one (slice_index_or ids c.loop-i.i 0) c.loop-i.i c.args.len ids opened there _
    c.in_err-left.ensures.unread))

pub returns-in_err-left-clause-unread : goal.returns-in_err-left-clause-unread
returns-in_err-left-clause-unread c =
    let opened = opened_movie c.args.movie.now in
    let p = err_from_is_err_and c.from_residual.result c.from_residual.ensures.1 in
    let ids = c.args.ids.now in
    let there = at_index ids c.loop-i.i 0 (omega (arith, c.loop-i-test.true)) in
    rw (p.1 ∙ ap (λ (e : LayoutError). Err e) p.2)
    (unread_of_one (slice_index_or ids c.loop-i.i 0) c.loop-i.i c.args.len ids opened there _
    c.in_err-left.ensures.unread)

pub returns-clause-data : goal.returns-clause-data
returns-clause-data c =
    let opened = opened_movie c.args.movie.now in
    let inv = c.loop-i.invariant in
    let ids = c.args.ids.now in
    let found = c.in_ok-in_order.ensures in
    let all : c.loop-i.i ≡ length ids = omega (arith, inv.upto, c.loop-i-test.false) in
    data_is opened ids c.loop-i.extents.items c.in_ok-in_order.field-0.items
    (subst (λ n. AddsBytes (IsFirstDataByte opened ids n) [] c.loop-i.extents.items) all inv.bytes) found.bytes
    (found.apart c.args.len inv.within)

pub returns-clause-within : goal.returns-clause-within
returns-clause-within c = c.in_ok-in_order.ensures.within c.args.len c.loop-i.invariant.within
