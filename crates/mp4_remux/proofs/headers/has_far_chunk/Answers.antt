use Rattle.std.proofs.Common.{arith, ap, sym, refl, ◌∙◌, List, ℕ, ◌<◌, ◌^◌, length, subst}
use Rattle.std.specs.Prelude.{slice_get, slice_index_or}
use Rattle.mp4_remux.proofs.Numbered.{at_index, each_more}
use Rattle.mp4_remux.proofs.Sameness.{got_within}
use Rattle.mp4_remux.proofs.headers.has_far_chunk.Goals as goal

pub loop-i-preserved : goal.loop-i-preserved
loop-i-preserved c =
    let offsets = c.as_slice-offsets.result.now in
    let entries = c.args.table.now.entries in
    let small : slice_index_or offsets c.loop-i.i 0 < 2 ^ 32 = omega (arith, c.if-offsets-i.false, c.from.ensures) in
    let this = subst (λ (xs : List ℕ). slice_index_or xs c.loop-i.i 0 < 2 ^ 32) c.as_slice-offsets.ensures small in
    record {
      upto = omega (arith, c.loop-i-test.true);
      offsets = c.as_slice-offsets.ensures;
      near = each_more entries (λ n. n < 2 ^ 32) c.loop-i.i 0 c.loop-i.invariant.near this;
    }

pub returns-then-offsets-i : goal.returns-then-offsets-i
returns-then-offsets-i c = (
  λ _.
      let offsets = c.as_slice-offsets.result.now in
      record {
        offset = slice_index_or offsets c.loop-i.i 0;
        number = c.loop-i.i;
        there =
            ap (λ (xs : List ℕ). slice_get xs c.loop-i.i) (sym c.as_slice-offsets.ensures)
            ∙ at_index offsets c.loop-i.i 0 c.loop-i-test.true;
        far = omega (arith, c.if-offsets-i.true, c.from.ensures);
      },
  λ _. refl,
)

pub returns : goal.returns
returns c = (
  λ is. absurd cc,
  λ far.
      let whole = ap (λ (xs : List ℕ). length xs) c.as_slice-offsets.ensures in
      let within = got_within c.args.table.now.entries far.number far.offset far.there in
      let near = c.loop-i.invariant.near far.offset far.number
      (omega (arith, c.loop-i-test.false, whole, within)) far.there in
      absurd (omega (arith, near, far.far)),
)
