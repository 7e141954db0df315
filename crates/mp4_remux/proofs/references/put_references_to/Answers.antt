use Rattle.std.proofs.Common.{◌≡◌, ◌∙◌, ◌++◌, List, ℕ, ap, sym, true, false, arith}
use Rattle.std.proofs.lemmas.List.{append-nil}
use Rattle.byteorder.specs.Endian.{big_number}
use Rattle.mp4_remux.specs.References.{contains_id}
use Rattle.mp4_remux.proofs.Editing.{reference_less, reference_more, references_end}
use Rattle.mp4_remux.proofs.references.put_references_to.Goals as goal

pub loop-rest-preserved-in_ok-extend_from_slice : goal.loop-rest-preserved-in_ok-extend_from_slice
loop-rest-preserved-in_ok-extend_from_slice c =
    let there : contains_id c.args.ids.now (big_number 4 c.loop-rest.rest.now) ≡ true =
    ap (contains_id c.args.ids.now) (sym c.read_u32.ensures) ∙ sym c.contains_id.ensures ∙ c.if-contains_id.true in
    rw c.split_at.ensures.back (record {
      all = reference_more c.args.ids.now c.loop-rest.rest.now c.loop-rest.out.items _
          (omega (arith, c.loop-rest-test.true)) c.loop-rest.invariant.all c.extend_from_slice.new.self.items there
          (c.in_ok-extend_from_slice.ensures.items
          ∙ ap (λ (xs : List ℕ). c.loop-rest.out.items ++ xs) c.split_at.ensures.front);
    })

pub loop-rest-preserved : goal.loop-rest-preserved
loop-rest-preserved c =
    let none : contains_id c.args.ids.now (big_number 4 c.loop-rest.rest.now) ≡ false =
    ap (contains_id c.args.ids.now) (sym c.read_u32.ensures) ∙ sym c.contains_id.ensures ∙ c.if-contains_id.false in
    rw c.split_at.ensures.back (record {
      all = reference_less c.args.ids.now c.loop-rest.rest.now c.loop-rest.out.items _
          (omega (arith, c.loop-rest-test.true)) c.loop-rest.invariant.all none;
    })

pub returns : goal.returns
returns c =
    sym (append-nil c.loop-rest.out.items)
    ∙ ap (λ (xs : List ℕ). c.loop-rest.out.items ++ xs)
    (sym (references_end c.args.ids.now c.loop-rest.rest.now (omega (arith, c.loop-rest-test.false))))
    ∙ c.loop-rest.invariant.all
