use Rattle.std.proofs.Common.{◌≡◌, ℕ, suc, ◌+◌, ◌-◌, ◌*◌, ◌≤◌, List, [], ◌∷◌, ◌++◌, length, take, drop}
use Rattle.std.proofs.Common.{sym, ap, ◌∙◌, arith, rules, suc-mul, append_assoc}
use Rattle.std.proofs.lemmas.List.{append-nil, length-drop, take-take, drop-take}
use Rattle.mp4_codec.specs.Blocks.{big_number}
use Rattle.mp4_moof.specs.RowColumns.{numbers_at}
use Rattle.mp4_moof.proofs.rows.numbers_at.Goals as goal

row_part : (place width : ℕ) (rest : List ℕ) → 4 ≤ width
    → take 4 (drop place (take (place + width) rest)) ≡ take 4 (drop place rest)
row_part place width rest h = rw (drop-take place width rest) (take-take 4 width (drop place rest) h)

pub loop-preserved : goal.loop-preserved
unfolding numbers_at
loop-preserved c =
    let each : ℕ = c.args.each in
    let place : ℕ = c.args.place in
    let rest : List ℕ = c.loop.rest.now in
    let left : ℕ = c.args.count - (c.loop.counter + 1) in
    let one_more : c.args.count - c.loop.counter ≡ suc left = omega arith in
    let enough : suc left * each ≤ length rest = rw one_more at c.loop.invariant.enough in
    let width : ℕ = each - place in
    let whole : each ≡ place + width = omega (arith, c.requires.inside) in
    let four : place + 4 - place ≡ 4 = omega arith in
    let part : take (place + 4 - place) (drop place c.split_at.result.0.now) ≡ take 4 (drop place rest) =
    rw (four, c.split_at.ensures.front)
    (ap (λ (n : ℕ). take 4 (drop place (take n rest))) whole
    ∙ row_part place width rest (omega (arith, c.requires.inside))) in
    let number : c.from_block.result ≡ big_number 4 (take 4 (drop place rest)) =
    c.from_block.ensures ∙ ap (big_number 4) part in
    let so_far : c.loop.numbers.items
    ++ (big_number 4 (take 4 (drop place rest)) ∷ numbers_at place each left (drop each rest))
    ≡ numbers_at place each c.args.count c.args.rows.now = rw one_more at c.loop.invariant.read in
    record {
      read = rw (c.push_reserved.ensures.items, c.split_at.ensures.back, number)
          (append_assoc c.loop.numbers.items _ _ ∙ so_far);
      enough = rw c.split_at.ensures.back (omega (arith, suc-mul left each, length-drop each rest));
      many = search rules;
      room = search rules;
    }

pub returns : goal.returns
unfolding numbers_at
returns c =
    let none_left : c.args.count - c.loop.counter ≡ 0 = omega arith in
    let all : c.loop.numbers.items ++ [] ≡ numbers_at c.args.place c.args.each c.args.count c.args.rows.now =
    rw none_left at c.loop.invariant.read in
    c.from.ensures ∙ sym (append-nil c.loop.numbers.items) ∙ all
