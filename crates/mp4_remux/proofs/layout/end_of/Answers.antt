use Rattle.std.proofs.Common.{◌+◌, ◌≤◌, ◌++◌, [], ◌∷◌, drop, take, refl, sym, ap, arith, subst, ◌∙◌}
use Rattle.std.proofs.lemmas.List.{take_more}
use Rattle.mp4_remux.specs.declared.piece.Piece.{Piece}
use Rattle.mp4_remux.specs.Splice.{Follow, of_origin}
use Rattle.mp4_remux.proofs.Pieces.{ends_later, follow_more, IsNext, is_next}
use Rattle.mp4_remux.proofs.layout.end_of.Goals.{then-piece-end-via-then-piece-end}
use Rattle.mp4_remux.proofs.layout.end_of.Goals.{then-piece-end-via-else-piece-end+then-piece-eq0}
use Rattle.mp4_remux.proofs.layout.end_of.Goals.{then-piece-end-via-else-piece-end+else-piece-eq0+then-piece-whole}
use Rattle.mp4_remux.proofs.layout.end_of.Goals as goal

pub loop-i-init : goal.loop-i-init
unfolding Follow
loop-i-init c = record { upto = omega arith; follow = refl; rest = λ e f. f }

pub loop-i-preserved : goal.loop-i-preserved
loop-i-preserved c =
    let ps = c.args.pieces.now in
    let p = c.index-pieces-i.result in
    let within : p.place + p.len ≤ of_origin p.origin c.args.source_len c.args.made_len =
    omega (arith, c.len_of-whole.ensures, c.if-piece-whole.false) in
    let more = follow_more c.args.source_len c.args.made_len (take c.loop-i.i ps) p 0 c.loop-i.end
    c.loop-i.invariant.follow (omega arith) (omega arith) within in
    let front = take_more ps c.loop-i.i p c.loop-i-test.true in
    let last = ap (λ (q : Piece). take c.loop-i.i ps ++ q ∷ []) (sym c.index-pieces-i.is) in
    record {
      upto = omega arith;
      follow =
          subst (λ n. Follow c.args.source_len c.args.made_len 0 (take (c.loop-i.i + 1) ps) n)
          (sym c.in_ok-end.ensures.1)
          (subst (λ qs. Follow c.args.source_len c.args.made_len 0 qs (c.loop-i.end + p.len)) (sym (front ∙ last))
          more);
      rest = λ e f.
          let next = is_next c.args.source_len c.args.made_len ps c.loop-i.i (c.loop-i.i + 1) c.loop-i.end e p
          c.loop-i-test.true (omega arith) (c.loop-i.invariant.rest e f) in
          subst (λ n. Follow c.args.source_len c.args.made_len n (drop (c.loop-i.i + 1) ps) e)
          (sym c.in_ok-end.ensures.1)
          (subst (λ (q : Piece). Follow c.args.source_len c.args.made_len (c.loop-i.end + q.len)
          (drop (c.loop-i.i + 1) ps) e) (sym c.index-pieces-i.is) next.rest);
    }

pub returns-then-piece-end-clause-none : goal.returns-then-piece-end-clause-none
returns-then-piece-end-clause-none c = λ e small f.
    let ps = c.args.pieces.now in
    let p = c.index-pieces-i.result in
    let next = subst (λ (q : Piece). IsNext c.args.source_len c.args.made_len c.loop-i.end q
    (drop (c.loop-i.i + 1) ps) e) (sym c.index-pieces-i.is) (is_next c.args.source_len c.args.made_len ps c.loop-i.i
    (c.loop-i.i + 1) c.loop-i.end e p c.loop-i-test.true (omega arith) (c.loop-i.invariant.rest e f)) in
    elim c.then-piece-end.branch [
      | then-piece-end-via-then-piece-end w ↦ omega (arith, next.at)
      | then-piece-end-via-else-piece-end+then-piece-eq0 w ↦ omega (arith, next.some)
      | then-piece-end-via-else-piece-end+else-piece-eq0+then-piece-whole w ↦
          omega (arith, next.within, c.len_of-whole.ensures)
    ]

pub returns-in_err-end-clause-none : goal.returns-in_err-end-clause-none
returns-in_err-end-clause-none c =
    rw c.from_residual.ensures (λ e small f.
    let ps = c.args.pieces.now in
    let p = c.index-pieces-i.result in
    let next = subst (λ (q : Piece). IsNext c.args.source_len c.args.made_len c.loop-i.end q
    (drop (c.loop-i.i + 1) ps) e) (sym c.index-pieces-i.is) (is_next c.args.source_len c.args.made_len ps c.loop-i.i
    (c.loop-i.i + 1) c.loop-i.end e p c.loop-i-test.true (omega arith) (c.loop-i.invariant.rest e f)) in
    let later = ends_later c.args.source_len c.args.made_len (drop (c.loop-i.i + 1) ps) (c.loop-i.end + p.len) e
    next.rest in
    c.in_err-end.ensures (omega (arith, later, small)))
