use Rattle.std.proofs.Common.{◌≡◌, ◌+◌, ◌-◌, List, ap, arith, refl, subst, ◌∙◌}
use Rattle.mp4_remux.specs.declared.piece.Piece.{Piece}
use Rattle.std.specs.Prelude.{map}
use Rattle.mp4_remux.specs.Splice.{Follow, spliced, stretch_of}
use Rattle.mp4_remux.proofs.Stretching.{none_more, one_more}
use Rattle.mp4_remux.proofs.Fronting.{spliced_more}
use Rattle.mp4_remux.proofs.Pieces.{pushed}
use Rattle.mp4_remux.proofs.piece_list.push_piece.Goals as goal

pub returns-clause-bytes : goal.returns-clause-bytes
returns-clause-bytes c = λ source made.
    ap (λ (ps : List Piece). spliced source made ps) c.in_ok-push.ensures.items
    ∙ spliced_more source made c.args.pieces.now.items _

pub returns-clause-follow : goal.returns-clause-follow
returns-clause-follow c = λ source_len made_len before within small f.
    let at = c.end_of_all-at.ensures source_len made_len before (omega arith) (rw c.deref.ensures.value f) in
    pushed source_len made_len c.args.pieces.now.items c.push.new.self.items _ _ _ before _ c.args.origin _
    c.in_ok-push.ensures.items f at (omega arith) (omega arith) refl

pub returns-clause-stretches : goal.returns-clause-stretches
returns-clause-stretches c =
    ap (λ (ps : List Piece). map stretch_of ps) c.in_ok-push.ensures.items
    ∙ one_more c.args.pieces.now.items _ c.args.origin c.args.place c.args.end (omega arith) refl refl
    (omega arith)

pub returns-then-end-place-clause-stretches : goal.returns-then-end-place-clause-stretches
returns-then-end-place-clause-stretches c =
    none_more c.args.pieces.now.items c.args.origin c.args.place c.args.end (omega arith)

pub returns-then-end-place-clause-follow : goal.returns-then-end-place-clause-follow
returns-then-end-place-clause-follow c = λ source_len made_len before within small f.
    let same : before ≡ before + (c.args.end - c.args.place) = omega arith in
    subst (λ n. Follow source_len made_len 0 c.args.pieces.now.items n) same f
