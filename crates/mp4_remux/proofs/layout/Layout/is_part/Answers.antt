use Rattle.std.proofs.Common.{◌≡◌, ◌∙◌, ◌⊎◌, inl, inr, arith, refl, sym}
use Rattle.mp4_remux.specs.Splice.{AreInPiece}
use Rattle.mp4_remux.proofs.MovedParts.{in_piece, of_piece}
use Rattle.mp4_remux.proofs.layout.Layout.is_part.Goals.{then-n-piece-via-then-n-piece}
use Rattle.mp4_remux.proofs.layout.Layout.is_part.Goals.{then-n-piece-via-else-n-piece+then-piece-skipped}
use Rattle.mp4_remux.proofs.layout.Layout.is_part.Goals as goal

pub returns-then-n-piece : goal.returns-then-n-piece
returns-then-n-piece c = (λ is. absurd cc, λ moved. absurd (by moved.moved))
  where
    by : (c.args.n ≡ 0) ⊎ AreInPiece c.args.self.now.pieces.items c.args.place c.args.origin c.args.n → ⊥
    by (inl none) = c.if-n-eq0.false (c.from-n.ensures ∙ none)
    by (inr a) =
        let l = c.args.self.now in
        let one = c.piece_at-skipped.ensures.is in
        let its = of_piece _ _ _ l.len c.args.place c.args.origin c.args.n one.0 _ _ c.piece_at-skipped.ensures.at
        one.1 l.follow (λ none. c.if-n-eq0.false (c.from-n.ensures ∙ none)) a in
        elim c.then-n-piece.branch [
          | then-n-piece-via-then-n-piece w ↦ absurd (omega (arith, w.if-n-piece.true, its.1.0, c.from-n.ensures))
          | then-n-piece-via-else-n-piece+then-piece-skipped w ↦ w.if-piece-skipped.true its.1.1
        ]

pub returns-in-Kept : goal.returns-in-Kept
returns-in-Kept c =
    let one = c.piece_at-skipped.ensures.is in (
      λ _. record {
        there = omega (arith, c.fits.ensures.0 c.if-not-fits.false, c.from-n.ensures);
        within = omega (arith, c.fits-else-not-fits.ensures.0 c.if-not-fits-2.false, c.from-n.ensures);
        moved =
            inr (in_piece _ _ _ c.args.self.now.len c.args.place c.args.origin c.args.n one.0 _ _
            c.piece_at-skipped.ensures.at one.1 c.in-Kept.is (omega (arith, c.if-n-piece.false, c.from-n.ensures))
            c.if-piece-skipped.false);
      },
      λ _. refl,
    )

pub returns-in-Made : goal.returns-in-Made
returns-in-Made c = (λ is. absurd cc, λ moved. absurd (by moved.moved))
  where
    by : (c.args.n ≡ 0) ⊎ AreInPiece c.args.self.now.pieces.items c.args.place c.args.origin c.args.n → ⊥
    by (inl none) = c.if-n-eq0.false (c.from-n.ensures ∙ none)
    by (inr a) =
        let l = c.args.self.now in
        let one = c.piece_at-skipped.ensures.is in
        let its = of_piece _ _ _ l.len c.args.place c.args.origin c.args.n one.0 _ _ c.piece_at-skipped.ensures.at
        one.1 l.follow (λ none. c.if-n-eq0.false (c.from-n.ensures ∙ none)) a in
        let both = sym its.0 ∙ c.in-Made.is in absurd cc
