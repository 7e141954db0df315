-- Which bytes of a splice are those of a piece of its file.
use Rattle.std.proofs.Common.{◌≡◌, ◌∙◌, ◌⊎◌, inl, inr, ℕ, zero, suc, ◌+◌, ◌-◌, ◌≤◌, ◌<◌, List, [], ◌∷◌, length}
use Rattle.std.proofs.Common.{take, drop, Some, refl, sym, ap, subst, arith}
use Rattle.std.specs.Prelude.{slice_get}
use Rattle.mp4_remux.specs.declared.piece.Origin.{Origin}
use Rattle.mp4_remux.specs.declared.piece.Origin.TheVariants.{Kept}
use Rattle.mp4_remux.specs.declared.piece.Piece.{Piece}
use Rattle.mp4_remux.specs.Splice.{AreInPiece, Follow, IsMovedTo, IsPartOfBoth, IsPieceAt, of_origin, spliced}
use Rattle.mp4_remux.proofs.Pieces.{piece_part}
use Rattle.mp4_remux.proofs.Sameness.{got, got_within}

same_piece : (p q : Piece) → Some p ≡ Some q → p ≡ q
same_piece p q e = cc

module _ (source_len made_len : ℕ) where
  -- no piece begins before the first
  starts : (ps : List Piece) (start end i : ℕ) (p : Piece) → Follow source_len made_len start ps end
      → slice_get ps i ≡ Some p → start ≤ p.at
  unfolding Follow
  starts [] start end i p f e = absurd cc
  starts (r ∷ ps) start end zero p f e = omega (arith, f.0, ap (λ (q : Piece). q.at) (same_piece r p e))
  starts (r ∷ ps) start end (suc i) p f e = omega (arith, starts ps (start + r.len) end i p f.1.1.1 e)

  -- a place is in one piece alone
  pub one_piece : (ps : List Piece) (start end i j place : ℕ) (p q : Piece) → Follow source_len made_len start ps end
      → slice_get ps i ≡ Some p → slice_get ps j ≡ Some q → p.at ≤ place → place < p.at + p.len → q.at ≤ place
      → place < q.at + q.len → q ≡ p
  unfolding Follow
  one_piece [] start end i j place p q f e d p_from p_to q_from q_to = absurd cc
  one_piece (r ∷ ps) start end zero zero place p q f e d p_from p_to q_from q_to =
      sym (same_piece r q d) ∙ same_piece r p e
  one_piece (r ∷ ps) start end zero (suc j) place p q f e d p_from p_to q_from q_to =
      let same = same_piece r p e in
      let later = starts ps (start + r.len) end j q f.1.1.1 d in
      let at = ap (λ (x : Piece). x.at) same in
      let len = ap (λ (x : Piece). x.len) same in
      absurd (omega (arith, f.0, at, len, p_to, later, q_from))
  one_piece (r ∷ ps) start end (suc i) zero place p q f e d p_from p_to q_from q_to =
      let same = same_piece r q d in
      let later = starts ps (start + r.len) end i p f.1.1.1 e in
      let at = ap (λ (x : Piece). x.at) same in
      let len = ap (λ (x : Piece). x.len) same in
      absurd (omega (arith, f.0, at, len, q_to, later, p_from))
  one_piece (r ∷ ps) start end (suc i) (suc j) place p q f e d p_from p_to q_from q_to =
      one_piece ps (start + r.len) end i j place p q f.1.1.1 e d p_from p_to q_from q_to

  module _ (ps : List Piece) (end place origin n i skipped : ℕ) (p : Piece)
      (at : IsPieceAt source_len made_len ps place p skipped) (is : slice_get ps i ≡ Some p)
    where
      -- bytes from a place on are those of its piece, as far as that has them
      pub in_piece : p.origin ≡ Kept → n ≤ p.len - skipped → p.place + skipped ≡ origin → AreInPiece ps place origin n
      in_piece kept long from = record {
        piece = p;
        number = i;
        is = is;
        kept = kept;
        begins = omega (arith, at.there);
        ends = omega (arith, at.there, at.inside, long);
        from = omega (arith, at.there, from);
      }

      -- and of no other
      pub of_piece : Follow source_len made_len 0 ps end → (n ≡ 0 → ⊥) → AreInPiece ps place origin n
          → (p.origin ≡ Kept) × ((n ≤ p.len - skipped) × (p.place + skipped ≡ origin))
      of_piece f some a =
          let q = a.piece in
          let same : p ≡ q =
          one_piece ps 0 end a.number i place q p f a.is is a.begins (omega (arith, a.ends, some))
          (omega (arith, at.there)) (omega (arith, at.there, at.inside)) in
          let at_same = ap (λ (x : Piece). x.at) same in
          let len_same = ap (λ (x : Piece). x.len) same in
          let place_same = ap (λ (x : Piece). x.place) same in (
            ap (λ (x : Piece). x.origin) same ∙ a.kept,
            (
              omega (arith, at.there, a.ends, at_same, len_same),
              omega (arith, at.there, a.from, at_same, place_same),
            ),
          )

-- bytes that are moved are a part of both, of the file and of its splice
module _ (source_len len : ℕ) (made : List ℕ) (pieces : List Piece) (place origin n : ℕ)
    (f : Follow source_len (length made) 0 pieces len)
  where
    bytes_of_piece : AreInPiece pieces place origin n → (source : List ℕ) → length source ≡ source_len
        → take n (drop place (spliced source made pieces)) ≡ take n (drop origin source)
    bytes_of_piece a source long =
        let p = a.piece in
        let whole = spliced source made pieces in
        let follow = subst (λ k. Follow k (length made) 0 pieces len) (sym long) f in
        let S = λ (q : Piece). (skipped : ℕ) → q.at + skipped ≡ place → skipped + n ≤ q.len
        → take n (drop (place - 0) whole) ≡ take n (drop (q.place + skipped) (of_origin q.origin source made)) in
        let part = subst S (got pieces a.number p p a.is) (λ skipped. piece_part source made pieces 0 len a.number p
        follow (got_within pieces a.number p a.is) place skipped n) in
        let from : p.place + (place - p.at) ≡ origin = omega (arith, a.from, a.begins) in
        let on : place ≡ place - 0 = omega arith in
        ap (λ k. take n (drop k whole)) on
        ∙ part (place - p.at) (omega (arith, a.begins)) (omega (arith, a.begins, a.ends))
        ∙ ap (λ (o : Origin). take n (drop (p.place + (place - p.at)) (of_origin o source made))) a.kept
        ∙ ap (λ k. take n (drop k source)) from

    pub moved_part : IsMovedTo pieces source_len len place origin n
        → IsPartOfBoth source_len len made pieces place origin n
    moved_part m = record { there = m.there; within = m.within; bytes = by m.moved }
      where
        by : (n ≡ 0) ⊎ AreInPiece pieces place origin n → (source : List ℕ) → length source ≡ source_len
            → take n (drop place (spliced source made pieces)) ≡ take n (drop origin source)
        by (inl none) source long = rw none refl
        by (inr a) source long = bytes_of_piece a source long
