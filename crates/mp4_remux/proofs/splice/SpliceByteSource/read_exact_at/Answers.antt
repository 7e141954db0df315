use Rattle.std.proofs.Common.{◌+◌, ◌-◌, ◌≤◌, length, take, drop, refl, arith, ◌∙◌, false, IsTrue}
use Rattle.mp4_remux.proofs.Pieces.{past_end, length_kept, more_bytes, all_bytes}
use Rattle.mp4_remux.proofs.splice.SpliceByteSource.read_exact_at.Goals as goal

false-not-true : IsTrue false → ⊥
false-not-true e = absurd cc

pub returns-then-not-fits-clause-err : goal.returns-then-not-fits-clause-err
returns-then-not-fits-clause-err g c =
    let s = c.args.self.now in
    let l = s.layout in
    let refuted : c.args.place + length c.args.buf.now ≤ c.len.result → ⊥ =
    λ le. false-not-true (c.if-not-fits.ensures.1 le) in
    past_end (g.S.ByteSource.contents s.source) l.made.items l.pieces.items l.source_len l.len c.args.place
    (length c.args.buf.now) (g.S.ByteSource.can_refuse s.source) s.measured l.follow (omega (
      arith,
      c.len.ensures,
      refuted,
    ))

pub loop-filled-preserved : goal.loop-filled-preserved
loop-filled-preserved g c = record {
  room =
      let fits : c.loop-filled.filled + c.min-count.result ≤ length c.loop-filled.buf =
      omega (arith, c.min-count.ensures, c.loop-filled.invariant.room) in
      let kept = length_kept c.loop-filled.filled c.min-count.result c.loop-filled.buf c.read_piece.new.part fits
      (omega (arith, c.read_piece.auto.part)) in
      omega (arith, kept, c.loop-filled.invariant.room);
  whole = refl;
  upto = omega (arith, c.min-count.ensures);
  place = refl;
  within = c.loop-filled.invariant.within;
  layout = c.loop-filled.invariant.layout;
  contents = c.read_piece.ensures.contents ∙ c.loop-filled.invariant.contents;
  can_refuse = c.read_piece.ensures.can_refuse ∙ c.loop-filled.invariant.can_refuse;
  bytes =
      let s = c.args.self.now in
      let l = s.layout in
      let p = c.piece_at-skipped.result.0 in
      let skipped = c.piece_at-skipped.result.1 in
      let filled = c.loop-filled.filled in
      let count = c.min-count.result in
      more_bytes (g.S.ByteSource.contents s.source) l.made.items l.pieces.items l.source_len l.len c.args.place filled
      count (filled + count - filled)
      (length (take (filled + count - filled) (drop filled c.loop-filled.buf))) p skipped c.loop-filled.buf
      c.read_piece.new.part s.measured
      (rw c.loop-filled.invariant.layout at c.piece_at-skipped.ensures.at)
      (omega (arith, c.min-count.ensures, c.piece_at-skipped.ensures.at.inside))
      (omega (arith, c.loop-filled.invariant.upto, c.loop-filled.invariant.room))
      (omega (arith, c.read_piece.auto.part)) (omega (arith, c.read_piece.auto.part))
      (rw (c.loop-filled.invariant.contents, c.made.ensures, c.loop-filled.invariant.layout)
      at c.in_ok-read_piece.ensures.value)
      c.loop-filled.invariant.bytes;
}

pub returns-clause-value : goal.returns-clause-value
returns-clause-value g c =
    let s = c.args.self.now in
    let l = s.layout in
    all_bytes (g.S.ByteSource.contents s.source) l.made.items l.pieces.items l.source_len l.len c.args.place
    c.loop-filled.filled (length c.args.buf.now) c.loop-filled.buf s.measured l.follow c.loop-filled.invariant.within
    c.loop-filled.invariant.room (omega (arith, c.loop-filled.invariant.upto)) c.loop-filled.invariant.bytes
