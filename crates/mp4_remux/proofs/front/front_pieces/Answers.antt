use Rattle.std.proofs.Common.{sym}
use Rattle.mp4_remux.proofs.Fronting.{front_bytes, front_follow, no_pieces}
use Rattle.mp4_remux.proofs.Stretching.{five_laid, no_stretches}
use Rattle.mp4_remux.proofs.front.front_pieces.Goals as goal

pub returns-clause-bytes : goal.returns-clause-bytes
returns-clause-bytes c = λ source made long_source long_made.
    front_bytes source made c.args.file_type c.args.movie c.min-first.result c.min-between.result c.max-second.result
    c.max-after.result c.args.len c.args.movie_len c.min-first.ensures c.min-between.ensures c.max-second.ensures
    c.max-after.ensures long_source long_made
    (no_pieces source made c.new-pieces.result.items c.new-pieces.ensures.items)
    (c.in_ok-push_piece.ensures.bytes source made) (c.in_ok-push_piece-2.ensures.bytes source made)
    (c.in_ok-push_piece-3.ensures.bytes source made) (c.in_ok-push_piece-4.ensures.bytes source made)
    (c.in_ok-push_piece-5.ensures.bytes source made)

pub returns-clause-stretches : goal.returns-clause-stretches
returns-clause-stretches c =
    rw (sym c.min-first.ensures, sym c.min-between.ensures, sym c.max-second.ensures, sym c.max-after.ensures)
    (five_laid _ _ _ _ _ (no_stretches c.new-pieces.result.items c.new-pieces.ensures.items)
    c.in_ok-push_piece.ensures.stretches c.in_ok-push_piece-2.ensures.stretches
    c.in_ok-push_piece-3.ensures.stretches c.in_ok-push_piece-4.ensures.stretches
    c.in_ok-push_piece-5.ensures.stretches)

pub returns-clause-follow : goal.returns-clause-follow
returns-clause-follow c = λ apart small twice.
    front_follow _ _ _ _ _ _ c.args.file_type c.args.movie c.args.movie_len c.min-first.result c.min-between.result
    c.max-second.result c.max-after.result c.args.len c.min-first.ensures c.min-between.ensures c.max-second.ensures
    c.max-after.ensures c.new-pieces.ensures.items c.in_ok-push_piece.ensures.follow
    c.in_ok-push_piece-2.ensures.follow c.in_ok-push_piece-3.ensures.follow c.in_ok-push_piece-4.ensures.follow
    c.in_ok-push_piece-5.ensures.follow apart small twice
