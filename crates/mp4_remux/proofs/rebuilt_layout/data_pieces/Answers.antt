use Rattle.std.proofs.Common.{◌++◌}
use Rattle.mp4_media.specs.FileGrammar.{between}
use Rattle.mp4_remux.proofs.Fronting.{five_parts, no_pieces}
use Rattle.mp4_remux.proofs.LaidPieces.{rebuilt_follow, rebuilt_laid}
use Rattle.mp4_remux.proofs.Stretching.{no_stretches}
use Rattle.mp4_remux.proofs.rebuilt_layout.data_pieces.Goals as goal

pub returns : goal.returns
returns c = record {
  bytes = λ source made.
      let f = c.args.frame.now.file_type in
      let boxes = c.in_ok-push_boxes.ensures.more source made in
      let extents = c.in_ok-push_extents.ensures.more source made in
      let header = between made c.args.movie_len c.args.made_len in (
        boxes.0 ++ (header ++ extents.0),
        five_parts (between source f.place f.end) (between made 0 c.args.movie_len) boxes.0 header extents.0
            (no_pieces source made c.new-pieces.result.items c.new-pieces.ensures.items)
            (c.in_ok-push_piece.ensures.bytes source made) (c.in_ok-push_piece-2.ensures.bytes source made) boxes.1
            (c.in_ok-push_piece-3.ensures.bytes source made) extents.1,
      );
  stretches = rebuilt_laid c.args.frame.now c.args.movie_len c.args.made_len c.args.extents.now _ _ _ _ _ _
      (no_stretches c.new-pieces.result.items c.new-pieces.ensures.items) c.in_ok-push_piece.ensures.stretches
      c.in_ok-push_piece-2.ensures.stretches (rw c.deref.ensures.value at c.in_ok-push_boxes.ensures.stretches)
      c.in_ok-push_piece-3.ensures.stretches c.in_ok-push_extents.ensures.stretches;
  follow = rebuilt_follow c.args.frame.now c.args.movie_len c.args.made_len c.args.extents.now _ _ _ _ _ _
      c.new-pieces.ensures.items c.in_ok-push_piece.ensures.follow c.in_ok-push_piece-2.ensures.follow
      (rw c.deref.ensures.value at c.in_ok-push_boxes.ensures.follow) c.in_ok-push_piece-3.ensures.follow
      c.in_ok-push_extents.ensures.follow;
}
