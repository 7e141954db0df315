use Rattle.std.proofs.Common.{◌-◌, ◌≡◌, ◌++◌, List, IfSome}
use Rattle.mp4_source.specs.Answers.{IsLength}
use Rattle.mp4_remux.specs.declared.top_level.TopBox.{TopBox}
use Rattle.mp4_remux.specs.Front.{AreBoxes}
use Rattle.mp4_remux.proofs.top_level.top_boxes.Given as goal

-- the source is as it was; the boxes so far, and those from the place on, are all
abbrev pub invariant-loop-cursor : goal.invariant-loop-cursor
invariant-loop-cursor g l = record {
  measured : IsLength (g.S.ByteSource.contents l.cursor.source) l.cursor.len;
  contents : g.S.ByteSource.contents l.cursor.source ≡ g.S.ByteSource.contents l.fn.source;
  can_refuse : g.S.ByteSource.can_refuse l.cursor.source ≡ g.S.ByteSource.can_refuse l.fn.source;
  len : l.len ≡ l.fn.len;
  all : IfSome (g.S.ByteSource.contents l.fn.source) (λ xs. (bs : List TopBox) → AreBoxes xs l.place bs
      → AreBoxes xs 0 (l.boxes.items ++ bs));
  rest : IfSome (g.S.ByteSource.contents l.fn.source) (λ xs. (bs : List TopBox) → AreBoxes xs 0 bs
      → (rest : List TopBox) × AreBoxes xs l.place rest);
}

abbrev pub decreases-loop-cursor : goal.decreases-loop-cursor
decreases-loop-cursor g l = l.len - l.place
