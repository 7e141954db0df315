use Rattle.std.proofs.Common.{ℕ, length}
use Rattle.mp4_codec.specs.declared.box_type.BoxType.{BoxType}
use Rattle.mp4_remux.specs.Named.{HasBoxWithin}
use Rattle.mp4_remux.proofs.fragment_boxes.more_in_track.Given as goal

-- what is named in the rest is named in all
abbrev pub invariant-loop-one : goal.invariant-loop-one
invariant-loop-one l = record {
  within : (name : BoxType) (place : ℕ) → HasBoxWithin l.rest l.end name place
      → HasBoxWithin l.fn.bytes l.fn.end name place;
}

abbrev pub decreases-loop-one : goal.decreases-loop-one
decreases-loop-one l = length l.rest
