use Rattle.std.proofs.Common.{◌≡◌, drop}
use Rattle.mp4_extract.specs.Descriptions.{default_description}
use Rattle.mp4_extract.proofs.descriptions.default_description.Given as goal

abbrev pub invariant-loop-i : goal.invariant-loop-i
invariant-loop-i l =
    default_description l.description (drop l.i l.trexs) l.track_id
    ≡ default_description 1 l.trexs l.track_id
