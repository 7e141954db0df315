-- What was made is given where it fits, or a refusal leaves the room as it was.
use Rattle.mp4_remux.specs.Gathered.{IsGathered}
use Rattle.mp4_c.specs.RemuxedReply.{IsNotGathered}
use Rattle.mp4_c.proofs.Remuxing.{gave}
use Rattle.mp4_c.proofs.remuxed.mp4_c_gather.Goals as goal

pub returns : goal.returns
returns c =
    gave (λ v. v.items) (IsGathered c.args.file.now) (IsNotGathered c.args.file.now) c.gathered.result _ _ _
    c.gathered.ensures.gathered
    c.gathered.ensures.refused c.copy_made.ensures.made c.copy_made.ensures.refused
