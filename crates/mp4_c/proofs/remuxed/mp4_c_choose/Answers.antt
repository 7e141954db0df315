-- What was made is given where it fits, or a refusal leaves the room as it was.
use Rattle.mp4_c.specs.RemuxedReply.{HasChosen, IsNotChosen}
use Rattle.mp4_c.proofs.Remuxing.{gave}
use Rattle.mp4_c.proofs.remuxed.mp4_c_choose.Goals as goal

pub returns : goal.returns
returns c =
    gave (λ v. v.items) (λ bytes. HasChosen c.args.file.now bytes c.args.track_ids.now)
    (IsNotChosen c.args.file.now c.args.track_ids.now) c.chosen.result _ _ _
    c.chosen.ensures.chosen
    c.chosen.ensures.refused c.copy_made.ensures.made c.copy_made.ensures.refused
