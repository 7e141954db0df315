-- What was made is given where it fits, or a refusal leaves the room as it was.
use Rattle.mp4_remux.specs.Front.{IsFront}
use Rattle.mp4_c.specs.RemuxedReply.{IsNotMoved}
use Rattle.mp4_c.proofs.Remuxing.{gave}
use Rattle.mp4_c.proofs.remuxed.mp4_c_move_to_front.Goals as goal

pub returns : goal.returns
returns c =
    gave (λ v. v.items) (IsFront c.args.file.now) (IsNotMoved c.args.file.now) c.moved.result _ _ _
    c.moved.ensures.front c.moved.ensures.refused
    c.copy_made.ensures.made c.copy_made.ensures.refused
