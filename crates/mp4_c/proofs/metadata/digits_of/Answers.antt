-- The digits are given where they fit, or a refusal leaves the room as it was.
use Rattle.std.proofs.Common.{sym, inr}
use Rattle.mp4_c.proofs.metadata.digits_of.Goals as goal

pub returns-in-Err : goal.returns-in-Err
returns-in-Err c = inr (λ i. record { answer = sym c.refused.ensures i; room = c.args.room.now })
