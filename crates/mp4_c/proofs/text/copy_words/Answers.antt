-- The words are given where they fit, or a refusal leaves the room as it was.
use Rattle.std.proofs.Common.{sym, inl, inr}
use Rattle.mp4_c.proofs.text.copy_words.Goals as goal

pub returns-in-Ok : goal.returns-in-Ok
returns-in-Ok c =
    inl (
      c.as_bytes.result.now,
      tt,
      λ i. record { answer = sym c.copy_to_front.ensures.answer i; room = sym c.copy_to_front.ensures.room i },
    )

pub returns-in-Err : goal.returns-in-Err
returns-in-Err c = inr (λ i. record { answer = sym c.refused.ensures i; room = c.args.room.now })
