-- The words of an answer without an error are given where they fit.
use Rattle.std.proofs.Common.{sym, inl}
use Rattle.mp4_c.proofs.text.mp4_c_error_text.Goals as goal

pub returns-in-None : goal.returns-in-None
returns-in-None c =
    inl (
      c.as_bytes.result.now,
      tt,
      λ i. record { answer = sym c.copy_to_front.ensures.answer i; room = sym c.copy_to_front.ensures.room i },
    )
