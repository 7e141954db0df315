-- The rows of all tracks are given, or a refusal leaves the rows as they were.
use Rattle.std.proofs.Common.{sym, inl, inr, ap, ◌∙◌}
use Rattle.mp4_codec.specs.Cause.{cause_of}
use Rattle.mp4_c.specs.Answers.{refused}
use Rattle.mp4_c.proofs.tracks.list_tracks.Goals as goal

pub returns-in-Ok : goal.returns-in-Ok
returns-in-Ok c =
    inl (
      c.in-Ok.ids.items,
      c.in-Ok.ensures.ids,
      rw c.as_slice.ensures.value at c.fill_tracks.ensures.answer,
      rw c.as_slice.ensures.value at c.fill_tracks.ensures.rows,
    )

pub returns-in-Err : goal.returns-in-Err
returns-in-Err c =
    let answered = c.refused.ensures ∙ ap (λ e. refused (cause_of e)) c.in-Err.ensures.memory in
    inr (λ i. record { answer = sym answered i; room = c.args.rows.now })
