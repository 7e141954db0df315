-- A movie without room is counted, and a writing that was refused says where.
use Rattle.std.proofs.Common.{ℕ, [], ap, sym, ◌∙◌, inl, inr}
use Rattle.mp4_codec.specs.Cause.{cause_of}
use Rattle.mp4_c.specs.Answers.{done}
use Rattle.mp4_c.proofs.Refusals.{counted_bytes, no_room, no_room_stays}
use Rattle.mp4_c.proofs.written.counted.Goals as goal

pub returns-in-Ok : goal.returns-in-Ok
returns-in-Ok c =
    let m = counted_bytes c.args.movie.now c.args.brands.now c.args.tracks.now c.args.source.now c.args.samples.now _ _
    c.in-Ok.ensures.begins c.in-Ok.ensures.movie in
    let counted = c.done.ensures ∙ ap (λ (n : ℕ). done n 0) (c.len.ensures ∙ m.2) ∙ sym (no_room m.0) in
    inl (m.0, m.1, λ i. record { answer = sym counted i; room = no_room_stays m.0 i })

pub returns-in-Err : goal.returns-in-Err
returns-in-Err c =
    inr (
      cause_of c.in-Err.fault.error,
      c.in-Err.fault.part,
      c.in-Err.fault.index,
      c.in-Err.ensures.refused,
      λ i. record { answer = sym c.refused_at.ensures i; room = [] },
    )
