-- A movie that was written is given, and a writing that was refused leaves the room as it was.
use Rattle.std.proofs.Common.{◌≡◌, List, ℕ, ap, sym, ◌∙◌, inl, inr}
use Rattle.mp4_codec.specs.Cause.{cause_of}
use Rattle.mp4_c.specs.declared.answer.Answer.{Answer}
use Rattle.mp4_c.specs.Replies.{Gave}
use Rattle.mp4_c.specs.Rooms.{copied, with_front}
use Rattle.mp4_c.proofs.Refusals.{empty_room, known_movie}
use Rattle.mp4_c.proofs.written.mp4_c_write.Goals as goal

given : (bytes shown room new : List ℕ) (answer : Answer) → shown ≡ bytes → answer ≡ copied shown room
    → new ≡ with_front shown room
    → Gave (record { answer = copied bytes room; room = with_front bytes room }) new answer
given bytes shown room new answer same answers leaves =
    let answered : answer ≡ copied bytes room = answers ∙ ap (λ b. copied b room) same in
    let left : new ≡ with_front bytes room = leaves ∙ ap (λ b. with_front b room) same in
    λ i. record { answer = sym answered i; room = sym left i }

pub returns-in-Ok : goal.returns-in-Ok
returns-in-Ok c =
    inl (
      c.in-Ok.bytes.items,
      known_movie c.args.movie.now c.args.brands.now c.args.tracks.now c.args.source.now c.args.samples.now
          c.in-Ok.bytes.items _ c.in-Ok.ensures.begins c.in-Ok.ensures.movie,
      given _ _ _ _ _ c.as_slice.ensures.value c.copy_to_front.ensures.answer c.copy_to_front.ensures.room,
    )

pub returns-in-Err : goal.returns-in-Err
returns-in-Err c =
    inr (
      cause_of c.in-Err.fault.error,
      c.in-Err.fault.part,
      c.in-Err.fault.index,
      c.in-Err.ensures.refused,
      λ i. record { answer = sym c.refused_at.ensures i; room = c.args.room.now },
    )

pub returns-then-is_empty : goal.returns-then-is_empty
returns-then-is_empty c = rw (empty_room c.args.room.now c.if-is_empty.ensures) c.counted.ensures
