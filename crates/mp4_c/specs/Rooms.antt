-- Room that a caller gives, and what is filled in.
use Rattle.std.specs.Prelude.{ℕ, List, ◌++◌, length, drop, take, nat_lt, if◌then◌else◌}
use Rattle.mp4_c.specs.declared.answer.Answer.{Answer}
use Rattle.mp4_c.specs.Answers.{done}

-- elements over the first of those that were there
abbrev pub over : {T : Type 0} → List T → List T → List T
over new old = new ++ drop (length new) old

-- a room after bytes were copied to its front: where they don't fit, it is as it was
abbrev pub with_front : List ℕ → List ℕ → List ℕ
with_front bytes room = if nat_lt (length room) (length bytes) then room else over bytes room

-- what is answered then: how many bytes there are, and how many were copied
abbrev pub copied : List ℕ → List ℕ → Answer
copied bytes room = done (length bytes) (if nat_lt (length room) (length bytes) then 0 else length bytes)

-- a room after elements were filled in, as far as there is room
abbrev pub filled : {T : Type 0} → List T → List T → List T
filled items room = over (take (length room) items) room
