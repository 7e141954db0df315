-- What is replied of the words of an answer, and which error an answer is of.
use Rattle.std.specs.Prelude.{◌≡◌, ◌⊎◌, ◌<◌, ◌≤◌, ◌==◌, ◌&&◌, ℕ, List, codes, nat_le, if◌then◌else◌}
use Rattle.std.specs.Prelude.{Option, Some, None}
use Rattle.mp4_codec.specs.declared.error.Error.{Error}
use Rattle.mp4_codec.specs.Cause.{cause_of, out_of_memory}
use Rattle.mp4_remux.specs.declared.error.RemuxError.{RemuxError}
use Rattle.mp4_c.specs.Answers.{not_remuxed, of_sample, plain, refused}
use Rattle.mp4_c.specs.declared.answer.Answer.{Answer}
use Rattle.mp4_c.specs.Replies.{Gave, refusal}
use Rattle.mp4_c.specs.WrittenReply.{GaveBytes}

-- a call has copied some words to the front of the room, where they fit, or it was out of memory
abbrev pub GaveWords : List ℕ → List ℕ → Answer → Type 0
GaveWords old new answer =
    (GaveBytes (λ words. Unit {0}) old new answer) ⊎ (Gave (refusal out_of_memory old) new answer)

-- the words of an answer without an error
unfoldable pub plain_words : ℕ → List ℕ
plain_words code =
    if code == 0 then codes "no error" else
    if code == 17 then codes "not present" else
    if code == 18 then codes "unknown choice" else
    if code == 19 then codes "null pointer" else codes "unknown error"

-- an answer of this code that names the box, the track and the number of another
abbrev pub of_its_box : (code track_id number : ℕ) → Answer → Answer
of_its_box code track_id number a =
    record (plain code) { track_id = track_id; number = number; box_type = a.box_type }

-- what an error of the code of an answer names of it; all else is 0
unfoldable pub named : Answer → Answer
named a =
    let code = a.code in
    if code == 4 then of_its_box 4 0 0 a else
    if code == 5 then record (plain 5) { box_type = a.box_type; second_box_type = a.second_box_type } else
    if code == 6 then record (plain 6) { track_id = a.track_id } else
    if nat_le 7 code && nat_le code 9 then of_its_box code a.track_id 0 a else
    if nat_le 10 code && nat_le code 11 then of_its_box code a.track_id a.number a else
    if code == 12 then of_its_box 12 0 a.number a else
    if code == 15 then record (plain 15) { limit = a.limit } else plain code

-- an answer has no error of the library: its code is none of one, or the version or the limit that it names is none
abbrev pub HasNoError : Answer → Type 0
HasNoError a = (a.code ≡ 0) ⊎ (16 < a.code) ⊎ ((a.code ≡ 12) × (256 ≤ a.number))
    ⊎ ((a.code ≡ 15) × ((a.limit ≡ 0) ⊎ (6 < a.limit)))

-- this is the error of an answer: its refusal has the code of the answer, and names what the answer does
abbrev pub IsErrorOf : Answer → Option Error → Type 0
IsErrorOf a (Some e) = refused (cause_of e) ≡ named a
IsErrorOf a None = HasNoError a

-- the same of a refusal to rewrite a movie, whose codes are 20 to 27
unfoldable pub named_of_remux : Answer → Answer
named_of_remux a =
    let code = a.code in
    if code == 20 then of_its_box 20 0 0 a else
    if (code == 21) then record (of_its_box 21 0 0 a) { index = a.index } else
    if code == 22 then record (plain 22) { track_id = a.track_id } else
    if code == 24 then of_sample 24 a.track_id a.number else
    if code == 25 then record (of_its_box 25 0 0 a) { index = a.index } else
    if code == 26 then of_sample 26 a.track_id a.number else plain code

abbrev pub IsRemuxErrorOf : Answer → Option RemuxError → Type 0
IsRemuxErrorOf a (Some e) = not_remuxed e ≡ named_of_remux a
IsRemuxErrorOf a None = (a.code < 20) ⊎ (27 < a.code)
