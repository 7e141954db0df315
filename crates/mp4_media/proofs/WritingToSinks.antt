-- A writer whose sink has known bytes has one state alone, and a call leaves that which it says.
use Rattle.std.proofs.Common.{◌≡◌, ℕ, List, length, Option, Some, None, Result, Ok, Err, sym, ap, ap₂, subst, ◌∙◌}
use Rattle.std.specs.Prelude.{Bool, true, false, IsTrue, IfErr, OnOk, OnErr}
use Rattle.mp4_codec.specs.declared.error.Error.{Error}
use Rattle.mp4_codec.specs.Cause.{Cause, AnswersCause}
use Rattle.mp4_mux.specs.Building.{Building}
use Rattle.mp4_mux.specs.declared.chunk_place.ChunkRef.{ChunkRef}
use Rattle.mp4_mux.specs.Media.{Media, KeptMedia, MayBe}
use Rattle.mp4_mux.specs.Writing.{WriterState, whole_of}
use Rattle.mp4_mux.specs.Parts.{state_of}
use Rattle.mp4_media.specs.declared.write_error.WriteError.{WriteError}
use Rattle.mp4_media.specs.declared.write_error.WriteError.TheVariants.{Mp4, Io, Failed}
use Rattle.mp4_media.specs.WriterFields.{KeptMovie, MayHold, known_bytes, known_data, known_state, parts_of}
use Rattle.mp4_media.specs.WriterAnswers.{AnswersWrite, RefusesWrite, LeavesWriter, IsMp4, IsSameAnswer}

-- data that bytes which are known may be are the known ones
only_data : (kept : KeptMedia) (held : Media) (bytes : List ℕ) → kept.contents ≡ Some bytes → MayBe kept held
    → known_data kept ≡ held
only_data kept held bytes known h =
    let same : bytes ≡ held.buffer = rw known at h.contents in
    let is : known_bytes kept.contents ≡ held.buffer = rw known same in
    ap₂ (λ (xs : List ℕ) (bs : List Building). record { buffer = xs; tracks = bs; written = kept.written }) is h.tracks
    ∙ ap (λ (rs : List ChunkRef). record { buffer = held.buffer; tracks = held.tracks; written = rs }) h.written

-- the one state
pub only_state : (w : KeptMovie) (bytes : List ℕ) → w.media.contents ≡ Some bytes → (st : WriterState)
    → MayHold w st → known_state w ≡ st
only_state w bytes known st h =
    ap (λ (m : Media). state_of (parts_of w m)) (only_data w.media h.held bytes known h.may_be) ∙ h.state

-- the bytes are those of the state
pub known_whole : (w : KeptMovie) (st : WriterState) (bytes : List ℕ) → MayHold w st → w.media.contents ≡ Some bytes
    → bytes ≡ whole_of st
known_whole w st bytes h known =
    let held : bytes ≡ h.held.buffer = rw known at h.may_be.contents in
    held ∙ h.writing.whole ∙ ap whole_of h.state

-- and there are as many as the sink counts
pub counted_whole : (w : KeptMovie) (st : WriterState) → MayHold w st → w.media.len ≡ length (whole_of st)
counted_whole w st h = h.may_be.len ∙ ap length (h.writing.whole ∙ ap whole_of h.state)

-- a writer after a call that is refused for nothing of its sink
module _ {X : Type 0} (old new : KeptMovie) (inv : MayHold old (known_state old)) (bytes : List ℕ)
    (known : new.media.contents ≡ Some bytes) (next : WriterState → WriterState) where
  pub state-after : (r : Result X WriteError) → IfErr r IsMp4
      → OnOk r ((st : WriterState) → MayHold old st → MayHold new (next st))
      → IfErr r (λ e. LeavesWriter e old new) → MayHold new (known_state new)
  state-after (Ok x) mp4 ok err =
      let h = ok (known_state old) inv in
      subst (MayHold new) (sym (only_state new bytes known (next (known_state old)) h)) h
  state-after (Err (Mp4 e)) mp4 ok err = subst (λ (w : KeptMovie). MayHold w (known_state w)) (sym err) inv
  state-after (Err (Io e)) mp4 ok err = absurd mp4
  state-after (Err Failed) mp4 ok err = absurd mp4

  pub ok-after : (r : Result X WriteError) (q : Result X Error) → IsSameAnswer r q
      → OnOk r ((st : WriterState) → MayHold old st → MayHold new (next st))
      → OnOk q (known_state new ≡ next (known_state old))
  ok-after (Ok x) (Ok y) same ok = only_state new bytes known (next (known_state old)) (ok (known_state old) inv)
  ok-after (Ok x) (Err f) same ok = absurd same
  ok-after (Err e) (Ok y) same ok = absurd same
  ok-after (Err e) (Err f) same ok = tt

  pub err-after : (r : Result X WriteError) (q : Result X Error) → IsSameAnswer r q
      → IfErr r (λ e. LeavesWriter e old new) → OnErr q (known_state new ≡ known_state old)
  err-after (Ok x) (Ok y) same err = tt
  err-after (Ok x) (Err f) same err = absurd same
  err-after (Err e) (Ok y) same err = absurd same
  err-after (Err (Mp4 e)) (Err f) same err = ap known_state err
  err-after (Err (Io e)) (Err f) same err = absurd (io_is_no_mp4 e f same)
    where
      mp4 : WriteError → Type 0
      mp4 (Mp4 e) = Unit {0}
      mp4 (Io e) = ⊥
      mp4 Failed = ⊥

      io_is_no_mp4 : (e : _) (f : Error) → Io e ≡ Mp4 f → ⊥
      io_is_no_mp4 e f same = subst mp4 (sym same) tt
  err-after (Err Failed) (Err f) same err = ap known_state err

-- a sink that refuses nothing doesn't refuse
is_truth : Bool → Type 0
is_truth true = ⊥
is_truth false = Unit {0}

pub never_true : (b : Bool) → b ≡ false → IsTrue b → ⊥
unfolding is_truth
never_true b is not = subst is_truth (sym is ∙ not) tt

-- where the sink refuses for one reason, it does for a wider one
pub for_more : {X : Type 0} (P Q : Type 0) (cause : Option Cause) (r : Result X WriteError) → (P → Q)
    → AnswersWrite P cause r → AnswersWrite Q cause r
for_more P Q cause (Ok x) f a = a
for_more P Q None (Err (Mp4 e)) f a = a
for_more P Q (Some c) (Err (Mp4 e)) f a = a
for_more P Q None (Err (Io e)) f a = f a
for_more P Q (Some c) (Err (Io e)) f a = a
for_more P Q None (Err Failed) f a = a
for_more P Q (Some c) (Err Failed) f a = a

-- where the sink refuses nothing, an error is no other
pub mp4_alone : {X : Type 0} (P : Type 0) (cause : Option Cause) (r : Result X WriteError) → (P → ⊥)
    → AnswersWrite P cause r → IfErr r IsMp4
mp4_alone P cause (Ok x) never a = tt
mp4_alone P None (Err (Mp4 e)) never a = tt
mp4_alone P (Some c) (Err (Mp4 e)) never a = tt
mp4_alone P None (Err (Io e)) never a = absurd (never a)
mp4_alone P (Some c) (Err (Io e)) never a = absurd a
mp4_alone P None (Err Failed) never a = absurd a
mp4_alone P (Some c) (Err Failed) never a = absurd a

-- the same answer has the same cause
pub same_cause : {X : Type 0} (P : Type 0) (cause : Option Cause) (r : Result X WriteError) (q : Result X Error)
    → IsSameAnswer r q → AnswersWrite P cause r → AnswersCause cause q
same_cause P cause (Ok x) (Ok y) same a = subst (λ (c : Option Cause). AnswersCause c (Ok y)) (sym a) tt
same_cause P cause (Ok x) (Err f) same a = absurd same
same_cause P cause (Err e) (Ok y) same a = absurd same
same_cause P None (Err e) (Err f) same a = subst (RefusesWrite P None) same a
same_cause P (Some c) (Err e) (Err f) same a = subst (RefusesWrite P (Some c)) same a

-- what follows of two facts of an answer that is Ok
pub ok_both : {X A B C : Type 0} (r : Result X WriteError) (q : Result X Error) → IsSameAnswer r q → OnOk r A → OnOk r B
    → (A → B → C) → OnOk q C
ok_both (Ok x) (Ok y) same a b f = f a b
ok_both (Ok x) (Err e) same a b f = absurd same
ok_both (Err e) (Ok y) same a b f = absurd same
ok_both (Err e) (Err f) same a b g = tt
