-- What a part of a writing is refused for.
use Rattle.std.proofs.Common.{◌≡◌, ℕ, ◌<◌, List, [], ◌∷◌, true, eqb, arith, length, take, get_or, Option, Some, None}
use Rattle.std.proofs.Common.{Result, Ok, Err}
use Rattle.std.proofs.Common.{◌∙◌, inl, inr, refl, ap, sym}
use Rattle.std.specs.Prelude.{IfErr, IfOk}
use Rattle.std.proofs.lemmas.Bool.{eqb-true, lt-ltb}
use Rattle.std.proofs.lemmas.Option.{slice_get-get_or}
use Rattle.mp4_codec.specs.declared.error.Error.{Error}
use Rattle.mp4_codec.specs.Cause.{AnswersCause, Cause, cause_of, ◌or◌}
use Rattle.mp4_mux.specs.Writing.{WriterState, end_cause, start_cause, started, whole_of, with_end}
use Rattle.mp4_media.specs.MovieTracks.{RefusedBy}
use Rattle.mp4_media.specs.WriterAnswers.{RefusesWrite}
use Rattle.mp4_media.specs.WriterFields.{KeptMovie, MayHold}
use Rattle.mp4_media.specs.declared.write_error.WriteError.{WriteError}
use Rattle.mp4_media.specs.declared.write_error.WriteError.TheVariants.{Mp4, Io, Failed}
use Rattle.mp4_c.specs.declared.configs.Brand.{Brand}
use Rattle.mp4_c.specs.declared.configs.NewMovie.{NewMovie}
use Rattle.mp4_c.specs.declared.configs.NewTrack.{NewTrack}
use Rattle.mp4_c.specs.declared.samples.SampleRow.{SampleRow}
use Rattle.mp4_c.specs.declared.written.Fault.{Fault}
use Rattle.mp4_c.specs.declared.written.Part.TheVariants.{Track, Sample, End}
use Rattle.mp4_c.specs.Answers.{done}
use Rattle.mp4_c.specs.Refusals.{IsRefusal, IsRefusedPart, IsRefusedSample, IsRefusedTrack, IsTrackFault, OrNoMemory}
use Rattle.mp4_c.specs.Refusals.{track, sample, end, later}
use Rattle.mp4_c.specs.Rooms.{copied, with_front}
use Rattle.mp4_c.specs.Written.{AreWritten, HasTracks, IsEndIn, IsMovie, IsMovieIn, IsMovieOf, config_of}
use Rattle.mp4_c.specs.Written.{sample_fault, with_rows}
use Rattle.mp4_c.specs.WrittenReply.{refusal_in}

-- what holds of a cause holds in other words
pub in_other_words : (P Q : Cause → Type 0) (c : Cause) → (P c → Q c) → OrNoMemory P c → OrNoMemory Q c
in_other_words P Q c follows (inl memory) = inl memory
in_other_words P Q c follows (inr holds) = inr (follows holds)

-- a call that answers a cause is refused for what the cause says
pub refused_for : {X : Type 0} (P : Cause → Type 0) (cause : Option Cause) (result : Result X Error)
    → ((c : Cause) → cause ≡ Some c → P c) → AnswersCause cause result
    → IfErr result (λ e. OrNoMemory P (cause_of e))
refused_for P None (Ok x) says answers = tt
refused_for P None (Err e) says answers = inl (ap cause_of answers)
refused_for P (Some c) (Ok x) says answers = tt
refused_for P (Some c) (Err e) says answers = inr (says (cause_of e) (ap Some answers))

-- the same of one that may be out of memory in place of it
pub refused_error : (P : Cause → Type 0) (cause : Option Cause) (e : Error)
    → ((c : Cause) → cause ≡ Some c → P c) → RefusedBy {X = Unit {0}} cause (Err e) → OrNoMemory P (cause_of e)
refused_error P cause e says (inl memory) = inl (ap cause_of memory)
refused_error P cause e says (inr same) = inr (says (cause_of e) same)

-- where neither of two refuses, the first doesn't
pub first_of : (a b : Option Cause) → a or b ≡ None → a ≡ None
first_of None b neither = refl
first_of (Some c) b neither = neither

-- the track at which a writing is refused
pub refused_track : (source : List ℕ) (rows : List NewTrack) (begun st : WriterState) (k : ℕ) (d : NewTrack) (c : Cause)
    → k < length rows → HasTracks source (take k rows) begun st
    → OrNoMemory (IsTrackFault source st (get_or rows k d)) c → OrNoMemory (IsRefusedTrack source rows begun k) c
refused_track source rows begun st k d c here has =
    in_other_words (IsTrackFault source st (get_or rows k d)) (IsRefusedTrack source rows begun k) c
    (λ fault. (get_or rows k d, st, slice_get-get_or rows k d here, has, fault))

-- the sample at which a writing is refused
pub refused_sample : (source : List ℕ) (rows : List SampleRow) (ready st : WriterState) (k : ℕ) (d : SampleRow)
    → (e : Error) → k < length rows → st ≡ with_rows source ready (take k rows)
    → AreWritten source ready (take k rows)
    → RefusedBy {X = Unit {0}} (sample_fault source st (get_or rows k d)) (Err e)
    → OrNoMemory (IsRefusedSample source rows ready k) (cause_of e)
refused_sample source rows ready st k d e here so_far before =
    let row = get_or rows k d in
    refused_error (IsRefusedSample source rows ready k) (sample_fault source st row) e
    (λ c same. (row, slice_get-get_or rows k d here, before, ap (λ w. sample_fault source w row) (sym so_far) ∙ same))

-- a refusal of a writer, as one of memory or of a count
pub refused_by : (P : Type 0) (cause : Option Cause) (e : WriteError) → RefusesWrite P cause e
    → RefusedBy {X = Unit {0}} cause (Err (refusal_in e))
refused_by P None (Mp4 e) a = inl a
refused_by P (Some c) (Mp4 e) a = inr (ap (λ (x : Cause). Some x) a)
refused_by P None (Io e) a = inl refl
refused_by P (Some c) (Io e) a = absurd a
refused_by P None Failed a = absurd a
refused_by P (Some c) Failed a = absurd a

-- a refused track is a refused part
pub at_track : (f : Fault) (begun : WriterState) (tracks : List NewTrack) (source : List ℕ) (rows : List SampleRow)
    → f.part ≡ Track → OrNoMemory (IsRefusedTrack source tracks begun f.index) (cause_of f.error)
    → OrNoMemory (IsRefusedPart begun tracks source rows f.part f.index) (cause_of f.error)
at_track f begun tracks source rows part refused =
    in_other_words (IsRefusedTrack source tracks begun f.index) (IsRefusedPart begun tracks source rows f.part f.index)
    (cause_of f.error) (λ r. track part r) refused

-- a refused sample is a refused part
pub at_sample : (f : Fault) (begun ready : WriterState) (tracks : List NewTrack) (source : List ℕ)
    (rows : List SampleRow) → f.part ≡ Sample → HasTracks source tracks begun ready
    → OrNoMemory (IsRefusedSample source rows ready f.index) (cause_of f.error)
    → OrNoMemory (IsRefusedPart begun tracks source rows f.part f.index) (cause_of f.error)
at_sample f begun ready tracks source rows part has refused =
    in_other_words (IsRefusedSample source rows ready f.index) (IsRefusedPart begun tracks source rows f.part f.index)
    (cause_of f.error) (λ r. sample part ready has r) refused

-- A writer that has all tracks and samples, and its end.
module _ {X : Type 0} (contents : X → Option (List ℕ)) (len : X → ℕ) (r : Result X Fault) (begun after : KeptMovie)
    (tracks : List NewTrack) (source : List ℕ) (rows : List SampleRow)
    (leads : (st : WriterState) → MayHold begun st
    → (ready : WriterState) × (HasTracks source tracks st ready) × (AreWritten source ready rows)
    × (MayHold after (with_rows source ready rows))) where
  -- where the end is refused, that is a refused part
  pub at_end : IfErr r (λ f. f.part ≡ End) → IfErr r (λ f. f.index ≡ 0)
      → IfErr r (λ f. (st : WriterState) → MayHold after st
      → OrNoMemory (λ c. end_cause st ≡ Some c) (cause_of f.error))
      → IfErr r (λ f. (st : WriterState) → MayHold begun st
      → OrNoMemory (IsRefusedPart st tracks source rows f.part f.index) (cause_of f.error))
  at_end part index refused = by r part index refused
    where
      by : (q : Result X Fault) → IfErr q (λ f. f.part ≡ End) → IfErr q (λ f. f.index ≡ 0)
          → IfErr q (λ f. (st : WriterState) → MayHold after st
          → OrNoMemory (λ c. end_cause st ≡ Some c) (cause_of f.error))
          → IfErr q (λ f. (st : WriterState) → MayHold begun st
          → OrNoMemory (IsRefusedPart st tracks source rows f.part f.index) (cause_of f.error))
      by (Ok x) part index refused = tt
      by (Err f) part index refused = λ st h.
          let ready = leads st h in
          in_other_words (λ c. end_cause (with_rows source ready.0 rows) ≡ Some c)
          (IsRefusedPart st tracks source rows f.part f.index) (cause_of f.error)
          (λ is. end part index ready.0 ready.1 ready.2 is)
          (refused (with_rows source ready.0 rows) ready.3)

  -- where it is Ok, its sink has the movie
  pub at_movie : IfOk r (λ x. (st : WriterState) → MayHold after st → IsEndIn st (contents x) (len x))
      → IfOk r (λ x. (st : WriterState) → MayHold begun st
      → IsMovieIn st tracks source rows (contents x) (len x))
  at_movie ended = by r ended
    where
      by : (q : Result X Fault)
          → IfOk q (λ x. (st : WriterState) → MayHold after st → IsEndIn st (contents x) (len x))
          → IfOk q (λ x. (st : WriterState) → MayHold begun st
          → IsMovieIn st tracks source rows (contents x) (len x))
      by (Ok x) ended = λ st h.
          let ready = leads st h in
          (ready.0, ready.1, ready.2, ended (with_rows source ready.0 rows) ready.3)
      by (Err f) ended = tt

-- what holds of each state that a writer may have holds of one
pub of_one : {X Y : Type 0} (r : Result X Y) (w : KeptMovie) (st : WriterState) (P : WriterState → X → Type 0)
    → MayHold w st → IfOk r (λ x. (st : WriterState) → MayHold w st → P st x) → IfOk r (λ x. P st x)
of_one (Ok x) w st P h each = each st h
of_one (Err e) w st P h each = tt

-- a part that is refused after the beginning is where the writing is refused
pub after_beginning : {X : Type 0} (r : Result X Fault) (w : KeptMovie) (movie : NewMovie)
    (brands : List Brand) (tracks : List NewTrack) (source : List ℕ) (rows : List SampleRow)
    → start_cause (config_of movie brands) ≡ None → MayHold w (started [] (config_of movie brands))
    → IfErr r (λ f. (st : WriterState) → MayHold w st
    → OrNoMemory (IsRefusedPart st tracks source rows f.part f.index) (cause_of f.error))
    → IfErr r (λ f. OrNoMemory (IsRefusal movie brands tracks source rows f.part f.index) (cause_of f.error))
after_beginning (Ok x) w movie brands tracks source rows begins h refused = tt
after_beginning (Err f) w movie brands tracks source rows begins h refused =
    let begun = started [] (config_of movie brands) in
    in_other_words (IsRefusedPart begun tracks source rows f.part f.index)
    (IsRefusal movie brands tracks source rows f.part f.index) (cause_of f.error)
    (λ r. later begins r) (refused begun h)

-- the movie of a sink whose bytes are known
pub known_movie : (movie : NewMovie) (brands : List Brand) (tracks : List NewTrack) (source : List ℕ)
    (rows : List SampleRow) (bytes : List ℕ) (len : ℕ) → start_cause (config_of movie brands) ≡ None
    → IsMovieIn (started [] (config_of movie brands)) tracks source rows (Some bytes) len
    → IsMovie movie brands tracks source rows bytes
known_movie movie brands tracks source rows bytes len begins m =
    (begins, (m.0, m.1, m.2, (m.3.bytes, m.3.opens, m.3.written)))

-- and of one that counts them: its bytes are those of the state, and there are as many
pub counted_bytes : (movie : NewMovie) (brands : List Brand) (tracks : List NewTrack) (source : List ℕ)
    (rows : List SampleRow) (contents : Option (List ℕ)) (len : ℕ) → start_cause (config_of movie brands) ≡ None
    → IsMovieIn (started [] (config_of movie brands)) tracks source rows contents len
    → (bytes : List ℕ) × (IsMovie movie brands tracks source rows bytes) × (len ≡ length bytes)
counted_bytes movie brands tracks source rows contents len begins m =
    let written : IsMovieOf (started [] (config_of movie brands)) tracks source rows
    (whole_of (with_end (with_rows source m.0 rows))) = (m.0, m.1, m.2, (refl, m.3.opens, m.3.written)) in
    (whole_of (with_end (with_rows source m.0 rows)), (begins, written), m.3.count)

-- a room without bytes
pub empty_room : (room : List ℕ) → true ≡ eqb (length room) 0 → room ≡ []
empty_room [] e = refl
empty_room (b ∷ bs) e = let none = eqb-true (length (b ∷ bs)) 0 (sym e) in absurd (omega (arith, none))

-- bytes for which there is no room are counted alone
pub no_room : (bytes : List ℕ) → copied bytes [] ≡ done (length bytes) 0
no_room [] = refl
no_room (b ∷ bs) = rw (lt-ltb 0 (length (b ∷ bs)) (omega arith)) refl

pub no_room_stays : (bytes : List ℕ) → with_front bytes [] ≡ []
no_room_stays [] = refl
no_room_stays (b ∷ bs) = rw (lt-ltb 0 (length (b ∷ bs)) (omega arith)) refl
