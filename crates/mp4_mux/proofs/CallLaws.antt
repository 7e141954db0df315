-- What the calls of a writer accept, and what goes on to hold, over lists of calls with their replies.
use Rattle.std.proofs.Common.{◌≡◌, ◌≢◌, ℕ, zero, suc, ◌+◌, ◌-◌, ◌<◌, Bool, true, false, cond, List, [], ◌∷◌, ◌++◌}
use Rattle.std.proofs.Common.{length, get_or, set, refl, sym, ap, ap₂, subst, ◌∙◌, arith, Option, Some, None, Ok, Err}
use Rattle.std.proofs.Common.{get_or-set_same, get_or-set_other, ⊎_elim}
use Rattle.std.specs.List.{AllByRecursion}
use Rattle.std.proofs.lemmas.List.{append-nil, length-set, ext_get_or}
use Rattle.std.proofs.lemmas.Bool.{cases_eq}
use Rattle.mp4_codec.specs.Cause.{Cause, AnswersCause}
use Rattle.mp4_samples.specs.Samples.{Sample}
use Rattle.mp4_mux.specs.declared.config.TrackConfig.{TrackConfig}
use Rattle.mp4_mux.specs.Chunks.{TrackState, Chunk, is_full, samples_of}
use Rattle.mp4_mux.proofs.ChunksLaws.{other_id}
use Rattle.mp4_mux.specs.Writing.{WriterState, AcceptedTrack, no_track, track_at, accepted_of, accepted_from, accepted}
use Rattle.mp4_mux.specs.Writing.{with_pending, with_chunk, with_sample, with_track, end_cause}
use Rattle.mp4_mux.specs.Sound.{IsIdOf, IsKnownChunk, IsSound}
use Rattle.mp4_mux.proofs.StateLaws.{IsOneMore, one_more, sample_welcome, track_welcome, sound_track, sound_sample}
use Rattle.mp4_mux.proofs.EndedStates.{accepted-end, sound_end}
use Rattle.mp4_mux.specs.Calls.{Call, add_track, write_sample, write_end, Reply, IsInRangeCall, step, call_cause}
use Rattle.mp4_mux.specs.Calls.{after_reply, after, Answered, HasSameFront, none_accepted, accept, accepted_after}

-- The accepted tracks, by their ids.

pub length-accepted_from : (id : ℕ) (ts : List TrackState) (cs : List Chunk)
    → length (accepted_from id ts cs) ≡ length ts
unfolding accepted_from
length-accepted_from id [] cs = refl
length-accepted_from id (t ∷ ts) cs = ap suc (length-accepted_from (id + 1) ts cs)

accepted_from-at : (id u : ℕ) (ts : List TrackState) (cs : List Chunk) → u < length ts
    → get_or (accepted_from id ts cs) u none_accepted
    ≡ record {
      config = (get_or ts u no_track).config;
      samples = samples_of (id + u) cs ++ (get_or ts u no_track).pending;
    }
unfolding accepted_from
accepted_from-at id u [] cs l = absurd (omega arith)
accepted_from-at id zero (t ∷ ts) cs l =
    let same : id ≡ id + 0 = omega arith in
    ap (λ v. record { config = t.config; samples = samples_of v cs ++ t.pending }) same
accepted_from-at id (suc u) (t ∷ ts) cs l =
    let further : (id + 1) + u ≡ id + suc u = omega arith in
    accepted_from-at (id + 1) u ts cs (omega arith)
    ∙ ap (λ v. record {
      config = (get_or ts u no_track).config;
      samples = samples_of v cs ++ (get_or ts u no_track).pending;
    }) further

accepted_from-push : (id : ℕ) (ts : List TrackState) (t : TrackState) (cs : List Chunk)
    → accepted_from id (ts ++ t ∷ []) cs
    ≡ accepted_from id ts cs ++ record { config = t.config; samples = samples_of (id + length ts) cs ++ t.pending } ∷ []
unfolding accepted_from
accepted_from-push id [] t cs =
    let same : id ≡ id + 0 = omega arith in
    ap (λ v. record { config = t.config; samples = samples_of v cs ++ t.pending } ∷ []) same
accepted_from-push id (u ∷ ts) t cs =
    let further : (id + 1) + length ts ≡ id + length (u ∷ ts) = omega arith in
    ap (λ (xs : List AcceptedTrack). record { config = u.config; samples = samples_of id cs ++ u.pending } ∷ xs)
    (accepted_from-push (id + 1) ts t cs
    ∙ ap (λ v. accepted_from (id + 1) ts cs
    ++ record { config = t.config; samples = samples_of v cs ++ t.pending } ∷ []) further)

-- what is accepted of the track of an id
abbrev accepted_track : WriterState → ℕ → AcceptedTrack
accepted_track st id = record { config = (track_at st id).config; samples = accepted_of st id }

pub length-accepted : (st : WriterState) → length (accepted st) ≡ length st.tracks
length-accepted st = length-accepted_from 1 st.tracks st.chunks

pub accepted-at : (st : WriterState) (id : ℕ) → IsIdOf st id
    → get_or (accepted st) (id - 1) none_accepted ≡ accepted_track st id
accepted-at st id i =
    let a = i.first in
    let b = i.last in
    let there : id - 1 < length st.tracks = omega (arith, a, b) in
    let same : 1 + (id - 1) ≡ id = omega (arith, a) in
    accepted_from-at 1 (id - 1) st.tracks st.chunks there
    ∙ ap (λ v. record {
      config = (track_at st id).config;
      samples = samples_of v st.chunks ++ (track_at st id).pending;
    }) same

-- tracks that are the accepted ones at each id
accepted-is : (st : WriterState) (xs : List AcceptedTrack) → length xs ≡ length st.tracks
    → ((id : ℕ) → IsIdOf st id → accepted_track st id ≡ get_or xs (id - 1) none_accepted)
    → accepted st ≡ xs
accepted-is st xs n h =
    ext_get_or none_accepted (accepted st) xs (length-accepted st ∙ sym n) (λ u l.
    let i : IsIdOf st (u + 1) = record { first = omega arith; last = omega (arith, l, length-accepted st) } in
    let back : u + 1 - 1 ≡ u = omega arith in
    subst (λ v. get_or (accepted st) v none_accepted ≡ get_or xs v none_accepted) back
    (accepted-at st (u + 1) i ∙ h (u + 1) i))

-- What each call accepts.

-- no chunk is of a track that is not there
pub none_elsewhere : (st : WriterState) (id : ℕ) → (IsIdOf st id → ⊥) → (cs : List Chunk)
    → AllByRecursion (IsKnownChunk st) cs → samples_of id cs ≡ []
unfolding samples_of
none_elsewhere st id n [] a = refl
none_elsewhere st id n (c ∷ cs) a =
    let other : c.track_id ≢ id = λ same. n (subst (IsIdOf st) same a.0.track) in
    other_id c.track_id id (c.samples ++ samples_of id cs) (samples_of id cs) other ∙ none_elsewhere st id n cs a.1

-- a new track is the last, and has no samples
track_accepts : (st : WriterState) (config : TrackConfig) → IsSound st
    → accepted (with_track st config) ≡ accept (accepted st) (add_track config)
track_accepts st config h =
    let next = 1 + length st.tracks in
    let none : IsIdOf st next → ⊥ = λ i. let b = i.last in absurd (omega (arith, b)) in
    accepted_from-push 1 st.tracks (record { config = config; pending = [] }) st.chunks
    ∙ ap (λ (ss : List Sample). accepted st ++ record { config = config; samples = ss } ∷ [])
    (append-nil (samples_of next st.chunks) ∙ none_elsewhere st next none st.chunks h.known)

-- a sample is its track's last
module _ (st : WriterState) (id : ℕ) (s : Sample) (i : IsIdOf st id) where
  abbrev new : WriterState
  new = with_sample st id s

  more : IsOneMore st new id s
  more = one_more st id i s

  abbrev old_track : AcceptedTrack
  old_track = get_or (accepted st) (id - 1) none_accepted

  abbrev grown : AcceptedTrack
  grown = record old_track { samples = old_track.samples ++ s ∷ [] }

  there : id - 1 < length (accepted st)
  there = let a = i.first in let b = i.last in omega (arith, a, b, length-accepted st)

  this_track : accepted_track new id ≡ get_or (set (accepted st) (id - 1) grown) (id - 1) none_accepted
  this_track =
      ap₂ (λ (c : TrackConfig) (ss : List Sample). record { config = c; samples = ss }) (more.configs id) more.same
      ∙ ap (λ (t : AcceptedTrack). record { config = t.config; samples = t.samples ++ s ∷ [] })
      (sym (accepted-at st id i))
      ∙ sym (get_or-set_same (accepted st) (id - 1) grown none_accepted there)

  other_track : (v : ℕ) → IsIdOf st v → v ≢ id
      → accepted_track new v ≡ get_or (set (accepted st) (id - 1) grown) (v - 1) none_accepted
  other_track v j n =
      let apart : v - 1 ≢ id - 1 = λ e. n (let a = i.first in let b = j.first in omega (arith, e, a, b)) in
      ap₂ (λ (c : TrackConfig) (ss : List Sample). record { config = c; samples = ss })
      (more.configs v) (more.others v j.first n)
      ∙ sym (accepted-at st v j)
      ∙ sym (get_or-set_other (accepted st) (id - 1) (v - 1) grown none_accepted apart)

  sample_accepts : accepted new ≡ accept (accepted st) (write_sample id s)
  sample_accepts =
      accepted-is new (set (accepted st) (id - 1) grown)
      (length-set (accepted st) (id - 1) grown ∙ length-accepted st ∙ sym more.count)
      (λ v j.
      let was : IsIdOf st v =
      let a = j.first in let b = j.last in record { first = a; last = omega (arith, more.count, b) } in
      ⊎_elim
      (λ (e : v ≡ id).
      subst (λ u. accepted_track new u ≡ get_or (set (accepted st) (id - 1) grown) (u - 1) none_accepted) (sym e)
      this_track)
      (λ (n : v ≢ id). other_track v was n)
      (cases_eq v id))

-- a call without a cause accepts what the definition says
pub accepted_step : (st : WriterState) (call : Call) → IsSound st → call_cause st call ≡ None
    → accepted (step st call) ≡ accept (accepted st) call
accepted_step st (add_track config) h e = track_accepts st config h
accepted_step st (write_sample id s) h e = sample_accepts st id s (sample_welcome st id s e).track
accepted_step st write_end h e = accepted-end st

-- and makes a sound writer
pub sound_step : (st : WriterState) (call : Call) → IsSound st → call_cause st call ≡ None → IsInRangeCall call
    → IsSound (step st call)
sound_step st (add_track config) h e fits = sound_track st config h e fits
sound_step st (write_sample id s) h e fits =
    sound_sample st id s h e
    (record {
      size = (sample_welcome st id s e).size;
      duration = fits.duration;
      rendering_offset = fits.rendering_offset;
    })
sound_step st write_end h e fits = sound_end st h

-- of a writer that has ended each call is refused
pub step_goes_on : (st : WriterState) (call : Call) → call_cause st call ≡ None → st.ended ≡ false
unfolding end_cause
step_goes_on st (add_track config) e = (track_welcome st config e).goes_on
step_goes_on st (write_sample id s) e = (sample_welcome st id s e).goes_on
step_goes_on st write_end e = chosen st.ended _ _ e
  where
    chosen : (b : Bool) (c : Cause) (later : Option Cause) → cond b (Some c) later ≡ None → b ≡ false
    chosen true c later e = absurd cc
    chosen false c later e = refl

-- a call that was answered with Ok has no cause
pub answered_ok : (cause : Option Cause) → AnswersCause {X = Unit {0}} cause (Ok tt) → cause ≡ None
answered_ok None a = refl
answered_ok (Some c) a = absurd a

-- Lists of calls.

pub sound_after : (calls : List Call) (replies : List Reply) (st : WriterState) → Answered calls replies st
    → AllByRecursion IsInRangeCall calls → IsSound st → IsSound (after calls replies st)
unfolding after Answered
sound_after [] replies st a fits h = h
sound_after (call ∷ calls) [] st a fits h = absurd a
sound_after (call ∷ calls) (Ok x ∷ replies) st a fits h =
    let e = answered_ok (call_cause st call) a.0 in
    sound_after calls replies (step st call) a.1 fits.1 (sound_step st call h e fits.0)
sound_after (call ∷ calls) (Err e ∷ replies) st a fits h = sound_after calls replies st a.1 fits.1 h

pub accepted_after-is : (calls : List Call) (replies : List Reply) (st : WriterState) → Answered calls replies st
    → AllByRecursion IsInRangeCall calls → IsSound st
    → accepted (after calls replies st) ≡ accepted_after calls replies (accepted st)
unfolding after Answered accepted_after
accepted_after-is [] replies st a fits h = refl
accepted_after-is (call ∷ calls) [] st a fits h = absurd a
accepted_after-is (call ∷ calls) (Ok x ∷ replies) st a fits h =
    let e = answered_ok (call_cause st call) a.0 in
    accepted_after-is calls replies (step st call) a.1 fits.1 (sound_step st call h e fits.0)
    ∙ ap (accepted_after calls replies) (accepted_step st call h e)
accepted_after-is (call ∷ calls) (Err e ∷ replies) st a fits h = accepted_after-is calls replies st a.1 fits.1 h

-- one more call

pub after_one_more : (calls : List Call) (replies : List Reply) (st : WriterState) (call : Call) (reply : Reply)
    → Answered calls replies st
    → after (calls ++ call ∷ []) (replies ++ reply ∷ []) st ≡ after_reply (after calls replies st) call reply
unfolding after Answered
after_one_more [] [] st call reply a = refl
after_one_more [] (r ∷ replies) st call reply a = absurd a
after_one_more (c ∷ calls) [] st call reply a = absurd a
after_one_more (c ∷ calls) (r ∷ replies) st call reply a =
    after_one_more calls replies (after_reply st c r) call reply a.1

pub answered_one_more : (calls : List Call) (replies : List Reply) (st : WriterState) (call : Call) (reply : Reply)
    → Answered calls replies st → AnswersCause (call_cause (after calls replies st) call) reply
    → Answered (calls ++ call ∷ []) (replies ++ reply ∷ []) st
unfolding after Answered
answered_one_more [] [] st call reply a b = (b, tt)
answered_one_more [] (r ∷ replies) st call reply a b = absurd a
answered_one_more (c ∷ calls) [] st call reply a b = absurd a
answered_one_more (c ∷ calls) (r ∷ replies) st call reply a b =
    (a.0, answered_one_more calls replies (after_reply st c r) call reply a.1 b)

-- what a movie was begun with stays

step_keeps : (st : WriterState) (call : Call) → HasSameFront st (step st call)
unfolding with_sample
step_keeps st (add_track config) = record { front = refl; config = refl }
step_keeps st (write_sample id s) =
    let more = (track_at st id).pending ++ s ∷ [] in
    elim (is_full (track_at st id).config.timescale more) as
    (λ b. HasSameFront st (cond b (with_chunk st id more) (with_pending st id more)))
    [ true ↦ record { front = refl; config = refl } | false ↦ record { front = refl; config = refl } ]
step_keeps st write_end = record { front = refl; config = refl }

pub after_keeps : (calls : List Call) (replies : List Reply) (st : WriterState)
    → HasSameFront st (after calls replies st)
unfolding after
after_keeps [] replies st = record { front = refl; config = refl }
after_keeps (call ∷ calls) [] st = record { front = refl; config = refl }
after_keeps (call ∷ calls) (Ok x ∷ replies) st =
    let first = step_keeps st call in
    let rest = after_keeps calls replies (step st call) in
    record { front = rest.front ∙ first.front; config = rest.config ∙ first.config }
after_keeps (call ∷ calls) (Err e ∷ replies) st = after_keeps calls replies st
