-- Chunks are just full, and what is pending is not full, after each call and after lists of calls.
use Rattle.std.proofs.Common.{◌≡◌, ◌≢◌, ℕ, ◌-◌, ◌<◌, ◌≤◌, Bool, true, false, cond, List, [], ◌∷◌}
use Rattle.std.proofs.Common.{◌++◌, length, take, drop, refl, sym, ap, subst, ◌∙◌, arith, None, Ok, Err}
use Rattle.std.proofs.Common.{⊎_elim, true≢false}
use Rattle.std.specs.List.{AllByRecursion}
use Rattle.std.proofs.lemmas.List.{length-append, length_push, take-append-drop, take-append-le}
use Rattle.std.proofs.lemmas.List.{get_or_append_left, get_or_push}
use Rattle.std.proofs.lemmas.List.Concat.{flat_map-append}
use Rattle.std.proofs.lemmas.List.Sums.{sum_by-take-le}
use Rattle.std.proofs.lemmas.Bool.{cases_eq, cases_lt, and_right}
use Rattle.std.proofs.lemmas.Bool.Decides.{nat_tests}
use Rattle.std.specs.Prelude.{nat_le, nat_lt}
use Rattle.mp4_samples.specs.Samples.{Sample}
use Rattle.mp4_mux.specs.declared.config.Mp4Config.{Mp4Config}
use Rattle.mp4_mux.specs.declared.config.TrackConfig.{TrackConfig}
use Rattle.mp4_mux.specs.Chunks.{TrackState, Chunk, sample_bytes, is_full}
use Rattle.mp4_mux.proofs.SampleLaws.{all-push}
use Rattle.mp4_mux.specs.Writing.{WriterState, no_track, track_at}
use Rattle.mp4_mux.specs.Writing.{with_pending, with_chunk, with_sample, with_track, started}
use Rattle.mp4_mux.specs.Sound.{IsIdOf, IsKnownChunk, IsSound}
use Rattle.mp4_mux.proofs.StateLaws.{pending-track, pending-other, pending-configs, pending-count, one_more}
use Rattle.mp4_mux.proofs.StateLaws.{sample_welcome}
use Rattle.mp4_mux.specs.Calls.{Call, add_track, write_sample, write_end, Reply, IsInRangeCall, step, call_cause}
use Rattle.mp4_mux.specs.Calls.{after, Answered}
use Rattle.mp4_mux.proofs.CallLaws.{sound_step, step_goes_on, answered_ok}
use Rattle.mp4_mux.specs.Layout.{IsJustFull, IsJustFullChunk, IsWaiting, IsLaidOut, HasLayout}

-- Samples that are just full.

bytes-take : (n : ℕ) (ss : List Sample) → length (sample_bytes (take n ss)) ≤ length (sample_bytes ss)
bytes-take n ss =
    omega (
      arith,
      ap (λ (xs : List Sample). length (sample_bytes xs)) (take-append-drop n ss),
      ap length (flat_map-append (λ (s : Sample). s.bytes) (take n ss) (drop n ss)),
      length-append (sample_bytes (take n ss)) (sample_bytes (drop n ss)),
    )

-- fewer samples are not full sooner
take-waits : (timescale n : ℕ) (ss : List Sample) → is_full timescale ss ≡ false
    → is_full timescale (take n ss) ≡ false
unfolding is_full
take-waits timescale n ss h =
    grind (arith, nat_tests, sum_by-take-le (λ (s : Sample). s.duration) ss n, bytes-take n ss)

none_waits : (timescale : ℕ) → is_full timescale [] ≡ false
unfolding is_full
none_waits timescale = and_right (nat_le timescale 0) (nat_lt 0 0) refl

-- where samples are not full, and with one more they are, they are just full
just_full : (timescale : ℕ) (ss : List Sample) (s : Sample) → is_full timescale ss ≡ false
    → is_full timescale (ss ++ s ∷ []) ≡ true → IsJustFull timescale (ss ++ s ∷ [])
just_full timescale ss s waits full = record {
  whole = full;
  least = λ n l.
      ap (is_full timescale) (take-append-le n ss (s ∷ []) (omega (arith, l, length_push ss s)))
      ∙ take-waits timescale n ss waits;
}

-- What goes on to hold.

pub laid_started : (front : List ℕ) (config : Mp4Config) → IsLaidOut (started front config)
laid_started front config = record {
  full = tt;
  waiting = λ id i. absurd (let a = i.first in let b = i.last in omega (arith, a, b));
}

full_still : (st new : WriterState) → ((v : ℕ) → (track_at new v).config ≡ (track_at st v).config) → (cs : List Chunk)
    → AllByRecursion (IsJustFullChunk st) cs → AllByRecursion (IsJustFullChunk new) cs
full_still st new e [] a = tt
full_still st new e (c ∷ cs) a = (
  subst (λ (k : TrackConfig). IsJustFull k.timescale c.samples) (sym (e c.track_id)) a.0,
  full_still st new e cs a.1,
)

module _ (st : WriterState) (id : ℕ) (i : IsIdOf st id) (s : Sample) (h : IsLaidOut st) where
  abbrev track : TrackState
  track = track_at st id

  abbrev more : List Sample
  more = track.pending ++ s ∷ []

  waiting_still : (ss : List Sample) → is_full track.config.timescale ss ≡ false → (v : ℕ) → 1 ≤ v
      → v ≤ length (with_pending st id ss).tracks → IsWaiting (track_at (with_pending st id ss) v)
  waiting_still ss waits v a b =
      let was : IsIdOf st v = record { first = a; last = omega (arith, pending-count st id i ss, b) } in
      ⊎_elim
      (λ (e : v ≡ id). subst (λ u. IsWaiting (track_at (with_pending st id ss) u)) (sym e)
      (ap (λ (t : TrackState). is_full t.config.timescale t.pending) (pending-track st id i ss) ∙ waits))
      (λ (n : v ≢ id). ap (λ (t : TrackState). is_full t.config.timescale t.pending)
      (pending-other st id i ss v a n) ∙ h.waiting v was)
      (cases_eq v id)

  laid_by : (b : Bool) → is_full track.config.timescale more ≡ b
      → IsLaidOut (cond b (with_chunk st id more) (with_pending st id more))
  laid_by true e =
      let configs = pending-configs st id i [] in
      record {
        full = all-push (IsJustFullChunk (with_chunk st id more)) st.chunks (record { track_id = id; samples = more })
            (full_still st (with_chunk st id more) configs st.chunks h.full)
            (subst (λ (k : TrackConfig). IsJustFull k.timescale more) (sym (configs id))
            (just_full track.config.timescale track.pending s (h.waiting id i) e));
        waiting = λ v j. waiting_still [] (none_waits track.config.timescale) v j.first j.last;
      }
  laid_by false e = record {
    full = full_still st (with_pending st id more) (pending-configs st id i more) st.chunks h.full;
    waiting = λ v j. waiting_still more e v j.first j.last;
  }

  pub laid_sample : IsLaidOut (with_sample st id s)
  unfolding with_sample
  laid_sample = laid_by (is_full track.config.timescale more) refl

module _ (st : WriterState) (config : TrackConfig) (sound : IsSound st) (h : IsLaidOut st) where
  abbrev new : WriterState
  new = with_track st config

  abbrev fresh : TrackState
  fresh = record { config = config; pending = [] }

  earlier : (v : ℕ) → IsIdOf st v → track_at new v ≡ track_at st v
  earlier v j =
      let a = j.first in
      let b = j.last in
      get_or_append_left st.tracks (fresh ∷ []) no_track (v - 1) (omega (arith, a, b))

  full_with : (cs : List Chunk) → AllByRecursion (IsKnownChunk st) cs → AllByRecursion (IsJustFullChunk st) cs
      → AllByRecursion (IsJustFullChunk new) cs
  full_with [] k a = tt
  full_with (c ∷ cs) k a = (
    subst (λ (t : TrackState). IsJustFull t.config.timescale c.samples) (sym (earlier c.track_id k.0.track)) a.0,
    full_with cs k.1 a.1,
  )

  pub laid_track : IsLaidOut new
  laid_track = record {
    full = full_with st.chunks sound.known h.full;
    waiting = λ v j.
        let a = j.first in
        let b = j.last in
        ⊎_elim
        (λ (l : length st.tracks < v).
        let last : length st.tracks ≡ v - 1 = omega (arith, l, b, length_push st.tracks fresh) in
        ap (λ (t : TrackState). is_full t.config.timescale t.pending)
        (get_or_push st.tracks fresh no_track (v - 1) last)
        ∙ none_waits config.timescale)
        (λ (l : v ≤ length st.tracks).
        let was : IsIdOf st v = record { first = a; last = l } in
        ap (λ (t : TrackState). is_full t.config.timescale t.pending) (earlier v was) ∙ h.waiting v was)
        (cases_lt (length st.tracks) v);
  }

-- Lists of calls.

pub open_layout : (st : WriterState) → st.ended ≡ false → IsLaidOut st → HasLayout st
open_layout st e h = record { before_end = λ f. h; at_end = λ f. absurd (true≢false (sym f ∙ e)) }

pub layout_step : (st : WriterState) (call : Call) → IsSound st → call_cause st call ≡ None → HasLayout st
    → HasLayout (step st call)
layout_step st (add_track config) sound e h =
    let goes_on = step_goes_on st (add_track config) e in
    open_layout (with_track st config) goes_on (laid_track st config sound (h.before_end goes_on))
layout_step st (write_sample id s) sound e h =
    let goes_on = step_goes_on st (write_sample id s) e in
    let i = (sample_welcome st id s e).track in
    open_layout (with_sample st id s) ((one_more st id i s).ended ∙ goes_on)
    (laid_sample st id i s (h.before_end goes_on))
layout_step st write_end sound e h =
    let goes_on = step_goes_on st write_end e in
    record {
      before_end = λ f. absurd (true≢false f);
      at_end = λ f. record { before = st; goes_on = goes_on; laid_out = h.before_end goes_on; is = refl };
    }

pub layout_after : (calls : List Call) (replies : List Reply) (st : WriterState) → Answered calls replies st
    → AllByRecursion IsInRangeCall calls → IsSound st → HasLayout st → HasLayout (after calls replies st)
unfolding after Answered
layout_after [] replies st a fits sound h = h
layout_after (call ∷ calls) [] st a fits sound h = absurd a
layout_after (call ∷ calls) (Ok x ∷ replies) st a fits sound h =
    let e = answered_ok (call_cause st call) a.0 in
    layout_after calls replies (step st call) a.1 fits.1 (sound_step st call sound e fits.0)
    (layout_step st call sound e h)
layout_after (call ∷ calls) (Err e ∷ replies) st a fits sound h = layout_after calls replies st a.1 fits.1 sound h
