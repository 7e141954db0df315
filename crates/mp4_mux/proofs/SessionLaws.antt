-- What a writer holds after its calls, from its beginning on.
use Rattle.std.proofs.Common.{◌≡◌, ◌⊎◌, inl, inr, ⊎_elim, ℕ, zero, suc, ◌-◌, ◌<◌, ◌≤◌, List, length, get_or}
use Rattle.std.proofs.Common.{refl, sym, ap, subst, ◌∙◌, arith}
use Rattle.std.proofs.lemmas.Bool.{cases_lt}
use Rattle.mp4_mux.specs.Chunks.{samples_of}
use Rattle.mp4_mux.specs.Writing.{WriterState, AcceptedTrack, accepted_of, accepted_from, accepted}
use Rattle.mp4_mux.specs.Writing.{with_end, started}
use Rattle.mp4_mux.specs.Sound.{IsIdOf, IsSound}
use Rattle.mp4_mux.proofs.StateLaws.{sound_started}
use Rattle.mp4_mux.proofs.EndedStates.{end-count, end-none_pending}
use Rattle.mp4_mux.specs.Calls.{HasSameFront, none_accepted, Session, IsAnswered, IsEnded, writer_of, accepted_by}
use Rattle.mp4_mux.proofs.CallLaws.{accepted-at, length-accepted, none_elsewhere, after_keeps, sound_after}
use Rattle.mp4_mux.proofs.CallLaws.{accepted_after-is}
use Rattle.mp4_mux.specs.Layout.{HasLayout}
use Rattle.mp4_mux.proofs.LayoutLaws.{laid_started, open_layout, layout_after}

module _ (session : Session) where
  -- what the movie was begun with stays
  pub session_keeps : HasSameFront (started session.front session.config) (writer_of session)
  session_keeps = after_keeps session.calls session.replies (started session.front session.config)

  -- no number passes its type
  pub session_sound : IsAnswered session → IsSound (writer_of session)
  session_sound a =
      sound_after session.calls session.replies (started session.front session.config) a.replies a.fits
      (sound_started session.front session.config)

  -- a writer has just what its calls have accepted
  pub session_accepts : IsAnswered session → accepted (writer_of session) ≡ accepted_by session
  unfolding accepted_from
  session_accepts a =
      accepted_after-is session.calls session.replies (started session.front session.config) a.replies a.fits
      (sound_started session.front session.config)

-- its chunks are no longer than they have to be
pub session_layout : (session : Session) → IsAnswered session → HasLayout (writer_of session)
session_layout session a =
    let begun = started session.front session.config in
    layout_after session.calls session.replies begun a.replies a.fits (sound_started session.front session.config)
    (open_layout begun refl (laid_started session.front session.config))

-- at the end nothing is pending
end_holds : (st : WriterState) (id : ℕ) → IsIdOf (with_end st) id
    → samples_of id (with_end st).chunks ≡ accepted_of (with_end st) id
end_holds st id i =
    let a = i.first in
    let b = i.last in
    let there : id - 1 < length st.tracks = omega (arith, end-count st, a, b) in
    sym (end-none_pending st id (id - 1) there)

-- at the end the chunks of a track have the samples that its calls have accepted
pub session_holds : (session : Session) → IsEnded session → (id : ℕ) → IsIdOf (writer_of session) id
    → samples_of id (writer_of session).chunks ≡ (get_or (accepted_by session) (id - 1) none_accepted).samples
session_holds session e id i =
    let st = writer_of session in
    let end = (session_layout session e.answered).at_end e.ended in
    subst (λ (w : WriterState). (v : ℕ) → IsIdOf w v → samples_of v w.chunks ≡ accepted_of w v) (sym end.is)
    (end_holds end.before) id i
    ∙ ap (λ (t : AcceptedTrack). t.samples) (sym (accepted-at st id i))
    ∙ ap (λ (ts : List AcceptedTrack). (get_or ts (id - 1) none_accepted).samples) (session_accepts session e.answered)

-- two writers whose calls accept the same have the same
pub sessions_agree : (one other : Session) → IsAnswered one → IsAnswered other
    → accepted_by one ≡ accepted_by other → accepted (writer_of one) ≡ accepted (writer_of other)
sessions_agree one other a b e = session_accepts one a ∙ e ∙ sym (session_accepts other b)

cases_id : (st : WriterState) (id : ℕ) → IsIdOf st id ⊎ (IsIdOf st id → ⊥)
cases_id st zero = inr (λ i. let a = i.first in absurd (omega (arith, a)))
cases_id st (suc n) =
    ⊎_elim (λ (l : length st.tracks < suc n). inr (λ i. let b = i.last in absurd (omega (arith, l, b))))
    (λ (l : suc n ≤ length st.tracks). inl (record { first = omega arith; last = l }))
    (cases_lt (length st.tracks) (suc n))

-- and at the end their chunks have the same samples of each track, whatever the order of the calls
module _ (one other : Session) (e : IsEnded one) (f : IsEnded other) (same : accepted_by one ≡ accepted_by other) where
  same_count : length (writer_of one).tracks ≡ length (writer_of other).tracks
  same_count =
      omega (
        arith,
        ap length (sessions_agree one other e.answered f.answered same),
        length-accepted (writer_of one),
        length-accepted (writer_of other),
      )

  pub sessions_hold_the_same : (id : ℕ)
      → samples_of id (writer_of one).chunks ≡ samples_of id (writer_of other).chunks
  sessions_hold_the_same id =
      ⊎_elim
      (λ (i : IsIdOf (writer_of one) id).
      let a = i.first in
      let b = i.last in
      let j : IsIdOf (writer_of other) id = record { first = a; last = omega (arith, b, same_count) } in
      session_holds one e id i
      ∙ ap (λ (ts : List AcceptedTrack). (get_or ts (id - 1) none_accepted).samples) same
      ∙ sym (session_holds other f id j))
      (λ (n : IsIdOf (writer_of one) id → ⊥).
      let m : IsIdOf (writer_of other) id → ⊥ =
      λ j. let a = j.first in let b = j.last in n (record { first = a; last = omega (arith, b, same_count) }) in
      none_elsewhere (writer_of one) id n (writer_of one).chunks (session_sound one e.answered).known
      ∙ sym (none_elsewhere (writer_of other) id m (writer_of other).chunks (session_sound other f.answered).known))
      (cases_id (writer_of one) id)
