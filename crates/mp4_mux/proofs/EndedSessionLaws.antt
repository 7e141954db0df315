-- What a writer whose end was written has made of its calls.
use Rattle.std.proofs.Common.{◌≡◌, List, [], ◌∷◌, Ok, Err, None, true}
use Rattle.std.proofs.Common.{refl, sym, ap, subst, ◌∙◌, true≢false}
use Rattle.std.specs.List.{AllByRecursion}
use Rattle.mp4_mux.specs.Writing.{WriterState, accepted, started, with_end}
use Rattle.mp4_mux.specs.Sound.{IsSound}
use Rattle.mp4_mux.proofs.StateLaws.{sound_started, sample_welcome, one_more}
use Rattle.mp4_mux.proofs.EndedStates.{accepted-end}
use Rattle.mp4_mux.specs.Calls.{Call, Reply, step, call_cause, after_reply, after, Answered, has_end, IsInRangeCall}
use Rattle.mp4_mux.specs.Calls.{Session, IsEnded}
use Rattle.mp4_mux.specs.Calls.{writer_of, accepted_by}
use Rattle.mp4_mux.specs.Calls.Call.{add_track, write_sample, write_end}
use Rattle.mp4_mux.proofs.CallLaws.{step_goes_on, answered_ok, sound_step}
use Rattle.mp4_mux.proofs.SessionLaws.{sessions_agree}
use Rattle.mp4_mux.specs.Written.{IsWrittenMovie, HaveSameSamples}
use Rattle.mp4_mux.proofs.WrittenLaws.{written_movie}
use Rattle.mp4_mux.proofs.ReadBackLaws.{same_samples}

-- this is the end of a sound writer
record IsEndOfSound (st : WriterState) : Type 0 where
  before : WriterState
  sound : IsSound before
  is : st ≡ with_end before

-- a writer that has ended came to its end
abbrev CameToEnd : WriterState → Type 0
CameToEnd st = st.ended ≡ true → IsEndOfSound st

end_step : (st : WriterState) (call : Call) → IsSound st → call_cause st call ≡ None → CameToEnd (step st call)
end_step st (add_track config) sound e over = absurd (true≢false (sym over ∙ step_goes_on st (add_track config) e))
end_step st (write_sample id s) sound e over =
    let i = (sample_welcome st id s e).track in
    absurd (true≢false (sym over ∙ (one_more st id i s).ended ∙ step_goes_on st (write_sample id s) e))
end_step st write_end sound e over = record { before = st; sound = sound; is = refl }

end_after : (calls : List Call) (replies : List Reply) (st : WriterState) → Answered calls replies st
    → AllByRecursion IsInRangeCall calls → IsSound st → CameToEnd st → CameToEnd (after calls replies st)
unfolding after Answered
end_after [] replies st a fits sound h = h
end_after (call ∷ calls) [] st a fits sound h = absurd a
end_after (call ∷ calls) (Ok x ∷ replies) st a fits sound h =
    let e = answered_ok (call_cause st call) a.0 in
    end_after calls replies (step st call) a.1 fits.1 (sound_step st call sound e fits.0) (end_step st call sound e)
end_after (call ∷ calls) (Err e ∷ replies) st a fits sound h = end_after calls replies st a.1 fits.1 sound h

-- a writer that has ended stays so
stays_ended : (calls : List Call) (replies : List Reply) (st : WriterState) → Answered calls replies st
    → st.ended ≡ true → (after calls replies st).ended ≡ true
unfolding after Answered
stays_ended [] replies st a over = over
stays_ended (call ∷ calls) [] st a over = absurd a
stays_ended (call ∷ calls) (Ok x ∷ replies) st a over =
    absurd (true≢false (sym over ∙ step_goes_on st call (answered_ok (call_cause st call) a.0)))
stays_ended (call ∷ calls) (Err e ∷ replies) st a over = stays_ended calls replies st a.1 over

-- where an end was answered with Ok, the writer has ended
pub ended_after : (calls : List Call) (replies : List Reply) (st : WriterState) → Answered calls replies st
    → has_end calls replies ≡ true → (after calls replies st).ended ≡ true
unfolding after Answered has_end
ended_after [] replies st a e = absurd (true≢false (sym e))
ended_after (call ∷ calls) [] st a e = absurd a
ended_after (add_track config ∷ calls) (reply ∷ replies) st a e =
    ended_after calls replies (after_reply st (add_track config) reply) a.1 e
ended_after (write_sample id s ∷ calls) (reply ∷ replies) st a e =
    ended_after calls replies (after_reply st (write_sample id s) reply) a.1 e
ended_after (write_end ∷ calls) (Ok x ∷ replies) st a e = stays_ended calls replies (with_end st) a.1 refl
ended_after (write_end ∷ calls) (Err c ∷ replies) st a e = ended_after calls replies st a.1 e

came_to_end : (session : Session) → IsEnded session → IsEndOfSound (writer_of session)
came_to_end session e =
    let begun = started session.front session.config in
    end_after session.calls session.replies begun e.answered.replies e.answered.fits
    (sound_started session.front session.config) (λ over. absurd (true≢false (sym over))) e.ended

-- its movie is that of the samples that its calls have accepted
pub session_written : (session : Session) → IsEnded session → IsWrittenMovie (writer_of session)
session_written session e =
    let end = came_to_end session e in
    subst IsWrittenMovie (sym end.is) (written_movie end.before end.sound)

-- where two have accepted the same, the same samples are read of each track
pub sessions_read_the_same : (one other : Session) → IsEnded one → IsEnded other
    → accepted_by one ≡ accepted_by other → HaveSameSamples (writer_of one) (writer_of other)
sessions_read_the_same one other e f same =
    let end = came_to_end one e in
    let fin = came_to_end other f in
    let agree = sessions_agree one other e.answered f.answered same in
    let before : accepted end.before ≡ accepted fin.before =
    sym (accepted-end end.before) ∙ ap accepted (sym end.is) ∙ agree ∙ ap accepted fin.is ∙ accepted-end fin.before in
    subst (λ st. HaveSameSamples st (writer_of other)) (sym end.is)
    (subst (HaveSameSamples (with_end end.before)) (sym fin.is)
    (same_samples end.before fin.before end.sound fin.sound before))
