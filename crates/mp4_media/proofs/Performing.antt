-- A list of calls, made one after the other.
use Rattle.std.proofs.Common.{◌≡◌, ℕ, ◌+◌, ◌<◌, false, true, List, [], ◌∷◌, ◌++◌, length, get_or, take, Ok, Err, None}
use Rattle.std.proofs.Common.{sym, ap, subst, ◌∙◌, true≢false}
use Rattle.std.specs.Prelude.{OnOk, OnErr}
use Rattle.std.specs.List.{AllByRecursion}
use Rattle.std.proofs.lemmas.List.{take_more, map-append}
use Rattle.mp4_codec.specs.Cause.{AnswersCause}
use Rattle.mp4_mux.specs.Writing.{WriterState}
use Rattle.mp4_mux.proofs.StateLaws.{sample_welcome, one_more}
use Rattle.mp4_mux.proofs.EndedStates.{all-append}
use Rattle.mp4_mux.specs.Calls.{Call, Reply, add_track, write_sample, write_end, is_end, step, call_cause}
use Rattle.mp4_mux.specs.Calls.{IsInRangeCall}
use Rattle.mp4_mux.proofs.CallLaws.{step_goes_on, answered_ok}
use Rattle.mp4_media.specs.declared.calls.WriterCall.{WriterCall}
use Rattle.mp4_media.specs.Finished.{Opens}
use Rattle.mp4_media.specs.WriterCalls.{call_of, calls_of}

-- the bytes of a writer open, if it has ended
abbrev pub OpensAtEnd : WriterState → Type 0
OpensAtEnd st = st.ended ≡ true → Opens st

-- a call that is no end, and is Ok, is one of a writer that has not ended
goes_on : (st : WriterState) (call : Call) → is_end call ≡ false → call_cause st call ≡ None
    → (step st call).ended ≡ false
goes_on st (add_track config) more e = step_goes_on st (add_track config) e
goes_on st (write_sample id s) more e =
    (one_more st id (sample_welcome st id s e).track s).ended ∙ step_goes_on st (write_sample id s) e
goes_on st write_end more e = absurd (true≢false more)

-- so after it the bytes open as before
pub still_opens : (st new : WriterState) (call : Call) (reply : Reply) → is_end call ≡ false
    → AnswersCause (call_cause st call) reply → OnOk reply (new ≡ step st call) → OnErr reply (new ≡ st)
    → OpensAtEnd st → OpensAtEnd new
still_opens st new call (Ok x) more cause ok err before over =
    let on = goes_on st call more (answered_ok (call_cause st call) cause) in
    absurd (true≢false (sym over ∙ ap (λ (w : WriterState). w.ended) ok ∙ on))
still_opens st new call (Err c) more cause ok err before over = subst OpensAtEnd (sym err) before over

-- one call more is made
pub calls_of-more : (calls : List WriterCall) (i : ℕ) (call : WriterCall) → i < length calls
    → call ≡ get_or calls i call → calls_of (take (i + 1) calls) ≡ calls_of (take i calls) ++ call_of call ∷ []
calls_of-more calls i call within is =
    ap calls_of (take_more calls i call within ∙ ap (λ (x : WriterCall). take i calls ++ x ∷ []) (sym is))
    ∙ map-append call_of (take i calls) (call ∷ [])

-- and is in range
pub in_range-more : (calls : List Call) (call : Call) → AllByRecursion IsInRangeCall calls → IsInRangeCall call
    → AllByRecursion IsInRangeCall (calls ++ call ∷ [])
in_range-more calls call before this = all-append IsInRangeCall calls (call ∷ []) before (this, tt)
