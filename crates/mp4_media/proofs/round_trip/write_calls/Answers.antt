use Rattle.std.proofs.Common.{◌≡◌, List, ℕ, [], true, sym, ap, subst, ◌∙◌, true≢false}
use Rattle.mp4_mux.specs.Writing.{WriterState, started, whole_of}
use Rattle.mp4_mux.specs.Calls.{after, Answered}
use Rattle.mp4_mux.proofs.EndedSessionLaws.{ended_after}
use Rattle.mp4_media.specs.Finished.{Opens}
use Rattle.mp4_media.specs.WriterCalls.{calls_of}
use Rattle.mp4_media.proofs.round_trip.write_calls.Goals as goal

pub returns-clause-replies : goal.returns-clause-replies
returns-clause-replies c =
    let start = c.in_ok-writer.ensures.ok
    ∙ ap (λ (front : List ℕ). started front c.args.config.now) c.new.ensures.items in
    subst (Answered (calls_of c.args.calls.now) c.in_ok-replies.replies.items) start c.in_ok-replies.ensures.replies

pub returns-clause-bytes : goal.returns-clause-bytes
returns-clause-bytes c =
    let start = c.in_ok-writer.ensures.ok
    ∙ ap (λ (front : List ℕ). started front c.args.config.now) c.new.ensures.items in
    c.into_writer.ensures
    ∙ ap whole_of
    (c.in_ok-replies.ensures.after ∙ ap (after (calls_of c.args.calls.now) c.in_ok-replies.replies.items) start)

pub returns-clause-opens : goal.returns-clause-opens
returns-clause-opens c = λ over.
    let calls = calls_of c.args.calls.now in
    let replies = c.in_ok-replies.replies.items in
    let begun : WriterState = started [] c.args.config.now in
    let start : c.in_ok-writer.writer ≡ begun =
    c.in_ok-writer.ensures.ok ∙ ap (λ (front : List ℕ). started front c.args.config.now) c.new.ensures.items in
    let answered = subst (Answered calls replies) start c.in_ok-replies.ensures.replies in
    let ended : (after calls replies begun).ended ≡ true = ended_after calls replies begun answered over in
    let final : c.run.new.self ≡ after calls replies begun =
    c.in_ok-replies.ensures.after ∙ ap (after calls replies) start in
    let not_begun_ended : c.in_ok-writer.writer.ended ≡ true → Opens c.in_ok-writer.writer =
    λ e. absurd (true≢false (sym e ∙ ap (λ (st : WriterState). st.ended) start)) in
    subst Opens final
    (c.in_ok-replies.ensures.opens not_begun_ended (ap (λ (st : WriterState). st.ended) final ∙ ended))
