use Rattle.std.proofs.Common.{◌≡◌, [], true, refl, ◌∙◌, arith}
use Rattle.mp4_mux.specs.Writing.{WriterState, started, whole_of}
use Rattle.mp4_mux.specs.Calls.{Session, IsAnswered, writer_of}
use Rattle.mp4_mux.proofs.EndedSessionLaws.{ended_after}
use Rattle.mp4_media.specs.WriterCalls.{calls_of}
use Rattle.mp4_media.proofs.ReadBack.{read_back}
use Rattle.mp4_media.proofs.round_trip.write_and_read.Goals as goal

pub returns-clause-read_back : goal.returns-clause-read_back
returns-clause-read_back c = λ over.
    let calls = calls_of c.args.calls.now in
    let replies = c.in_ok-replies.replies.items in
    let begun : WriterState = started [] c.args.config.now in
    let session : Session = record { front = []; config = c.args.config.now; calls = calls; replies = replies } in
    let answered : IsAnswered session = record {
      fits = c.in_ok-replies.ensures.fits;
      replies = c.in_ok-replies.ensures.replies;
    } in
    let ended : (writer_of session).ended ≡ true = ended_after calls replies begun answered.replies over in
    let bytes : c.as_slice-bytes.result.now ≡ whole_of (writer_of session) =
    c.as_slice-bytes.ensures.value ∙ c.in_ok-replies.ensures.bytes in
    read_back session refl (record { answered = answered; ended = ended }) c.as_slice-bytes.result.now bytes
    (omega arith) (c.in_ok-replies.ensures.opens over) c.read_mp4.result
    c.read_mp4.ensures.opening
