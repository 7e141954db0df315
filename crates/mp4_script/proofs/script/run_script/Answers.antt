use Rattle.std.proofs.Common.{◌≡◌, List, Ok, refl, sym, ap, subst, ◌∙◌, rules, arith}
use Rattle.mp4_media.specs.Writing.{WriterState, AcceptedTrack, end_cause, whole_of}
use Rattle.mp4_media.specs.Calls.{writer_of}
use Rattle.mp4_media.specs.Finished.{Opens}
use Rattle.mp4_media.specs.RoundTrip.{HasExactly, OpensAs}
use Rattle.mp4_script.specs.Script.{standard_writer, run_all}
use Rattle.mp4_script.proofs.Standard.{lines_are_refused, end_is_refused, end_is_ok, no_cause}
use Rattle.mp4_script.proofs.Scripted.{session, session-is, session-ended, session-accepts}
use Rattle.mp4_script.proofs.script.run_script.Goals as goal

pub returns-in_err-run_lines-clause-answer : goal.returns-in_err-run_lines-clause-answer
returns-in_err-run_lines-clause-answer c =
    let writer = c.in_ok-writer.writer in
    let begun : writer ≡ standard_writer = search rules in
    let fault = c.in_err-run_lines.field-0.0 in
    let result = c.from_residual-in_err-run_lines.result in
    lines_are_refused c.args.script.now writer fault (λ bytes. bytes.items) result
    begun (search rules) c.in_err-run_lines.ensures.answer

pub returns-in-Err-clause-answer : goal.returns-in-Err-clause-answer
returns-in-Err-clause-answer c =
    let writer = c.in_ok-writer.writer in
    let begun : writer ≡ standard_writer = search rules in
    let next = c.run_lines.new.writer in
    end_is_refused c.args.script.now writer next c.in-Err.error begun c.in_ok-run_lines.ensures.answer
    c.in-Err.ensures.cause

pub returns-in-Ok-clause-answer : goal.returns-in-Ok-clause-answer
returns-in-Ok-clause-answer c =
    let writer = c.in_ok-writer.writer in
    let begun : writer ≡ standard_writer = search rules in
    let next = c.run_lines.new.writer in
    let ended = c.write_end.new.self in
    end_is_ok c.args.script.now writer next ended c.into_writer.result.items
    begun c.in_ok-run_lines.ensures.answer c.in-Ok.ensures.cause c.in-Ok.ensures.ok c.into_writer.ensures

pub returns-in-Ok-clause-opens : goal.returns-in-Ok-clause-opens
returns-in-Ok-clause-opens c =
    let script = c.args.script.now in
    let begun : c.in_ok-writer.writer ≡ standard_writer = search rules in
    let next = c.run_lines.new.writer in
    let run : run_all script standard_writer ≡ Ok next =
    subst (λ (w : WriterState). run_all script w ≡ Ok next) begun c.in_ok-run_lines.ensures.answer in
    let none = no_cause (end_cause next) c.in-Ok.ensures.cause in
    let fits = c.in_ok-run_lines.ensures.fits in
    let is : c.write_end.new.self ≡ writer_of (session script next run none fits) =
    c.in-Ok.ensures.ok ∙ sym (session-is script next run none fits) in
    let bytes : c.into_writer.result.items ≡ whole_of (writer_of (session script next run none fits)) =
    c.into_writer.ensures ∙ ap whole_of is in
    λ read opening. subst (λ (tracks : List AcceptedTrack). OpensAs (λ movie. HasExactly movie tracks) read)
    (session-accepts script next run none fits)
    (c.written_movies_are_read_back.ensures (session script next run none fits) refl
    (session-ended script next run none fits) (subst Opens is c.in-Ok.ensures.opens) c.into_writer.result.items bytes
    (omega arith) read opening)
