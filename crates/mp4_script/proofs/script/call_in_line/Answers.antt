use Rattle.std.proofs.Common.{sym, ap, ◌∙◌, Some}
use Rattle.mp4_media.specs.Steps.{ok_is}
use Rattle.mp4_media.specs.Calls.{Call}
use Rattle.mp4_media.specs.WriterCalls.{call_of}
use Rattle.mp4_script.specs.Commands.{command_call}
use Rattle.mp4_script.proofs.script.call_in_line.Goals as goal

pub returns-in-Ok-clause-call : goal.returns-in-Ok-clause-call
returns-in-Ok-clause-call c =
    sym c.in-Some.ensures ∙ ap (λ (call : Call). Some call)
    (ok_is (command_call c.in-Some.command) (call_of c.in-Ok.call) c.in-Ok.ensures)
