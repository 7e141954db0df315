use Rattle.std.proofs.Common.{Ok, refl, subst, ap, ◌∙◌}
use Rattle.mp4_media.specs.Mp4Config.{Mp4Config}
use Rattle.mp4_media.specs.WriterFields.{MayHold}
use Rattle.mp4_media.specs.Writing.{started, start_cause}
use Rattle.mp4_script.specs.Script.{standard_config}
use Rattle.mp4_script.proofs.ScriptParts.{nothing_yet, start_is_told}
use Rattle.mp4_script.proofs.Standard.{begins, same_config}
use Rattle.mp4_script.proofs.script_writer.ScriptWriter.new.Goals as goal

pub returns-in-Ok-write_start-clause-begun : goal.returns-in-Ok-write_start-clause-begun
returns-in-Ok-write_start-clause-begun g c = λ front long known.
    let same = same_config c.in-Ok.config (Ok standard_config) refl c.in-Ok.ensures in
    nothing_yet (started front standard_config) c.in-Ok-write_start.writer
    (subst (λ (config : Mp4Config). MayHold c.in-Ok-write_start.writer (started front config)) same
    (c.in-Ok-write_start.ensures.ok front long known))
    c.new.result.items c.new.ensures.items

pub returns-clause-err : goal.returns-clause-err
returns-clause-err g c =
    let same = same_config c.in-Ok.config (Ok standard_config) refl c.in-Ok.ensures in
    start_is_told _ (start_cause c.in-Ok.config) (ap start_cause same ∙ begins) c.in-Err-write_start.error
    c.refused_at_end-in-Err-write_start.result c.refused_at_end-in-Err-write_start.ensures
    c.in-Err-write_start.ensures.cause
