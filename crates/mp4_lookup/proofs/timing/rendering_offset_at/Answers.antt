use Rattle.std.proofs.Common.{sym, ◌∙◌, rules, w32}
use Rattle.std.specs.Prelude.{FitsSigned}
use Rattle.std.proofs.lemmas.Int.{to_z-of_z}
use Rattle.mp4_lookup.proofs.Steps.{offset_first}
use Rattle.mp4_lookup.proofs.timing.rendering_offset_at.Goals as goal

pub returns-clause-value : goal.returns-clause-value
returns-clause-value g c =
    let fits : FitsSigned w32 c.offset_run_at.result.offset = search rules in
    to_z-of_z w32 _ fits
    ∙ sym (offset_first c.args.runs.now c.args.k _ c.offset_run_at.ensures.run c.offset_run_at.ensures.some)
