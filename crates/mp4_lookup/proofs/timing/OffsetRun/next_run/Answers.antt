use Rattle.std.proofs.Common.{◌-◌, refl, arith, rules, pos, w32, get_or}
use Rattle.std.specs.Prelude.{FitsSigned}
use Rattle.std.proofs.lemmas.Int.{to_z-of_z}
use Rattle.mp4_table.specs.declared.ctts.CttsEntry.{CttsEntry}
use Rattle.mp4_lookup.proofs.Steps.{offset_run}
use Rattle.mp4_lookup.proofs.timing.OffsetRun.next_run.Goals as goal

pub returns : goal.returns
returns c =
    let d : CttsEntry = record { sample_count = 0; sample_offset = pos 0 } in
    let runs = c.args.runs.now in
    let k = c.args.k in
    let i = c.args.self.now.next in
    let fits : FitsSigned w32 (get_or runs i d).sample_offset = search rules in (
      offset_run runs k i (k - 1) d _ c.requires.first (omega arith)
          (omega (arith, c.requires.run.counted (omega arith), c.requires.none)) (omega arith) (omega arith)
          (to_z-of_z w32 _ fits) refl,
      omega arith,
    )
