use Rattle.std.proofs.Common.{◌≡◌, ◌-◌, refl, arith}
use Rattle.mp4_table.specs.declared.stts.SttsEntry.{SttsEntry}
use Rattle.mp4_lookup.proofs.Steps.{time_run}
use Rattle.mp4_lookup.proofs.timing.TimeRun.next_run.Goals as goal

pub returns : goal.returns
returns c =
    let d : SttsEntry = record { sample_count = 0; sample_delta = 0 } in
    let runs = c.args.runs.now in
    let k = c.args.k in
    let i = c.args.self.now.next in
    let run = c.requires.run in
    let none : k - 1 - (k - 1) ≡ 0 = omega arith in (
      time_run runs k i (k - 1) c.args.self.now.start d _ c.requires.small c.requires.first (omega arith)
          (omega (arith, run.counted (omega arith), c.requires.none))
          (omega (arith, rw c.requires.none at run.timed (omega arith)))
          (omega arith) (omega arith) (rw none (omega arith)) refl refl,
      omega arith,
    )
