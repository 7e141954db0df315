use Rattle.std.proofs.Common.{◌≡◌, refl}
use Rattle.mp4_fragments.specs.declared.run_samples.RunStart.{RunStart}
use Rattle.mp4_fragments.specs.Numbers.{plus}
use Rattle.mp4_fragments.proofs.Cursors.{stepped}
use Rattle.mp4_fragments.proofs.cursor.RunCursor.step.Goals as goal

pub returns-clause-passed : goal.returns-clause-passed
returns-clause-passed c = λ runs at.
    let next : RunStart = record { place = c.add.result; time = c.add-2.result } in
    let on : next ≡ record {
      place = plus c.args.self.now.at.place c.run_sample-run_sample.result.size;
      time = plus c.args.self.now.at.time c.run_sample-run_sample.result.duration;
    } = rw (c.add.ensures, c.add-2.ensures, c.from.ensures, c.from-2.ensures) refl in
    stepped runs c.args.self.now _ c.run_sample-run_sample.result at c.requires.inside
    (c.run_sample-run_sample.ensures runs at)
    refl refl refl refl refl on
