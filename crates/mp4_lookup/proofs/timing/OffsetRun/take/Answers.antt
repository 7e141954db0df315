use Rattle.std.proofs.Common.{refl, sym, arith, ◌∙◌, rules, w32}
use Rattle.std.specs.Prelude.{FitsSigned}
use Rattle.std.proofs.lemmas.Int.{to_z-of_z}
use Rattle.mp4_lookup.proofs.Steps.{offset_first, offset_taken}
use Rattle.mp4_lookup.proofs.timing.OffsetRun.take.Goals as goal

pub returns-clause-taken : goal.returns-clause-taken
returns-clause-taken c = λ runs k here.
    let fits : FitsSigned w32 c.args.self.now.offset = search rules in
    to_z-of_z w32 _ fits ∙ sym (offset_first runs k _ here c.requires.some)

pub returns-clause-rest : goal.returns-clause-rest
returns-clause-rest c = λ runs k first here. offset_taken runs k _ _ first here (omega arith) refl refl
