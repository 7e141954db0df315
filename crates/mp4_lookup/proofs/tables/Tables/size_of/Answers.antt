use Rattle.std.proofs.Common.{◌∙◌, ◌-◌, Some, ap, sym, arith}
use Rattle.std.specs.Prelude.{slice_get}
use Rattle.mp4_lookup.specs.Tables.{walked}
use Rattle.mp4_lookup.proofs.ChunkRuns.{one_size}
use Rattle.mp4_lookup.proofs.RuleLaws.{sizes_are_listed}
use Rattle.mp4_lookup.proofs.tables.Tables.size_of.Goals as goal

pub returns-then-self-gt0 : goal.returns-then-self-gt0
returns-then-self-gt0 c =
    let size = c.requires.tables.sample_size in
    ap Some size
    ∙ sym (one_size (walked c.args.self.now).stsz c.args.k c.requires.first (rw size at c.if-self-gt0.true))

pub returns-else-self-gt0 : goal.returns-else-self-gt0
returns-else-self-gt0 c =
    let z = (walked c.args.self.now).stsz in
    c.number_at.ensures
    ∙ ap (λ xs. slice_get xs (c.args.k - 1))
    (c.requires.tables.sample_sizes
    ∙ sym (sizes_are_listed z c.args.k (omega (arith, c.requires.tables.sample_size, c.if-self-gt0.false))))
