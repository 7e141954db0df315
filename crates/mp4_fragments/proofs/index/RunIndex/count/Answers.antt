use Rattle.std.proofs.Common.{◌^◌, ◌-◌, min, sym, ap, ◌∙◌}
use Rattle.mp4_fragments.proofs.Finding.{length-all_run_samples}
use Rattle.mp4_fragments.proofs.index.RunIndex.count.Goals as goal

pub returns : goal.returns
returns c = λ find runs indexed. indexed.total ∙ ap (λ n. min (2 ^ 64 - 1) n) (sym (length-all_run_samples runs))
