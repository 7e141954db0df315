use Rattle.mp4_search.proofs.SumLaws.{counts_rise}
use Rattle.mp4_fragments.specs.RunSamples.{run_count}
use Rattle.mp4_fragments.specs.Index.{runs_of}
use Rattle.mp4_fragments.proofs.times.runs_below.Goals as goal

pub count_at_most-requires : goal.count_at_most-requires
count_at_most-requires c =
    let index = c.args.index.now in
    counts_rise run_count (runs_of c.args.trafs.now c.args.track index) index.counts c.requires.counts
