use Rattle.std.proofs.Common.{◌-◌, ◌^◌, sym, subst}
use Rattle.mp4_fragments.specs.Index.{Indexes, run_at}
use Rattle.mp4_fragments.proofs.IndexLaws.{indexed_runs}
use Rattle.mp4_fragments.specs.Seek.{IsSeekIndex}
use Rattle.mp4_lookup.proofs.track.indexes_of.Goals as goal

pub seek_index_of-requires : goal.seek_index_of-requires
seek_index_of-requires c =
    let trafs = c.args.trafs.now in
    let defaults = c.args.defaults in
    let made = c.in_ok-runs.ensures in
    subst (λ runs. Indexes (run_at trafs defaults) runs c.in_ok-runs.runs)
    (sym (indexed_runs trafs defaults _ c.in_ok-runs.runs made)) made

pub returns-clause-seek : goal.returns-clause-seek
returns-clause-seek c =
    let trafs = c.args.trafs.now in
    let defaults = c.args.defaults in
    let end = 2 ^ 32 - 1 - c.sample_count-count.result in
    rw (c.end_after-end.ensures, c.as_slice.ensures, c.sample_count-count.ensures)
    at (subst (λ runs. IsSeekIndex runs end c.in_ok-seek.seek)
    (indexed_runs trafs defaults _ c.in_ok-runs.runs c.in_ok-runs.ensures) c.in_ok-seek.ensures.made)
