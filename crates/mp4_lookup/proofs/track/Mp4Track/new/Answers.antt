use Rattle.std.proofs.Common.{◌-◌, ◌^◌, sym, subst}
use Rattle.mp4_boxes.specs.Stbl.{sample_count}
use Rattle.mp4_fragments.specs.Index.{Indexes, run_at}
use Rattle.mp4_fragments.proofs.IndexLaws.{indexed_runs}
use Rattle.mp4_fragments.specs.Seek.{IsSeekIndex}
use Rattle.mp4_lookup.proofs.track.Mp4Track.new.Goals as goal

pub invariant_of-result : goal.invariant_of-result
invariant_of-result c =
    let trafs = c.args.trafs in
    let defaults = c.args.defaults in
    let index = c.in-Ok.field-0.runs in
    let made = rw c.as_slice.ensures at c.in-Ok.ensures.runs in
    let runs = sym (indexed_runs trafs defaults _ index made) in
    let end = 2 ^ 32 - 1 - sample_count c.args.trak.mdia.minf.stbl in
    record {
      numbered = c.requires.first_samples;
      indexed = c.in-Ok.ensures.tables;
      placed = subst (λ runs. Indexes (run_at trafs defaults) runs index) runs made;
      sought = subst (λ runs. IsSeekIndex runs end c.in-Ok.field-0.seek)
          runs (rw c.as_slice.ensures at c.in-Ok.ensures.seek);
      counted = c.in-Ok.ensures.counted;
    }

pub returns-in-Ok-clause-runs : goal.returns-in-Ok-clause-runs
returns-in-Ok-clause-runs c =
    indexed_runs c.args.trafs c.args.defaults _ c.in-Ok.field-0.runs
    (rw c.as_slice.ensures at c.in-Ok.ensures.runs)
