use Rattle.std.proofs.Common.{◌≡◌, ◌∙◌, ◌++◌, List, map, ap, refl}
use Rattle.mp4_boxes.specs.Stbl.{sample_count}
use Rattle.mp4_remux.specs.Descriptions.{default_description, description_in, fragment_runs, runs_of, table_runs}
use Rattle.mp4_remux.specs.Descriptions.{within_32_bits}
use Rattle.mp4_remux.specs.declared.descriptions.DescribedRun.{DescribedRun}
use Rattle.mp4_remux.proofs.DescriptionLaws.{same_after}
use Rattle.mp4_remux.proofs.descriptions.Descriptions.of.Goals as goal

pub returns : goal.returns
unfolding runs_of
returns c = λ later some small.
    let t = c.args.track.now in
    let stbl = t.trak.mdia.minf.stbl in
    let rows = table_runs (sample_count stbl) stbl.stsc.entries in
    let parts = fragment_runs (default_description c.args.mvex.now t.trak.tkhd.track_id) (sample_count stbl) t.trafs in
    let is : c.push_fragments.new.runs.items ≡ rows ++ map within_32_bits parts =
    rw (
      c.in_ok-push_fragments.ensures,
      c.in_ok-push_chunks.ensures,
      c.new-runs.ensures.items,
      c.default_description-default.ensures,
      c.as_slice.ensures,
      c.sample_count-count.ensures,
      c.as_slice-2.ensures,
    )
    refl in
    ap (λ (rs : List DescribedRun). description_in rs later) is ∙ same_after rows parts later small
