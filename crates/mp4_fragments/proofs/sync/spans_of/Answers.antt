use Rattle.std.proofs.Common.{◌≤◌, List, length, ap, ◌∙◌, arith}
use Rattle.mp4_fragments.specs.Index.{run_at, runs_of}
use Rattle.mp4_fragments.specs.Sync.{sync_at}
use Rattle.mp4_fragments.specs.Entry.{Entry}
use Rattle.mp4_fragments.proofs.Finding.{length-entries}
use Rattle.mp4_fragments.proofs.Syncing.{all_built, entry_built}
use Rattle.mp4_fragments.proofs.sync.spans_of.Goals as goal

pub loop-entry-preserved : goal.loop-entry-preserved
loop-entry-preserved c =
    let find = run_at c.args.trafs.now c.args.track in
    let runs = runs_of c.args.trafs.now c.args.track c.args.index.now in
    let l = c.loop-entry in
    let made = c.in_ok-add_entry.ensures in
    let next = entry_built find c.as_slice-entry-items.result.now runs c.args.index.now c.args.end l.entry-index
    c.entry-item.result l.builder c.add_entry.new.self c.requires c.as_slice-entry-items.ensures c.entry-item.is
    (omega arith) l.invariant.end l.invariant.count l.invariant.built made.built made.count in
    record {
      built = next.0;
      opened = made.opened;
      count = next.1;
      end = made.end ∙ l.invariant.end;
    }

-- all runs were passed
all_passed : (c : goal.After-result-1)
    → length (runs_of c.args.trafs.now c.args.track c.args.index.now) ≤ c.loop-entry.entry-index
all_passed c =
    let find = run_at c.args.trafs.now c.args.track in
    let runs = runs_of c.args.trafs.now c.args.track c.args.index.now in
    omega (
      arith,
      ap (λ (es : List Entry). length es) c.as_slice-entry-items.ensures,
      length-entries find runs c.args.index.now c.requires,
      c.requires.counts.count,
    )

pub returns-clause-spans : goal.returns-clause-spans
returns-clause-spans c =
    let runs = runs_of c.args.trafs.now c.args.track c.args.index.now in
    let l = c.loop-entry in
    (all_built runs c.close.new.self c.args.end l.entry-index
    (c.in_ok-close.ensures.built (sync_at runs) l.invariant.built) c.in_ok-close.ensures.closed
    (c.close.ensures.count ∙ l.invariant.count) (all_passed c)).0

pub returns-clause-few : goal.returns-clause-few
returns-clause-few c =
    let runs = runs_of c.args.trafs.now c.args.track c.args.index.now in
    let l = c.loop-entry in
    (all_built runs c.close.new.self c.args.end l.entry-index
    (c.in_ok-close.ensures.built (sync_at runs) l.invariant.built) c.in_ok-close.ensures.closed
    (c.close.ensures.count ∙ l.invariant.count) (all_passed c)).1
