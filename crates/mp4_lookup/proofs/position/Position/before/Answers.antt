use Rattle.mp4_samples.specs.Tables.{sync_numbers}
use Rattle.mp4_lookup.specs.Tables.{walked}
use Rattle.mp4_lookup.proofs.position.Position.before.Goals as goal

pub returns : goal.returns
returns c =
    let t = walked c.args.tables.now in
    record {
      chunk = c.none.ensures.chunk t c.args.k;
      times = rw c.requires.tables.durations at c.before-2.ensures;
      offsets = rw c.requires.tables.rendering_offsets at c.before-3.ensures;
      sync = c.none-2.ensures (sync_numbers t.stss) c.args.k;
    }
