use Rattle.std.proofs.Common.{rules}
use Rattle.mp4_lookup.proofs.index.index_of.Goals as goal

pub returns : goal.returns
returns c = record {
  first_samples = search rules;
  times = record {
    counts = search rules;
    times = search rules;
    small = search rules;
  };
  ctts = search rules;
  rises = search rules;
  sync = search rules;
  bits = search rules;
  sizes = search rules;
}
