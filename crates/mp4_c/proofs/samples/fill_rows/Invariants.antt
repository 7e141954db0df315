-- The rows of the whole walk are those that were filled in, and then those of what is left.
use Rattle.std.proofs.Common.{◌≡◌, ◌-◌, ◌++◌, length, take, drop}
use Rattle.mp4_c.specs.Samples.{refusal_in, rows_of}
use Rattle.mp4_lookup.specs.InOrder.{samples_left}
use Rattle.mp4_c.proofs.samples.fill_rows.Given as goal

abbrev pub invariant-loop-k : goal.invariant-loop-k
invariant-loop-k l = record {
  rows : rows_of l.track_id (length l.fn.rows) (samples_left l.initial.samples)
      ≡ take l.k l.rows ++ rows_of l.track_id (length l.fn.rows - l.k) (samples_left l.samples);
  rest : drop l.k l.rows ≡ drop l.k l.fn.rows;
  refusal : refusal_in (length l.fn.rows) (samples_left l.initial.samples)
      ≡ refusal_in (length l.fn.rows - l.k) (samples_left l.samples);
}
