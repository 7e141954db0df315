use Rattle.std.proofs.Common.{◌≡◌, ◌+◌, ◌-◌, ◌^◌, length, min, ◌∙◌, arith}
use Rattle.mp4_fragments.proofs.Decoding.{parted_once}
use Rattle.mp4_lookup.specs.Costs.{IsCountInTable, times_by}
use Rattle.mp4_search.proofs.Digits.{digits_64}
use Rattle.mp4_table.specs.Runs.{durations}
use Rattle.mp4_lookup.proofs.Seeking.{early_samples, last_sample_by, no_runs_by, no_sample_by, times_parted}
use Rattle.mp4_lookup.proofs.seek.last_by_time.Goals as goal

pub partition_point-begun-requires-clause-parted : goal.partition_point-begun-requires-clause-parted
partition_point-begun-requires-clause-parted c =
    rw c.as_slice.ensures.value (times_parted c.args.runs.now c.args.index.now.stts_counts
    c.args.index.now.stts_times.items c.args.time c.requires.sums)

pub returns-in_default-clause-number : goal.returns-in_default-clause-number
returns-in_default-clause-number c =
    let none : c.partition_point-begun.result ≡ 0 = omega (arith, c.in_default.ensures) in
    no_sample_by (durations c.args.runs.now) c.args.count c.args.time
    (no_runs_by c.args.runs.now c.args.index.now.stts_counts c.args.index.now.stts_times.items c.args.count c.args.time
    c.requires.sums (rw (none, c.as_slice.ensures.value) at c.partition_point-begun.ensures.point))

pub read-before-requires-clause-room : goal.read-before-requires-clause-room
read-before-requires-clause-room c =
    omega (
      arith,
      c.requires.fresh,
      c.partition_point-begun.ensures.few,
      digits_64 (length c.as_slice.result.now) (omega (arith, c.as_slice.type_inv.0)),
    )

pub returns-then-number-eq0-clause-number : goal.returns-then-number-eq0-clause-number
returns-then-number-eq0-clause-number c =
    let index = c.args.index.now in
    let run = c.in-Some.run' in
    let next : c.partition_point-begun.result ≡ run + 1 = omega (arith, c.in-Some.ensures.0, c.in-Some.ensures.1) in
    let found = early_samples c.args.runs.now index.stts_counts index.stts_times.items c.args.count c.args.time run
    c.read-before.result c.samples_within-within.result (record { sample_count = 0; sample_delta = 0 })
    c.requires.sums (omega arith) (omega arith)
    (rw (next, c.as_slice.ensures.value) at c.partition_point-begun.ensures.point)
    c.read-before.ensures.number c.samples_within-within.ensures.most
    (rw c.as_slice.ensures.value at c.samples_within-within.ensures.early)
    (rw c.as_slice.ensures.value at c.samples_within-within.ensures.late) in
    let is : min (min (c.read-before.result + c.samples_within-within.result) (2 ^ 32 - 1)) c.args.count
    ≡ c.min-number.result = omega (arith, c.saturating_add.ensures, c.min-number.ensures) in
    no_sample_by (durations c.args.runs.now) c.args.count c.args.time (rw (is ∙ c.if-number-eq0.true) at found)

pub returns-clause-number : goal.returns-clause-number
returns-clause-number c =
    let index = c.args.index.now in
    let run = c.in-Some.run' in
    let next : c.partition_point-begun.result ≡ run + 1 = omega (arith, c.in-Some.ensures.0, c.in-Some.ensures.1) in
    let found = early_samples c.args.runs.now index.stts_counts index.stts_times.items c.args.count c.args.time run
    c.read-before.result c.samples_within-within.result (record { sample_count = 0; sample_delta = 0 })
    c.requires.sums (omega arith) (omega arith)
    (rw (next, c.as_slice.ensures.value) at c.partition_point-begun.ensures.point)
    c.read-before.ensures.number c.samples_within-within.ensures.most
    (rw c.as_slice.ensures.value at c.samples_within-within.ensures.early)
    (rw c.as_slice.ensures.value at c.samples_within-within.ensures.late) in
    let is : min (min (c.read-before.result + c.samples_within-within.result) (2 ^ 32 - 1)) c.args.count
    ≡ c.min-number.result = omega (arith, c.saturating_add.ensures, c.min-number.ensures) in
    last_sample_by (durations c.args.runs.now) c.args.count c.args.time c.min-number.result (rw is at found)
    (omega (arith, c.if-number-eq0.false))

pub returns-in_default-clause-counted : goal.returns-in_default-clause-counted
returns-in_default-clause-counted c =
    let times = c.as_slice.result.now in
    let counted : IsCountInTable times c.args.time c.partition_point-begun.new.readings = record {
      none = λ _. omega (arith, c.requires.fresh, c.partition_point-begun.ensures.counted);
      some = λ r at. absurd (omega (
        arith,
        parted_once (times_by times c.args.time) (length times) _ _ c.partition_point-begun.ensures.point at,
        c.in_default.ensures,
      ));
      few = omega (arith, c.requires.fresh, c.partition_point-begun.ensures.few);
    } in
    rw c.as_slice.ensures.value at counted

pub returns-then-number-eq0-clause-counted : goal.returns-then-number-eq0-clause-counted
returns-then-number-eq0-clause-counted c =
    let times = c.as_slice.result.now in
    let counted : IsCountInTable times c.args.time c.read-before.new.readings = record {
      none = λ at. absurd (omega (
        arith,
        parted_once (times_by times c.args.time) (length times) _ _ c.partition_point-begun.ensures.point at,
        c.in-Some.ensures.0,
      ));
      some = λ _ _. omega (
        arith,
        c.requires.fresh,
        c.partition_point-begun.ensures.counted,
        c.read-before.ensures.counted,
      );
      few = omega (arith, c.requires.fresh, c.partition_point-begun.ensures.few, c.read-before.ensures.counted);
    } in
    rw c.as_slice.ensures.value at counted

pub returns-clause-counted : goal.returns-clause-counted
returns-clause-counted c =
    let times = c.as_slice.result.now in
    let counted : IsCountInTable times c.args.time c.read-before.new.readings = record {
      none = λ at. absurd (omega (
        arith,
        parted_once (times_by times c.args.time) (length times) _ _ c.partition_point-begun.ensures.point at,
        c.in-Some.ensures.0,
      ));
      some = λ _ _. omega (
        arith,
        c.requires.fresh,
        c.partition_point-begun.ensures.counted,
        c.read-before.ensures.counted,
      );
      few = omega (arith, c.requires.fresh, c.partition_point-begun.ensures.few, c.read-before.ensures.counted);
    } in
    rw c.as_slice.ensures.value at counted
