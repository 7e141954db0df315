use Rattle.std.proofs.Common.{◌≤◌, List, length, ap, arith}
use Rattle.mp4_search.proofs.Digits.{digits_64, digits_grow}
use Rattle.mp4_fragments.specs.ByTime.{AreEarliest, IsCountByTime, begin_of, runs_by}
use Rattle.mp4_fragments.specs.Entry.{Entry}
use Rattle.mp4_fragments.specs.Index.{run_at, runs_of}
use Rattle.mp4_fragments.proofs.Decoding.{answer_early, counted_early, few_times, late_runs, none_early, parted_once}
use Rattle.mp4_fragments.proofs.Decoding.{run_found, runs_parted}
use Rattle.mp4_fragments.proofs.Finding.{right_by}
use Rattle.mp4_fragments.proofs.index.RunIndex.last_decoded.Goals as goal

pub partition_point-count-requires-clause-parted : goal.partition_point-count-requires-clause-parted
partition_point-count-requires-clause-parted c =
    let runs = runs_of c.args.trafs.now c.args.track c.args.self.now in
    runs_parted (begin_of runs c.args.end) c.as_slice.result.now c.args.time
    (rw c.as_slice.ensures.value c.requires.times)

pub returns-in_default-clause-number : goal.returns-in_default-clause-number
returns-in_default-clause-number c =
    let runs = runs_of c.args.trafs.now c.args.track c.args.self.now in
    none_early runs c.args.end c.args.time (λ r. late_runs (begin_of runs c.args.end) c.as_slice.result.now c.args.time
    c.partition_point-count.result r (rw c.as_slice.ensures.value c.requires.times)
    c.partition_point-count.ensures.point (omega (arith, c.in_default.ensures)))

pub returns-in_default-clause-counted : goal.returns-in_default-clause-counted
returns-in_default-clause-counted c =
    let runs = runs_of c.args.trafs.now c.args.track c.args.self.now in
    let times = c.as_slice.result.now in
    let earliest : AreEarliest (begin_of runs c.args.end) 0 times = rw c.as_slice.ensures.value c.requires.times in
    let many = digits_grow (length times) (length runs) (few_times runs c.args.end times earliest) in
    let at = c.partition_point-count.ensures.point in
    let counted : IsCountByTime runs times c.args.end c.args.time c.partition_point-count.new.readings = record {
      none = λ _. omega (arith, c.requires.fresh, c.partition_point-count.ensures.counted);
      some = λ r p last there.
          absurd (omega (
            arith,
            parted_once (runs_by times c.args.time) (length times) _ _ at last,
            c.in_default.ensures,
          ));
      few = omega (arith, c.requires.fresh, many, c.partition_point-count.ensures.few);
    } in
    rw c.as_slice.ensures.value at counted

pub read-before-requires-clause-within : goal.read-before-requires-clause-within
read-before-requires-clause-within c =
    let index = c.args.self.now in
    let known = run_at c.args.trafs.now c.args.track in
    let runs = runs_of c.args.trafs.now c.args.track index in
    let earliest : AreEarliest (begin_of runs c.args.end) 0 c.as_slice.result.now =
    rw c.as_slice.ensures.value c.requires.times in
    let found = run_found known runs index c.args.end c.args.time c.partition_point-count.result c.in-Some.index
    c.as_slice.result.now c.requires.indexed earliest c.partition_point-count.ensures.point c.in-Some.ensures.0
    c.in-Some.ensures.1 (omega arith) in
    found.1

pub read-before-requires-clause-room : goal.read-before-requires-clause-room
read-before-requires-clause-room c =
    omega (
      arith,
      c.requires.fresh,
      c.partition_point-count.ensures.few,
      digits_64 (length c.as_slice.result.now) (omega (arith, c.as_slice.type_inv.0)),
    )

pub offset_bounds-as_slice-index : goal.offset_bounds-as_slice-index
offset_bounds-as_slice-index c =
    let index = c.args.self.now in
    let known = run_at c.args.trafs.now c.args.track in
    let runs = runs_of c.args.trafs.now c.args.track index in
    let earliest : AreEarliest (begin_of runs c.args.end) 0 c.as_slice.result.now =
    rw c.as_slice.ensures.value c.requires.times in
    let found = run_found known runs index c.args.end c.args.time c.partition_point-count.result c.in-Some.index
    c.as_slice.result.now c.requires.indexed earliest c.partition_point-count.ensures.point c.in-Some.ensures.0
    c.in-Some.ensures.1 (omega arith) in
    omega (arith, found.2, ap (λ (es : List Entry). length es) c.as_slice-2.ensures, c.as_slice-2.type_inv.1)

pub bounds-as_slice-index : goal.bounds-as_slice-index
bounds-as_slice-index c =
    let index = c.args.self.now in
    let known = run_at c.args.trafs.now c.args.track in
    let runs = runs_of c.args.trafs.now c.args.track index in
    let earliest : AreEarliest (begin_of runs c.args.end) 0 c.as_slice.result.now =
    rw c.as_slice.ensures.value c.requires.times in
    let found = run_found known runs index c.args.end c.args.time c.partition_point-count.result c.in-Some.index
    c.as_slice.result.now c.requires.indexed earliest c.partition_point-count.ensures.point c.in-Some.ensures.0
    c.in-Some.ensures.1 (omega arith) in
    rw c.as_slice-2.ensures found.2

pub overflow_sub-end : goal.overflow_sub-end
overflow_sub-end c =
    let index = c.args.self.now in
    let known = run_at c.args.trafs.now c.args.track in
    let runs = runs_of c.args.trafs.now c.args.track index in
    let earliest : AreEarliest (begin_of runs c.args.end) 0 c.as_slice.result.now =
    rw c.as_slice.ensures.value c.requires.times in
    let found = run_found known runs index c.args.end c.args.time c.partition_point-count.result c.in-Some.index
    c.as_slice.result.now c.requires.indexed earliest c.partition_point-count.ensures.point c.in-Some.ensures.0
    c.in-Some.ensures.1 (omega arith) in
    omega (arith, c.read-before.ensures.number, found.3, found.4)

pub run_samples_by-run_samples-requires-clause-right : goal.run_samples_by-run_samples-requires-clause-right
run_samples_by-run_samples-requires-clause-right c =
    let index = c.args.self.now in
    let known = run_at c.args.trafs.now c.args.track in
    let runs = runs_of c.args.trafs.now c.args.track index in
    let earliest : AreEarliest (begin_of runs c.args.end) 0 c.as_slice.result.now =
    rw c.as_slice.ensures.value c.requires.times in
    let found = run_found known runs index c.args.end c.args.time c.partition_point-count.result c.in-Some.index
    c.as_slice.result.now c.requires.indexed earliest c.partition_point-count.ensures.point c.in-Some.ensures.0
    c.in-Some.ensures.1 (omega arith) in
    right_by known c.as_slice-2.result.now runs index c.in-Some.index c.index-as_slice-index.result c.requires.indexed
    c.as_slice-2.ensures c.index-as_slice-index.is found.2

pub run_samples_by-run_samples-requires-clause-room : goal.run_samples_by-run_samples-requires-clause-room
run_samples_by-run_samples-requires-clause-room c =
    omega (
      arith,
      c.read-before.ensures.counted,
      c.requires.fresh,
      c.partition_point-count.ensures.few,
      digits_64 (length c.as_slice.result.now) (omega (arith, c.as_slice.type_inv.0)),
    )

pub overflow_add-result : goal.overflow_add-result
overflow_add-result c =
    let index = c.args.self.now in
    let known = run_at c.args.trafs.now c.args.track in
    let runs = runs_of c.args.trafs.now c.args.track index in
    let earliest : AreEarliest (begin_of runs c.args.end) 0 c.as_slice.result.now =
    rw c.as_slice.ensures.value c.requires.times in
    let answer = answer_early known c.as_slice-2.result.now runs index c.args.end c.args.time
    c.partition_point-count.result c.in-Some.index c.read-before.result c.run_samples_by-run_samples.result
    c.index-as_slice-index.result c.as_slice.result.now c.requires.indexed c.as_slice-2.ensures
    c.index-as_slice-index.is earliest c.partition_point-count.ensures.point c.in-Some.ensures.0 c.in-Some.ensures.1
    (omega arith) (omega arith) c.read-before.ensures.number c.run_samples_by-run_samples.ensures.point in
    omega (arith, answer.0, answer.1.within)

pub overflow_sub-result : goal.overflow_sub-result
overflow_sub-result c =
    let index = c.args.self.now in
    let known = run_at c.args.trafs.now c.args.track in
    let runs = runs_of c.args.trafs.now c.args.track index in
    let earliest : AreEarliest (begin_of runs c.args.end) 0 c.as_slice.result.now =
    rw c.as_slice.ensures.value c.requires.times in
    let answer = answer_early known c.as_slice-2.result.now runs index c.args.end c.args.time
    c.partition_point-count.result c.in-Some.index c.read-before.result c.run_samples_by-run_samples.result
    c.index-as_slice-index.result c.as_slice.result.now c.requires.indexed c.as_slice-2.ensures
    c.index-as_slice-index.is earliest c.partition_point-count.ensures.point c.in-Some.ensures.0 c.in-Some.ensures.1
    (omega arith) (omega arith) c.read-before.ensures.number c.run_samples_by-run_samples.ensures.point in
    omega (arith, answer.0)

pub returns-clause-number : goal.returns-clause-number
returns-clause-number c =
    let index = c.args.self.now in
    let known = run_at c.args.trafs.now c.args.track in
    let runs = runs_of c.args.trafs.now c.args.track index in
    let earliest : AreEarliest (begin_of runs c.args.end) 0 c.as_slice.result.now =
    rw c.as_slice.ensures.value c.requires.times in
    let answer = answer_early known c.as_slice-2.result.now runs index c.args.end c.args.time
    c.partition_point-count.result c.in-Some.index c.read-before.result c.run_samples_by-run_samples.result
    c.index-as_slice-index.result c.as_slice.result.now c.requires.indexed c.as_slice-2.ensures
    c.index-as_slice-index.is earliest c.partition_point-count.ensures.point c.in-Some.ensures.0 c.in-Some.ensures.1
    (omega arith) (omega arith) c.read-before.ensures.number c.run_samples_by-run_samples.ensures.point in
    answer.1

pub returns-clause-counted : goal.returns-clause-counted
returns-clause-counted c =
    let index = c.args.self.now in
    let known = run_at c.args.trafs.now c.args.track in
    let runs = runs_of c.args.trafs.now c.args.track index in
    let times = c.as_slice.result.now in
    let earliest : AreEarliest (begin_of runs c.args.end) 0 times = rw c.as_slice.ensures.value c.requires.times in
    let many = digits_grow (length times) (length runs) (few_times runs c.args.end times earliest) in
    let at = c.partition_point-count.ensures.point in
    let begun : 1 ≤ c.partition_point-count.result = omega (arith, c.in-Some.ensures.0) in
    let counted : IsCountByTime runs times c.args.end c.args.time c.run_samples_by-run_samples.new.readings = record {
      none = λ nothing.
          absurd (omega (arith, begun, parted_once (runs_by times c.args.time) (length times) _ _ nothing at));
      some = λ r p last there.
          let in_run = counted_early known c.as_slice-2.result.now runs index c.args.end c.args.time
          c.partition_point-count.result c.in-Some.index c.read-before.result _ _ c.index-as_slice-index.result times
          c.requires.indexed c.as_slice-2.ensures c.index-as_slice-index.is earliest at begun c.in-Some.ensures.1
          (omega arith) c.read-before.ensures.number c.run_samples_by-run_samples.ensures.counted r p last there in
          omega (
            arith,
            in_run,
            c.requires.fresh,
            c.partition_point-count.ensures.counted,
            c.read-before.ensures.counted,
          );
      few = omega (
        arith,
        c.requires.fresh,
        many,
        c.partition_point-count.ensures.few,
        c.read-before.ensures.counted,
        c.run_samples_by-run_samples.ensures.few,
      );
    } in
    rw c.as_slice.ensures.value at counted
