use Rattle.std.proofs.Common.{arith}
use Rattle.mp4_mux.specs.SampleInfos.{IsInRangeSampleInfo}
use Rattle.mp4_mux.specs.Writing.{info_of, lent_sample, with_sample}
use Rattle.mp4_media.proofs.KeptMovies.{sample-id, sample-size, sample-track, sample-room, hold-sample}
use Rattle.mp4_media.proofs.file_writer.Mp4FileWriter.write_sample.Goals as goal

pub overflow_sub-id : goal.overflow_sub-id
overflow_sub-id g c =
    let held = c.self.invariant (rw (← c.self.view_is) at c.in_ok-check_sink.ensures.ok) in
    let none = (rw (← c.self.view_is) at c.in_ok-check_sample.ensures) held.0 held.1 in
    let first = sample-id _ held.0 held.1 c.args.id (lent_sample c.args.sample.now) none in omega (arith, first)

pub add_sample-requires-clause-track : goal.add_sample-requires-clause-track
add_sample-requires-clause-track g c =
    let held = c.self.invariant (rw (← c.self.view_is) at c.in_ok-check_sink.ensures.ok) in
    let none = (rw (← c.self.view_is) at c.in_ok-check_sample.ensures) held.0 held.1 in
    sample-track _ held.0 held.1 c.args.id (lent_sample c.args.sample.now) none

pub add_sample-requires-clause-room : goal.add_sample-requires-clause-room
add_sample-requires-clause-room g c =
    let held = c.self.invariant (rw (← c.self.view_is) at c.in_ok-check_sink.ensures.ok) in
    let none = (rw (← c.self.view_is) at c.in_ok-check_sample.ensures) held.0 held.1 in
    sample-room _ held.0 held.1 c.args.id (lent_sample c.args.sample.now) none

pub invariant_of-self-in_default : goal.invariant_of-self-in_default
invariant_of-self-in_default g c = λ goes_on.
    let s = lent_sample c.args.sample.now in
    let held = c.self.invariant goes_on in
    let none = (rw (← c.self.view_is) at c.in_ok-check_sample.ensures) held.0 held.1 in
    let fits : IsInRangeSampleInfo (info_of s) = record {
      size = sample-size _ held.0 held.1 c.args.id s none;
      duration = c.in_range.ensures;
      rendering_offset = c.in_range-2.ensures;
    } in (
      with_sample held.0 c.args.id s,
      hold-sample _ held.0 held.1 c.args.id s none fits _ (c.in_default.ensures.ok held.1.held held.1.may_be),
    )

pub returns-clause-ok : goal.returns-clause-ok
returns-clause-ok g c = rw (← c.self.view_is) (λ st h.
    let s = lent_sample c.args.sample.now in
    let none = (rw (← c.self.view_is) at c.in_ok-check_sample.ensures) st h in
    let fits : IsInRangeSampleInfo (info_of s) = record {
      size = sample-size _ st h c.args.id s none;
      duration = c.in_range.ensures;
      rendering_offset = c.in_range-2.ensures;
    } in
    hold-sample _ st h c.args.id s none fits _ (c.in_default.ensures.ok h.held h.may_be))
