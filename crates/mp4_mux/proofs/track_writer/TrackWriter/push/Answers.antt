use Rattle.std.proofs.Common.{◌+◌, ◌<◌, ◌^◌, arith, ap}
use Rattle.mp4_mux.specs.declared.sample_info.SampleInfo.{SampleInfo}
use Rattle.mp4_mux.specs.Writing.{lent_sample}
use Rattle.mp4_mux.specs.TrackHeaders.{movie_duration}
use Rattle.mp4_mux.specs.TrackFields.{fields_of}
use Rattle.mp4_mux.proofs.RoomLaws.{has_room}
use Rattle.mp4_mux.proofs.TrackLemmas.{pending_room, media_room, is_track-push, view-push}
use Rattle.mp4_mux.proofs.track_writer.TrackWriter.push.Goals as goal

pub info_of-info-requires : goal.info_of-info-requires
info_of-info-requires c = (has_room c.args.self.now (lent_sample c.args.sample.now) c.requires).size

pub push-requires : goal.push-requires
push-requires c =
    omega (
      arith,
      rw (← c.self.view_is) at (has_room c.args.self.now (lent_sample c.args.sample.now) c.requires).count,
    )

pub overflow_add-self : goal.overflow_add-self
overflow_add-self c =
    omega (
      arith,
      c.sample_durations-durations.ensures.media,
      pending_room (fields_of c.self.inside) c.self.invariant c.info_of-info.result c.in_range.ensures
          (rw (← c.self.view_is) at (has_room c.args.self.now (lent_sample c.args.sample.now) c.requires).count),
    )

pub overflow_add-self-2 : goal.overflow_add-self-2
overflow_add-self-2 c =
    omega (
      arith,
      c.sample_durations-durations.ensures.media,
      media_room (fields_of c.self.inside) c.self.invariant c.info_of-info.result c.in_range.ensures
          (rw (← c.self.view_is) at (has_room c.args.self.now (lent_sample c.args.sample.now) c.requires).count),
    )

pub overflow_add-self-3 : goal.overflow_add-self-3
overflow_add-self-3 c =
    let w = c.self.inside in
    let has = has_room c.args.self.now (lent_sample c.args.sample.now) c.requires in
    let room = rw (← c.self.view_is) at has.duration in
    let lasts = ap (λ (j : SampleInfo). j.duration) c.info_of-info.ensures in
    let fits : movie_duration w.movie_timescale w.config.timescale w.samples
    + c.sample_durations-durations.result.movie < 2 ^ 64 =
    rw (c.sample_durations-durations.ensures.movie, lasts) room in
    omega (arith, c.self.invariant.movie, fits)

pub invariant_of-self-2 : goal.invariant_of-self-2
invariant_of-self-2 c =
    let i = c.info_of-info.result in
    let has = has_room c.args.self.now (lent_sample c.args.sample.now) c.requires in
    let room = rw (← c.self.view_is) at has.duration in
    let lasts = ap (λ (j : SampleInfo). j.duration) c.info_of-info.ensures in
    rw (c.in_ok-push.ensures.ok, c.in_default.ensures.items)
    (is_track-push (fields_of c.self.inside) c.self.invariant i c.in_range.ensures
    (rw (← c.self.view_is) at has.count) c.args.sample.now.bytes.now c.sample_durations-durations.result
    (ap (λ (j : SampleInfo). j.size) c.info_of-info.ensures) c.sample_durations-durations.ensures.media
    c.sample_durations-durations.ensures.movie (rw (c.sample_durations-durations.ensures.movie, lasts) room))

pub returns-clause-ok : goal.returns-clause-ok
returns-clause-ok c =
    rw (← c.self.view_is, c.in_ok-push.ensures.ok, c.in_default.ensures.items)
    (view-push (fields_of c.self.inside) c.self.invariant c.info_of-info.result (lent_sample c.args.sample.now)
    c.sample_durations-durations.result c.info_of-info.ensures)
