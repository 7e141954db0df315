use Rattle.std.proofs.Common.{◌≡◌, ◌≤◌, length, ap, arith}
use Rattle.std.proofs.lemmas.List.{length_push}
use Rattle.mp4_mux.specs.TrackFields.{fields_of}
use Rattle.mp4_mux.proofs.TrackLemmas.{pending-count, last_size, last_duration, last_media, last_movie, is_track-pop}
use Rattle.mp4_mux.proofs.TrackLemmas.{view-pop}
use Rattle.mp4_mux.proofs.track_writer.TrackWriter.pop.Goals as goal
use Rattle.mp4_mux.proofs.track_writer.TrackWriter.pop.Goals.{After-pop-info, After-movie_ticks-movie, After-len}

pub pop-info-requires : goal.pop-info-requires
pop-info-requires c =
    let some = rw (← c.self.view_is) at c.requires in
    omega (arith, pending-count (fields_of c.self.inside) c.self.invariant, some)

-- the last sample is pending
within : (c : After-pop-info) → c.self.inside.closed ≤ length c.pop-info.new.self
within c =
    let some = rw (← c.self.view_is) at c.requires in
    omega (
      arith,
      pending-count (fields_of c.self.inside) c.self.invariant,
      some,
      ap length c.pop-info.ensures,
      length_push c.pop-info.new.self c.pop-info.result,
    )

bytes : (c : After-len) → c.len.result ≡ length c.self.inside.pending.items
bytes c = omega (arith, c.self.inside.pending.ok.0)

pub overflow_sub-len : goal.overflow_sub-len
overflow_sub-len c =
    let b = (goal.at.overflow_sub-len c).After-pop-info in
    omega (
      arith,
      bytes (goal.at.overflow_sub-len c).After-len,
      last_size (fields_of c.self.inside) c.self.invariant c.pop-info.new.self c.pop-info.result
          c.pop-info.ensures (within b),
    )

pub overflow_sub-self : goal.overflow_sub-self
overflow_sub-self c =
    let b = (goal.at.overflow_sub-self c).After-pop-info in
    omega (
      arith,
      last_duration (fields_of c.self.inside) c.self.invariant c.pop-info.new.self c.pop-info.result
          c.pop-info.ensures (within b),
    )

pub overflow_sub-self-2 : goal.overflow_sub-self-2
overflow_sub-self-2 c =
    let b = (goal.at.overflow_sub-self-2 c).After-pop-info in
    omega (
      arith,
      last_media (fields_of c.self.inside) c.self.invariant c.pop-info.new.self c.pop-info.result
          c.pop-info.ensures (within b),
    )

pub overflow_sub-self-3 : goal.overflow_sub-self-3
overflow_sub-self-3 c =
    let b = (goal.at.overflow_sub-self-3 c).After-pop-info in
    omega (
      arith,
      c.movie_ticks-movie.ensures,
      last_movie (fields_of c.self.inside) c.self.invariant c.pop-info.new.self c.pop-info.result
          c.pop-info.ensures (within b),
    )

pub invariant_of-self : goal.invariant_of-self
invariant_of-self c =
    let b = (goal.at.invariant_of-self c).After-pop-info in
    rw (c.truncate.ensures.items, bytes (goal.at.invariant_of-self c).After-len)
    (is_track-pop (fields_of c.self.inside) c.self.invariant c.pop-info.new.self c.pop-info.result
    c.pop-info.ensures (within b) c.movie_ticks-movie.result c.movie_ticks-movie.ensures)

pub returns : goal.returns
returns c =
    let b = (goal.at.returns c).After-pop-info in
    rw (← c.self.view_is, c.truncate.ensures.items, bytes (goal.at.returns c).After-len)
    (view-pop (fields_of c.self.inside) c.self.invariant c.pop-info.new.self c.pop-info.result
    c.pop-info.ensures (within b) c.movie_ticks-movie.result)
