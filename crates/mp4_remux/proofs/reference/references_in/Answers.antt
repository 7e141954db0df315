use Rattle.std.proofs.Common.{arith, ◌∙◌, sym, refl}
use Rattle.mp4_remux.proofs.Referring.{begin_with, begin_with_none, movie_end, none_in, of_movie, part_of, track_less}
use Rattle.mp4_remux.proofs.Referring.{track_more, tracks_end}
use Rattle.mp4_remux.proofs.reference.references_in.Goals as goal

pub returns-in_default : goal.returns-in_default
returns-in_default c = record {
  list = c.new-list.ensures.items
      ∙ sym (none_in c.args.movie.now c.args.ids.now (begin_with_none c.args.movie.now c.in_default.ensures.none));
}

pub loop-one-init : goal.loop-one-init
loop-one-init c =
    let movie = c.in-Some.movie in
    record {
      all = rw c.new-list.ensures.items (of_movie c.args.movie.now c.args.ids.now _ _
          (begin_with c.args.movie.now movie.name movie.header.now movie.payload.now movie.after.now
          c.in-Some.ensures.header c.in-Some.ensures.first));
      ids = refl;
    }

pub returns-then-i-ids : goal.returns-then-i-ids
returns-then-i-ids c = record {
  list = tracks_end _ c.args.ids.now c.loop-one.i c.loop-one.list.items _ (omega (arith, c.if-i-ids.true))
      c.loop-one.invariant.all;
}

pub loop-one-preserved-then-from : goal.loop-one-preserved-then-from
loop-one-preserved-then-from c =
    let one = c.in-Some-first_box.one in
    record {
      all = track_more _ _ (part_of one.name one.header.now one.payload.now) c.args.ids.now c.loop-one.i 0
          c.loop-one.list.items _ (omega (arith, c.if-i-ids.false))
          (begin_with c.loop-one.rest.now one.name one.header.now one.payload.now one.after.now
          c.in-Some-first_box.ensures.header c.in-Some-first_box.ensures.first) c.loop-one.invariant.all _
          (omega (arith, c.if-from.true, c.from.ensures, c.from-in-Some-first_box.ensures))
          c.in_ok-add_track.ensures.more;
      ids = c.loop-one.invariant.ids;
    }

pub loop-one-preserved : goal.loop-one-preserved
loop-one-preserved c =
    let one = c.in-Some-first_box.one in
    record {
      all = track_less _ _ (part_of one.name one.header.now one.payload.now) c.args.ids.now c.loop-one.i 0
          c.loop-one.list.items _ (omega (arith, c.if-i-ids.false))
          (begin_with c.loop-one.rest.now one.name one.header.now one.payload.now one.after.now
          c.in-Some-first_box.ensures.header c.in-Some-first_box.ensures.first) c.loop-one.invariant.all
          (λ is. omega (arith, c.if-from.false, is, c.from.ensures, c.from-in-Some-first_box.ensures));
      ids = c.loop-one.invariant.ids;
    }

pub returns : goal.returns
returns c = record {
  list = movie_end _ _ c.args.ids.now c.loop-one.list.items _
      (begin_with_none c.loop-one.rest.now c.in_default-first_box.ensures.none) c.loop-one.invariant.all;
}
