use Rattle.std.proofs.Common.{arith, refl}
use Rattle.mp4_samples.specs.Places.{place_of}
use Rattle.mp4_media.specs.FileBoxes.{opened_movie}
use Rattle.mp4_remux.proofs.Counting.{past_most}
use Rattle.mp4_remux.proofs.DataBytes.{all_first, each_more, first_more, have_all, none_first}
use Rattle.mp4_remux.proofs.data.push_track.Goals as goal

pub loop-k-init : goal.loop-k-init
loop-k-init c = record {
  upto = omega arith;
  most = refl;
  each = λ j low le. absurd (omega (arith, low, le));
  bytes = none_first (opened_movie c.args.movie.now) c.args.track_id c.args.extents.now.items;
  within = λ all. all;
}

pub loop-k-preserved : goal.loop-k-preserved
loop-k-preserved c =
    let opened = opened_movie c.args.movie.now in
    let id = c.args.track_id in
    let k = c.loop-k.k in
    let inv = c.loop-k.invariant in
    let there = rw c.in-Some.is at c.in_ok-sample.ensures.some in
    let bytes = c.in-Some-extent_of.ensures in
    record {
      upto = omega arith;
      most = inv.most;
      each = each_more opened id k inv.each (place_of c.in-Some.sample, there);
      bytes = first_more opened id k (place_of c.in-Some.sample) c.in-Some-extent_of.extent _ _ _ inv.each there
          bytes.place bytes.end inv.bytes c.in_ok-push_any.ensures.bytes;
      within = λ all. c.in_ok-push_any.ensures.within c.args.len (inv.within all) bytes.within;
    }

pub returns-in_default-clause-counted : goal.returns-in_default-clause-counted
returns-in_default-clause-counted c =
    have_all (opened_movie c.args.movie.now) c.args.track_id c.loop-k.k c.loop-k.invariant.each

pub returns-in_default-clause-bytes : goal.returns-in_default-clause-bytes
returns-in_default-clause-bytes c =
    all_first (opened_movie c.args.movie.now) c.args.track_id c.loop-k.k _ _
    (rw c.in_default.is at c.in_ok-sample.ensures.none) c.loop-k.invariant.bytes

pub returns-clause-why : goal.returns-clause-why
returns-clause-why c =
    past_most (opened_movie c.args.movie.now) c.args.track_id c.loop-k.k c.args.most
    (have_all (opened_movie c.args.movie.now) c.args.track_id c.loop-k.k c.loop-k.invariant.each)
    (omega (arith, c.loop-k-test.false))

pub returns-in_default-extent_of-clause-unread : goal.returns-in_default-extent_of-clause-unread
returns-in_default-extent_of-clause-unread c = record {
  number = 0;
  is = refl;
  place = place_of c.in-Some.sample;
  there = rw c.in-Some.is at c.in_ok-sample.ensures.some;
  cut = c.in_default-extent_of.ensures.none;
}
