use Rattle.std.proofs.Common.{◌∙◌, arith, inr}
use Rattle.std.proofs.lemmas.Result.{err_from_is_err_and}
use Rattle.mp4_extract.specs.Extracting.{IsReadIn}
use Rattle.mp4_extract.specs.Subtitles.{reading_of}
use Rattle.mp4_extract.proofs.Shown.{subtitle_added}
use Rattle.mp4_extract.proofs.text_track.subtitles.Goals as goal

pub loop-answer-preserved : goal.loop-answer-preserved
loop-answer-preserved g c =
    let inv = c.loop-answer.invariant in
    let next = c.in-Some.ensures in
    let reader = c.in_ok-reader.reader in
    let file = c.args.file.now in record {
      track_id = next.track_id ∙ inv.track_id;
      timescale = next.timescale ∙ inv.timescale;
      shift = next.shift ∙ inv.shift;
      count = next.count ∙ inv.count;
      few = omega (arith, next.read, next.more, inv.count);
      len = next.len ∙ inv.len;
      movie = next.movie ∙ inv.movie;
      contents = next.contents ∙ inv.contents;
      can_refuse = next.can_refuse ∙ inv.can_refuse;
      read = rw next.read (subtitle_added (reading_of reader)
          (IsReadIn (g.S.ByteSource.contents file.source) file.len file.movie.tracks c.args.track_id)
          c.loop-answer.reader.read c.loop-answer.list.items
          c.add_shown.new.list.items c.in_ok-subtitle.subtitle c.in_ok-add_shown.ensures.added inv.read
          (rw (inv.track_id, inv.timescale, inv.shift, inv.len, inv.movie, inv.contents, c.in_ok-subtitle.was) at
          next.subtitle));
    }

pub returns-in_err-add_shown-clause-refused : goal.returns-in_err-add_shown-clause-refused
returns-in_err-add_shown-clause-refused g c =
    let inv = c.loop-answer.invariant in
    let next = c.in-Some.ensures in
    let reader = c.in_ok-reader in
    let residual = c.from_residual-in_err-add_shown in
    let p = err_from_is_err_and residual.result residual.ensures.1 in
    let found = rw (inv.track_id, inv.timescale, inv.shift, inv.len, inv.movie, inv.contents, c.in_ok-subtitle.was) at
    next.subtitle in
    rw (p.1, p.2, c.in_err-add_shown.ensures.refused) (inr (
      reading_of reader.reader,
      reader.ensures.reading,
      c.loop-answer.reader.read,
      omega (arith, next.more, inv.count),
      c.loop-answer.list.items,
      inv.read,
      (found.0, found.1),
    ))
