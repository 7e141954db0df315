use Rattle.std.proofs.Common.{arith, ◌≡◌, ◌+◌, ◌-◌, ◌∙◌, rules}
use Rattle.std.proofs.lemmas.Result.{err_from_is_err_and}
use Rattle.mp4_extract.specs.Extracting.{IsReadIn, MayRefuse, offset_in}
use Rattle.mp4_extract.proofs.Joined.{samples_added}
use Rattle.mp4_extract.proofs.Refused.{one_refused}
use Rattle.mp4_extract.proofs.samples.SampleWriter.write_samples.Goals as goal

pub loop-written-preserved : goal.loop-written-preserved
loop-written-preserved g c =
    let inv = c.loop-written.invariant in
    let now = c.in_ok-more.ensures in
    let self = c.args.self.now in
    let file = c.args.file.now in
    let number : c.in-Some.k ≡ c.args.from + c.loop-written.written = search rules in (
      now.track_id ∙ inv.0,
      now.form ∙ inv.1,
      now.movie ∙ inv.2,
      now.contents ∙ inv.3,
      now.can_refuse ∙ inv.4,
      samples_added self.form
          (IsReadIn (g.S.ByteSource.contents file.source) file.len file.movie.tracks self.track_id) c.args.from
          c.loop-written.written c.in-Some.k c.in_ok-more.more (g.W.Write.contents c.args.out.now)
          (g.W.Write.contents c.loop-written.out) (g.W.Write.contents c.write_next.new.out) number inv.5
          (rw (inv.0, inv.1, inv.2, inv.3, inv.7) at now.written),
      omega (arith, now.count, inv.6),
      now.len ∙ inv.7,
    )

pub returns-in_err-more-clause-refused : goal.returns-in_err-more-clause-refused
returns-in_err-more-clause-refused g c =
    let inv = c.loop-written.invariant in
    let p = err_from_is_err_and c.from_residual.result c.from_residual.ensures.1 in
    let number : c.in-Some.k ≡ c.args.from + c.loop-written.written = search rules in
    let self = c.args.self.now in
    let file = c.args.file.now in
    let known = g.S.ByteSource.contents file.source in
    let refused = rw (inv.0, inv.1, inv.2, inv.3, inv.4, inv.7) at c.in_err-more.ensures.refused in
    let holds = rw (inv.0, inv.1, inv.2, inv.3, inv.7) at c.in_err-more.ensures.holds in
    rw (p.1, p.2) (one_refused self.form (IsReadIn known file.len file.movie.tracks self.track_id) c.args.from
    (offset_in file.movie.tracks self.track_id) c.args.count c.loop-written.written
    (c.args.count - c.loop-written.written) c.in-Some.k (MayRefuse known (g.S.ByteSource.can_refuse file.source))
    (g.W.Write.contents c.args.out.now) (g.W.Write.contents c.loop-written.out) _ c.in_err-more.field-0.0 number
    c.loop-written-test.true (omega arith) inv.5 refused holds)
