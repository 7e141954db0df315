use Rattle.std.proofs.Common.{◌≡◌, ◌+◌, arith, refl, rules, true, false}
use Rattle.std.proofs.lemmas.Result.{err_from_is_err_and}
use Rattle.mp4_extract.specs.Extracting.{IsReadIn}
use Rattle.mp4_extract.proofs.Joined.{first_written}
use Rattle.mp4_extract.proofs.Refused.{holds_later}
use Rattle.mp4_extract.proofs.samples.SampleWriter.write_next.Goals as goal

pub returns-then-found-clause-written : goal.returns-then-found-clause-written
returns-then-found-clause-written g c =
    let self = c.args.self.now in
    let file = c.args.file.now in
    let neighbours = c.in_ok-neighbours.ensures in
    let none : c.in_ok-neighbours.neighbours ≡ 0 = omega arith in
    let there : c.in_ok-found.found ≡ true = search rules in
    first_written self.form
    (IsReadIn (g.S.ByteSource.contents file.source) file.len file.movie.tracks self.track_id) c.args.k
    c.in_ok-neighbours.neighbours 1
    (g.W.Write.contents c.args.out.now) (g.W.Write.contents c.write_neighbours.new.out)
    (g.W.Write.contents c.write_sample.new.out) true none refl neighbours.written
    (rw (neighbours.track_id, neighbours.form, neighbours.len, neighbours.movie, neighbours.contents, there) at
    c.in_ok-found.ensures.written)

pub returns-else-found-clause-written : goal.returns-else-found-clause-written
returns-else-found-clause-written g c =
    let self = c.args.self.now in
    let file = c.args.file.now in
    let neighbours = c.in_ok-neighbours.ensures in
    let none : c.in_ok-neighbours.neighbours ≡ 0 = omega arith in
    let missing : c.in_ok-found.found ≡ false = search rules in
    first_written self.form
    (IsReadIn (g.S.ByteSource.contents file.source) file.len file.movie.tracks self.track_id) c.args.k
    c.in_ok-neighbours.neighbours 0
    (g.W.Write.contents c.args.out.now) (g.W.Write.contents c.write_neighbours.new.out)
    (g.W.Write.contents c.write_sample.new.out) false none refl neighbours.written
    (rw (neighbours.track_id, neighbours.form, neighbours.len, neighbours.movie, neighbours.contents, missing) at
    c.in_ok-found.ensures.written)

pub returns-in_err-found-clause-holds : goal.returns-in_err-found-clause-holds
returns-in_err-found-clause-holds g c =
    let self = c.args.self.now in
    let file = c.args.file.now in
    let residual = c.from_residual-in_err-found in
    let p = err_from_is_err_and residual.result residual.ensures.1 in
    let neighbours = c.in_ok-neighbours.ensures in
    let none : c.in_ok-neighbours.neighbours ≡ 0 = omega arith in
    let same : c.args.k + 0 ≡ c.args.k = omega arith in
    rw (p.1, p.2) (holds_later self.form
    (IsReadIn (g.S.ByteSource.contents file.source) file.len file.movie.tracks self.track_id) c.args.k
    (g.W.Write.contents c.args.out.now) (g.W.Write.contents c.write_neighbours.new.out) _ 0 1 c.args.most
    c.in_err-found.field-0.0 (omega arith) (rw none at neighbours.written)
    (rw same (rw (neighbours.track_id, neighbours.form, neighbours.len, neighbours.movie, neighbours.contents) at
    c.in_err-found.ensures.holds)))

pub returns-in_err-found-clause-refused : goal.returns-in_err-found-clause-refused
returns-in_err-found-clause-refused g c =
    let residual = c.from_residual-in_err-found in
    let p = err_from_is_err_and residual.result residual.ensures.1 in
    let neighbours = c.in_ok-neighbours.ensures in
    rw (p.1, p.2) (rw (
      neighbours.track_id,
      neighbours.form,
      neighbours.len,
      neighbours.movie,
      neighbours.contents,
      neighbours.can_refuse,
    ) at c.in_err-found.ensures.refused)
