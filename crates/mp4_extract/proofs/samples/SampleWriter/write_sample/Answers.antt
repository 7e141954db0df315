use Rattle.std.proofs.Common.{arith}
use Rattle.std.proofs.lemmas.Result.{err_from_is_err_and}
use Rattle.std.specs.Prelude.{vec_capacity}
use Rattle.mp4_media.specs.Reading.{sample_there}
use Rattle.mp4_samples.specs.Places.{place_of}
use Rattle.mp4_extract.specs.Extracting.{IsReadIn, IsThere, MayRefuse, offset_in}
use Rattle.mp4_extract.specs.Forms.{NeedsRoom, RefusesSample}
use Rattle.mp4_extract.proofs.Refused.{not_read, not_read_wants, offset_is, read_is, stored_holds, stored_refused}
use Rattle.mp4_extract.proofs.Refused.{stored_wants}
use Rattle.mp4_extract.proofs.samples.SampleWriter.write_sample.Goals as goal

pub returns-in_ok-put_stored-in-Ok-Some-clause-written :
    goal.returns-in_ok-put_stored-in-Ok-Some-clause-written
returns-in_ok-put_stored-in-Ok-Some-clause-written g c =
    let file = c.args.file.now in
    let found = c.in-Ok-Some in
    let buffer = c.read_sample_into.new.buffer.items in
    let put = c.in_ok-put_stored-in-Ok-Some.ensures.written in
    let there = read_is file.len file.movie.tracks c.args.self.now.track_id c.args.k
    (g.S.ByteSource.contents file.source) found.place buffer (rw found.field-0-is at found.ensures.place)
    (omega (arith, rw found.field-0-is at found.ensures.size)) (rw found.field-0-is at found.ensures.answer) in
    (put.0, (sample_there buffer found.place, there, put.1), put.2)

pub returns-in_err-put_stored-in-Ok-Some-clause-refused :
    goal.returns-in_err-put_stored-in-Ok-Some-clause-refused
returns-in_err-put_stored-in-Ok-Some-clause-refused g c =
    let self = c.args.self.now in
    let file = c.args.file.now in
    let known = g.S.ByteSource.contents file.source in
    let found = c.in-Ok-Some in
    let buffer = c.read_sample_into.new.buffer.items in
    let placed = rw found.field-0-is at found.ensures.place in
    let there = read_is file.len file.movie.tracks self.track_id c.args.k known found.place buffer placed
    (omega (arith, rw found.field-0-is at found.ensures.size)) (rw found.field-0-is at found.ensures.answer) in
    let p = err_from_is_err_and c.from_residual.result c.from_residual.ensures.1 in
    rw (p.1, p.2) (stored_refused self.form (IsReadIn known file.len file.movie.tracks self.track_id c.args.k)
    (offset_in file.movie.tracks self.track_id c.args.k) c.args.k
    (MayRefuse known (g.S.ByteSource.can_refuse file.source)) (sample_there buffer found.place)
    (vec_capacity self.turned) found.place.offset _ there
    (offset_is file.len file.movie.tracks self.track_id c.args.k (place_of found.place) placed)
    c.in_err-put_stored-in-Ok-Some.ensures.refused)

pub returns-in_err-put_stored-in-Ok-Some-clause-memory :
    goal.returns-in_err-put_stored-in-Ok-Some-clause-memory
returns-in_err-put_stored-in-Ok-Some-clause-memory g c =
    let self = c.args.self.now in
    let file = c.args.file.now in
    let known = g.S.ByteSource.contents file.source in
    let found = c.in-Ok-Some in
    let buffer = c.read_sample_into.new.buffer.items in
    let there = read_is file.len file.movie.tracks self.track_id c.args.k known found.place buffer
    (rw found.field-0-is at found.ensures.place) (omega (arith, rw found.field-0-is at found.ensures.size))
    (rw found.field-0-is at found.ensures.answer) in
    let p = err_from_is_err_and c.from_residual.result c.from_residual.ensures.1 in
    rw (p.1, p.2) (stored_wants self.form (IsReadIn known file.len file.movie.tracks self.track_id c.args.k) c.args.k
    (vec_capacity self.stored) (vec_capacity self.turned) found.place.offset (sample_there buffer found.place) _ there
    c.in_err-put_stored-in-Ok-Some.ensures.refused)

pub returns-in_err-put_stored-in-Ok-Some-clause-holds :
    goal.returns-in_err-put_stored-in-Ok-Some-clause-holds
returns-in_err-put_stored-in-Ok-Some-clause-holds g c =
    let self = c.args.self.now in
    let file = c.args.file.now in
    let known = g.S.ByteSource.contents file.source in
    let found = c.in-Ok-Some in
    let buffer = c.read_sample_into.new.buffer.items in
    let there = read_is file.len file.movie.tracks self.track_id c.args.k known found.place buffer
    (rw found.field-0-is at found.ensures.place) (omega (arith, rw found.field-0-is at found.ensures.size))
    (rw found.field-0-is at found.ensures.answer) in
    let p = err_from_is_err_and c.from_residual.result c.from_residual.ensures.1 in
    rw (p.1, p.2) (stored_holds self.form (IsReadIn known file.len file.movie.tracks self.track_id) c.args.k
    (sample_there buffer found.place) (g.W.Write.contents c.args.out.now) _ _ there
    c.in_err-put_stored-in-Ok-Some.ensures.holds)

pub returns-in-Err-clause-refused : goal.returns-in-Err-clause-refused
returns-in-Err-clause-refused g c =
    let self = c.args.self.now in
    let file = c.args.file.now in
    let known = g.S.ByteSource.contents file.source in
    rw (c.of_read.ensures, c.place_of-place.ensures, c.in-Err.ensures.movie)
    (not_read file.len file.movie.tracks self.track_id c.args.k known file.measured
    (λ s. RefusesSample self.form s.sample.bytes)
    (IsThere (IsReadIn known file.len file.movie.tracks self.track_id c.args.k))
    (g.S.ByteSource.can_refuse file.source) c.in-Err.error
    (λ out. let past = c.in-Err.ensures.memory out in (past.0, past.1)) c.in-Err.ensures.place c.in-Err.ensures.answer)

pub returns-in-Err-clause-memory : goal.returns-in-Err-clause-memory
returns-in-Err-clause-memory g c =
    let self = c.args.self.now in
    let file = c.args.file.now in
    rw c.of_read.ensures
    (not_read_wants file.len file.movie.tracks self.track_id c.args.k (g.S.ByteSource.contents file.source)
    file.measured (λ s. NeedsRoom self.form (vec_capacity self.turned) s.sample.bytes) (vec_capacity self.stored) _
    c.in-Err.error c.in-Err.ensures.memory)
