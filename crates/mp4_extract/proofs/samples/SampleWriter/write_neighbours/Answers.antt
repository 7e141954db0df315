use Rattle.std.proofs.Common.{arith, refl, rules}
use Rattle.mp4_extract.specs.declared.error.ExtractError.TheVariants.{Write}
use Rattle.mp4_extract.specs.Extracting.{IsReadIn}
use Rattle.mp4_extract.proofs.ReadTogether.{neighbours_read}
use Rattle.mp4_extract.proofs.Refused.{part_holds, some_there}
use Rattle.mp4_extract.proofs.samples.SampleWriter.write_neighbours.Goals as goal

pub returns-in-Ok-put_all-clause-written : goal.returns-in-Ok-put_all-clause-written
returns-in-Ok-put_all-clause-written g c =
    let self = c.args.self.now in
    let file = c.args.file.now in
    let neighbours = c.in-Some.neighbours in
    let are = neighbours_read (g.S.ByteSource.contents file.source) file.len file.measured file.movie.tracks
    self.track_id self.form c.args.k neighbours.offset neighbours.count neighbours.size c.place.result
    c.read_place_into.new.buffer.items (c.is_as_stored.ensures (search rules)) c.in-Some.ensures.places
    c.place.ensures.offset c.place.ensures.size c.in-Ok.ensures.within (omega (arith, c.in-Ok.ensures.size))
    c.in-Ok.ensures.answer in
    (_, are, rw c.as_slice.ensures.value at c.in-Ok-put_all.ensures.ok)

pub returns-in-Err-put_all-clause-there : goal.returns-in-Err-put_all-clause-there
returns-in-Err-put_all-clause-there g c =
    let self = c.args.self.now in
    let file = c.args.file.now in
    let known = g.S.ByteSource.contents file.source in
    let neighbours = c.in-Some.neighbours in
    some_there self.form (IsReadIn known file.len file.movie.tracks self.track_id) c.args.k neighbours.count
    c.read_place_into.new.buffer.items c.in-Some.ensures.count.0
    (neighbours_read known file.len file.measured file.movie.tracks
    self.track_id self.form c.args.k neighbours.offset neighbours.count neighbours.size c.place.result
    c.read_place_into.new.buffer.items (c.is_as_stored.ensures (search rules)) c.in-Some.ensures.places
    c.place.ensures.offset c.place.ensures.size c.in-Ok.ensures.within (omega (arith, c.in-Ok.ensures.size))
    c.in-Ok.ensures.answer)

pub returns-in-Err-put_all-clause-holds : goal.returns-in-Err-put_all-clause-holds
returns-in-Err-put_all-clause-holds g c =
    let self = c.args.self.now in
    let file = c.args.file.now in
    let known = g.S.ByteSource.contents file.source in
    let neighbours = c.in-Some.neighbours in
    part_holds self.form (IsReadIn known file.len file.movie.tracks self.track_id) c.args.k neighbours.count c.args.most
    c.read_place_into.new.buffer.items (g.W.Write.contents c.args.out.now) _
    (Write c.args.k c.in-Err-put_all.refused) c.in-Some.ensures.count.1
    (neighbours_read known file.len file.measured file.movie.tracks
    self.track_id self.form c.args.k neighbours.offset neighbours.count neighbours.size c.place.result
    c.read_place_into.new.buffer.items (c.is_as_stored.ensures (search rules)) c.in-Some.ensures.places
    c.place.ensures.offset c.place.ensures.size c.in-Ok.ensures.within (omega (arith, c.in-Ok.ensures.size))
    c.in-Ok.ensures.answer)
    (rw c.as_slice.ensures.value at c.in-Err-put_all.ensures.refused) refl
