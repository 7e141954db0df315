use Rattle.std.proofs.Common.{arith}
use Rattle.std.specs.Prelude.{vec_capacity}
use Rattle.mp4_media.specs.Reading.{sample_there}
use Rattle.mp4_samples.specs.Places.{place_of}
use Rattle.mp4_extract.specs.Extracting.{IsReadIn, MayRefuse, offset_in}
use Rattle.mp4_extract.specs.Subtitles.{RefusesTimed, WantsSubtitle}
use Rattle.mp4_extract.proofs.Refused.{not_read, not_read_wants, offset_is, read_is}
use Rattle.mp4_extract.proofs.Shown.{text_refused, text_wants}
use Rattle.mp4_extract.proofs.text_track.SubtitleReader.subtitle_at.Goals as goal

pub returns-in-Ok-clause-subtitle : goal.returns-in-Ok-clause-subtitle
returns-in-Ok-clause-subtitle g c =
    let file = c.args.file.now in
    let found = c.in-Ok-Some in
    let buffer = c.read_sample_into.new.buffer.items in
    let there = read_is file.len file.movie.tracks c.args.self.now.track_id c.args.number
    (g.S.ByteSource.contents file.source) found.place buffer (rw found.field-0-is at found.ensures.place)
    (omega (arith, rw found.field-0-is at found.ensures.size)) (rw found.field-0-is at found.ensures.answer) in
    (sample_there buffer found.place, there, rw c.as_slice-sample.ensures.value at c.in-Ok.ensures.subtitle)

pub returns-in-Err-subtitle_of-clause-refused : goal.returns-in-Err-subtitle_of-clause-refused
returns-in-Err-subtitle_of-clause-refused g c =
    let self = c.args.self.now in
    let file = c.args.file.now in
    let known = g.S.ByteSource.contents file.source in
    let found = c.in-Ok-Some in
    let buffer = c.read_sample_into.new.buffer.items in
    let placed = rw found.field-0-is at found.ensures.place in
    let there = read_is file.len file.movie.tracks self.track_id c.args.number known found.place buffer placed
    (omega (arith, rw found.field-0-is at found.ensures.size)) (rw found.field-0-is at found.ensures.answer) in
    rw c.of_sample.ensures (text_refused self.shift self.timescale c.args.number
    (IsReadIn known file.len file.movie.tracks self.track_id c.args.number) (sample_there buffer found.place) there
    (offset_in file.movie.tracks self.track_id c.args.number) found.place.offset
    (MayRefuse known (g.S.ByteSource.can_refuse file.source)) c.in-Err-subtitle_of.error
    (offset_is file.len file.movie.tracks self.track_id c.args.number (place_of found.place) placed)
    (rw c.as_slice-sample.ensures.value at c.in-Err-subtitle_of.ensures.refused))

pub returns-in-Err-subtitle_of-clause-memory : goal.returns-in-Err-subtitle_of-clause-memory
returns-in-Err-subtitle_of-clause-memory g c =
    let self = c.args.self.now in
    let file = c.args.file.now in
    let known = g.S.ByteSource.contents file.source in
    let found = c.in-Ok-Some in
    let buffer = c.read_sample_into.new.buffer.items in
    let there = read_is file.len file.movie.tracks self.track_id c.args.number known found.place buffer
    (rw found.field-0-is at found.ensures.place) (omega (arith, rw found.field-0-is at found.ensures.size))
    (rw found.field-0-is at found.ensures.answer) in
    rw c.of_sample.ensures (text_wants self.shift self.timescale c.args.number
    (IsReadIn known file.len file.movie.tracks self.track_id c.args.number) (sample_there buffer found.place) there
    (vec_capacity self.stored) _ c.in-Err-subtitle_of.error
    (rw c.as_slice-sample.ensures.value at c.in-Err-subtitle_of.ensures.memory))

pub returns-in-Err-clause-refused : goal.returns-in-Err-clause-refused
returns-in-Err-clause-refused g c =
    let self = c.args.self.now in
    let file = c.args.file.now in
    rw (c.of_read.ensures, c.place_of-place.ensures, c.in-Err.ensures.movie)
    (not_read file.len file.movie.tracks self.track_id c.args.number (g.S.ByteSource.contents file.source)
    file.measured (RefusesTimed self.shift self.timescale) ⊥ (g.S.ByteSource.can_refuse file.source) c.in-Err.error
    (λ out. let past = c.in-Err.ensures.memory out in (past.0, past.1)) c.in-Err.ensures.place c.in-Err.ensures.answer)

pub returns-in-Err-clause-memory : goal.returns-in-Err-clause-memory
returns-in-Err-clause-memory g c =
    let self = c.args.self.now in
    let file = c.args.file.now in
    rw c.of_read.ensures
    (not_read_wants file.len file.movie.tracks self.track_id c.args.number (g.S.ByteSource.contents file.source)
    file.measured (WantsSubtitle self.shift self.timescale) (vec_capacity self.stored) _ c.in-Err.error
    c.in-Err.ensures.memory)
