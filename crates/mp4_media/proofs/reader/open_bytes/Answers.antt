use Rattle.std.proofs.lemmas.Option.{same_Some}
use Rattle.mp4_media.proofs.FoundBoxes.{memory_of_bytes, refused_as_bytes}
use Rattle.mp4_media.proofs.reader.open_bytes.Goals as goal

pub returns-in-Err-open_source-clause-answer : goal.returns-in-Err-open_source-clause-answer
returns-in-Err-open_source-clause-answer c =
    let answer = rw (c.in-Ok.ensures.position, same_Some _ _ c.in-Ok.ensures.contents)
    at c.in-Err-open_source.ensures.answer in
    refused_as_bytes c.in-Err-open_source.error c.refused_by_bytes-in-Err-open_source.result _
    c.refused_by_bytes-in-Err-open_source.ensures answer

pub returns-in-Err-open_source-clause-memory : goal.returns-in-Err-open_source-clause-memory
returns-in-Err-open_source-clause-memory c =
    let answer = rw (c.in-Ok.ensures.position, same_Some _ _ c.in-Ok.ensures.contents)
    at c.in-Err-open_source.ensures.answer in
    let memory = rw (c.in-Ok.ensures.position, same_Some _ _ c.in-Ok.ensures.contents)
    at c.in-Err-open_source.ensures.memory in
    memory_of_bytes c.in-Err-open_source.error c.refused_by_bytes-in-Err-open_source.result _ _
    c.refused_by_bytes-in-Err-open_source.ensures answer memory
