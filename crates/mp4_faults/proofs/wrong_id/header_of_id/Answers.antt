use Rattle.std.proofs.Common.{◌<◌, ◌^◌, arith}
use Rattle.mp4_media.proofs.FoundBoxes.{of_known_by}
use Rattle.mp4_faults.proofs.Stepping.{payload-whole}
use Rattle.mp4_faults.proofs.Searching.{header-found, large-header}
use Rattle.mp4_faults.proofs.wrong_id.header_of_id.Goals as goal

pub returns-in-Ok-read_box : goal.returns-in-Ok-read_box
returns-in-Ok-read_box g c =
    let reader = c.args.reader.now in
    let id = c.args.id in
    let h = c.in-Ok.header in
    let from = c.read_header.new.self.position in
    let after = c.read_box.new.self.position in
    let small : after < 2 ^ 64 = grind (arith, c.position.ensures) in
    let header = rw c.set_position.ensures at c.in-Ok.ensures.answer in
    let payload = rw (c.in-Ok.ensures.contents, c.set_position.ensures) at c.in-Ok-read_box.ensures.answer in
    let finds = rw (c.as_slice.ensures, c.position-from.ensures) at c.header_within.ensures in
    of_known_by (g.S.ByteSource.contents reader.source) _ _ _ header payload (λ bytes read boxed has.
    let large = large-header bytes id has h from read in
    header-found bytes id has h from read c.in-Ok-read_box.payload after
    (payload-whole h.size from bytes large c.in-Ok-read_box.payload after boxed) small
    (g.S.ByteSource.can_refuse reader.source) c.header_within.result finds)
