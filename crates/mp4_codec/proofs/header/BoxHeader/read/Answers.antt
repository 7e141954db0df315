use Rattle.std.proofs.Common.{◌≤◌, ◌+◌, Result, Ok, Err, OnOk, IfOk}
use Rattle.mp4_codec.specs.declared.header.BoxHeader.{BoxHeader}
use Rattle.mp4_codec.specs.declared.error.Error.{Error}
use Rattle.mp4_codec.specs.BoxType.{IsNamed}
use Rattle.mp4_codec.specs.Cause.{Gives}
use Rattle.mp4_codec.specs.Cursor.{Cursor, header_at}
use Rattle.mp4_codec.proofs.HeadLaws.{header_read}
use Rattle.mp4_codec.proofs.header.BoxHeader.read.Goals as goal

moves : (place after : Cursor) (result : Result BoxHeader Error) → Gives (λ h. (h, after)) result (header_at place)
    → OnOk result (place.position + 8 ≤ after.position)
moves place after (Ok header) e = (header_read place header after e).moves
moves place after (Err error) e = tt

named : (place after : Cursor) (result : Result BoxHeader Error) → Gives (λ h. (h, after)) result (header_at place)
    → IfOk result (λ h. IsNamed h.name)
named place after (Ok header) e = (header_read place header after e).named
named place after (Err error) e = tt

pub returns-clause-moved : goal.returns-clause-moved
returns-clause-moved c = moves c.args.reader.now c.read_head.new.reader c.read_head.result c.read_head.ensures.value

pub returns-clause-named : goal.returns-clause-named
returns-clause-named c = named c.args.reader.now c.read_head.new.reader c.read_head.result c.read_head.ensures.value
