use Rattle.std.proofs.Common.{◌≡◌, take}
use Rattle.std.specs.Prelude.{◌&&◌}
use Rattle.mp4_codec.specs.Bytes.{Appends}
use Rattle.mp4_extract.specs.ByteStream.{byte_stream, is_none, sets_between}
use Rattle.mp4_extract.proofs.Streams.{bytes_of}
use Rattle.mp4_extract.proofs.annex_b.AnnexB.put_sets.Given as goal

abbrev pub invariant-loop-set : goal.invariant-loop-set
invariant-loop-set l =
    (Appends l.fn.out.items l.out.items (byte_stream l.self.coding l.fn.is_first
    (sets_between l.self.coding l.from l.end (bytes_of (take l.set-index l.set-items)))))
    × (l.is_first ≡ (l.fn.is_first
    && is_none (sets_between l.self.coding l.from l.end (bytes_of (take l.set-index l.set-items)))))
