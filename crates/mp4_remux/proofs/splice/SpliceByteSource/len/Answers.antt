use Rattle.mp4_remux.proofs.Pieces.{counted}
use Rattle.mp4_remux.proofs.splice.SpliceByteSource.len.Goals as goal

pub returns-clause-value : goal.returns-clause-value
returns-clause-value g c =
    let s = c.args.self.now in
    let l = s.layout in
    rw c.len.ensures
    (counted (g.S.ByteSource.contents s.source) l.made.items l.pieces.items l.source_len l.len s.measured l.follow)
