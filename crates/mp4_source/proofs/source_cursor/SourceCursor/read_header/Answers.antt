use Rattle.std.proofs.Common.{inr}
use Rattle.std.proofs.lemmas.Bool.{false≢true}
use Rattle.mp4_source.proofs.Parts.{no_header, both_known}
use Rattle.mp4_source.proofs.source_cursor.SourceCursor.read_header.Goals as goal

pub returns-then-not-has-clause-answer : goal.returns-then-not-has-clause-answer
returns-then-not-has-clause-answer g c =
    let cursor = c.args.self.now in
    let known = g.S.ByteSource.contents cursor.source in
    both_known known _ _ (no_header known cursor.len cursor.position c.requires.len
    (λ fits. false≢true (c.if-not-has.ensures.1 fits)))
    (λ bytes e. rw c.from.ensures (inr e))
