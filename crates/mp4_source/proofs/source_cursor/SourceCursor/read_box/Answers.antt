use Rattle.std.proofs.Common.{◌∙◌, ◌+◌, ◌-◌, ap, inl, inr, Ok}
use Rattle.std.proofs.lemmas.Bool.{false≢true}
use Rattle.std.proofs.lemmas.Result.{err_from_is_err_and}
use Rattle.mp4_codec.specs.Cause.{◌>>=◌}
use Rattle.mp4_codec.specs.Cursor.{here}
use Rattle.mp4_source.proofs.Parts.{no_payload, box_of_part, both_known}
use Rattle.mp4_source.proofs.source_cursor.SourceCursor.read_box.Goals as goal

pub returns-then-not-has-clause-answer : goal.returns-then-not-has-clause-answer
returns-then-not-has-clause-answer g c =
    let cursor = c.args.self.now in
    let known = g.S.ByteSource.contents cursor.source in
    both_known known _ _
    (no_payload g.B.ReadBox.value known cursor.len cursor.position c.args.size c.requires.len c.requires.size
    (λ fits. false≢true (c.if-not-has.ensures.1 fits)))
    (λ bytes e. rw c.from.ensures (inr e))

pub returns-clause-answer : goal.returns-clause-answer
returns-clause-answer g c =
    let cursor = c.args.self.now in
    let known = g.S.ByteSource.contents cursor.source in
    both_known known _ _
    (box_of_part g.B.ReadBox.value known cursor.position c.args.size c.in_ok-payload.payload.now c.requires.size
    c.in_ok-payload.ensures.value)
    (λ bytes e. e ∙ ap (λ r. r >>= λ x. Ok (x, here bytes (cursor.position + (c.args.size - 8))))
    c.in_ok-value.ensures.value)

pub returns-in_err-value-clause-answer : goal.returns-in_err-value-clause-answer
returns-in_err-value-clause-answer g c =
    let cursor = c.args.self.now in
    let known = g.S.ByteSource.contents cursor.source in
    let p = err_from_is_err_and c.from_residual-in_err-value.result c.from_residual-in_err-value.ensures.1 in
    both_known known _ _
    (box_of_part g.B.ReadBox.value known cursor.position c.args.size c.in_ok-payload.payload.now c.requires.size
    c.in_ok-payload.ensures.value)
    (λ bytes e. rw (p.1, p.2) (elim c.in_err-value.ensures.value [
      | inl memory ↦ inl memory
      | inr fault ↦ inr (e ∙ ap (λ r. r >>= λ x. Ok (x, here bytes (cursor.position + (c.args.size - 8)))) fault)
    ]))
