use Rattle.std.proofs.Common.{◌≡◌, ◌∙◌, ℕ, ◌+◌, ◌-◌, ◌≤◌, ◌<◌, length, Result, Ok, false, refl, ap, inr, arith}
use Rattle.std.specs.Prelude.{◌==◌}
use Rattle.std.proofs.lemmas.Bool.{ne_eqb}
use Rattle.std.proofs.lemmas.Result.{err_from_is_err_and}
use Rattle.mp4_codec.specs.Cause.{Cause, ◌>>=◌}
use Rattle.mp4_codec.specs.Cursor.{Cursor, here, header_at}
use Rattle.mp4_codec.specs.declared.header.BoxHeader.{BoxHeader}
use Rattle.mp4_media.specs.declared.opening.TopLevelBoxes.{TopLevelBoxes}
use Rattle.mp4_media.specs.FileBoxes.{meaning_of}
use Rattle.mp4_media.specs.Walk.{content_at, and_found, with_content_at, with_next_at}
use Rattle.mp4_media.proofs.FoundBoxes.{all_known, of_known, of_known_by, refused_too}
use Rattle.mp4_media.proofs.FoundBoxes.{no_next, short_rest, no_head, open_end, too_large, content_next, and_more}
use Rattle.mp4_media.proofs.FoundBoxes.{next_added}
use Rattle.mp4_media.proofs.TakingMemory.{whole_to_read}
use Rattle.mp4_media.proofs.opening.add_next.Goals as goal

pub returns-then-place-size-clause-answer : goal.returns-then-place-size-clause-answer
returns-then-place-size-clause-answer g c =
    let reader = c.args.reader.now in
    all_known (g.S.ByteSource.contents reader.source) _
    (λ bytes. rw (no_next c.args.size (here bytes reader.position) (omega arith)) refl)

pub returns-then-size-place-lt-HEADER_SIZE-clause-answer :
    goal.returns-then-size-place-lt-HEADER_SIZE-clause-answer
returns-then-size-place-lt-HEADER_SIZE-clause-answer g c =
    let reader = c.args.reader.now in
    all_known (g.S.ByteSource.contents reader.source) _
    (λ bytes.
    rw (c.from.ensures, short_rest c.args.size (here bytes reader.position) (omega arith) (omega arith)) (inr refl))

pub returns-in_err-header-clause-answer : goal.returns-in_err-header-clause-answer
returns-in_err-header-clause-answer g c =
    let reader = c.args.reader.now in
    let p = err_from_is_err_and c.from_residual.result c.from_residual.ensures.1 in
    of_known (g.S.ByteSource.contents reader.source) _ _ c.in_err-header.ensures.answer
    (λ bytes a. rw (p.1, p.2) (refused_too (g.S.ByteSource.can_refuse reader.source) c.in_err-header.field-0.0 _ _
    (λ cause refused. ap (λ r. r >>= and_found c.args.found.now)
    (no_head c.args.size (here bytes reader.position) (omega arith) (omega arith) cause refused)) a))

pub returns-then-header-eq-OPEN_END-clause-answer : goal.returns-then-header-eq-OPEN_END-clause-answer
returns-then-header-eq-OPEN_END-clause-answer g c =
    let reader = c.args.reader.now in
    of_known (g.S.ByteSource.contents reader.source) _ _ c.in_ok-header.ensures.answer
    (λ bytes e. rw (
      c.set_position.ensures,
      c.position-place.ensures,
      open_end c.args.size (here bytes reader.position) (omega arith) (omega arith) c.in_ok-header.header
          (here bytes c.read_header.new.self.position) e (omega arith),
    ) refl)

pub returns-then-header-size-clause-answer : goal.returns-then-header-size-clause-answer
returns-then-header-size-clause-answer g c =
    let reader = c.args.reader.now in
    of_known (g.S.ByteSource.contents reader.source) _ _ c.in_ok-header.ensures.answer
    (λ bytes e. rw (
      c.from-then-header-size.ensures,
      too_large c.args.size (here bytes reader.position) (omega arith) (omega arith) c.in_ok-header.header
          (here bytes c.read_header.new.self.position) e
          (ne_eqb c.in_ok-header.header.size 0 (λ zero. omega (arith, zero))) (omega arith),
    ) (inr refl))

-- the box that is added
module _ (size : ℕ) (place : Cursor) (below : place.position < size) (long : place.position + 8 ≤ size) (h : BoxHeader)
    (after : Cursor) (head : header_at place ≡ Ok (h, after)) (some : (h.size == 0) ≡ false) (fits : h.size ≤ size)
    (found : TopLevelBoxes) where
  next_is_added : with_next_at size found place
      ≡ (with_content_at h.name h.size found place.position after >>= and_more)
  next_is_added =
      ap (λ r. r >>= and_found found)
      (content_next size place below long h after head some fits)
      ∙ next_added found place.position (content_at (meaning_of h.name) h.size after)

pub returns-in_err-add_content-clause-answer : goal.returns-in_err-add_content-clause-answer
returns-in_err-add_content-clause-answer g c =
    let reader = c.args.reader.now in
    let p = err_from_is_err_and c.from_residual-in_err-add_content.result
    c.from_residual-in_err-add_content.ensures.1 in
    let content = rw (c.in_ok-header.ensures.contents, c.in_ok-header.ensures.can_refuse, c.position-place.ensures)
    at c.in_err-add_content.ensures.answer in
    of_known_by (g.S.ByteSource.contents reader.source) _ _ _ c.in_ok-header.ensures.answer content
    (λ bytes e a. rw (p.1, p.2) (refused_too (g.S.ByteSource.can_refuse reader.source)
    c.in_err-add_content.field-0.0 _ _
    (λ cause refused.
    next_is_added c.args.size (here bytes reader.position) (omega arith) (omega arith) c.in_ok-header.header
    (here bytes c.read_header.new.self.position) e
    (ne_eqb c.in_ok-header.header.size 0 (λ zero. omega (arith, zero))) (omega arith)
    c.args.found.now
    ∙ ap (λ (r : Result (TopLevelBoxes × Cursor) Cause). r >>= and_more) refused) a))

pub returns-clause-answer : goal.returns-clause-answer
returns-clause-answer g c =
    let reader = c.args.reader.now in
    let content = rw (c.in_ok-header.ensures.contents, c.position-place.ensures)
    at c.in_ok-add_content.ensures.answer in
    of_known_by (g.S.ByteSource.contents reader.source) _ _ _ c.in_ok-header.ensures.answer content
    (λ bytes e a.
    next_is_added c.args.size (here bytes reader.position) (omega arith) (omega arith) c.in_ok-header.header
    (here bytes c.read_header.new.self.position) e
    (ne_eqb c.in_ok-header.header.size 0 (λ zero. omega (arith, zero))) (omega arith)
    c.args.found.now
    ∙ ap (λ (r : Result (TopLevelBoxes × Cursor) Cause). r >>= and_more) a)

pub returns-in_err-add_content-clause-memory : goal.returns-in_err-add_content-clause-memory
returns-in_err-add_content-clause-memory g c =
    let reader = c.args.reader.now in
    let h = c.in_ok-header.header in
    let p = err_from_is_err_and c.from_residual-in_err-add_content.result
    c.from_residual-in_err-add_content.ensures.1 in
    rw (p.1, p.2) (λ memory.
    let m = c.in_err-add_content.ensures.memory memory in
    of_known_by (g.S.ByteSource.contents reader.source) _ _ _ c.in_ok-header.ensures.answer c.requires.len
    (λ bytes e len_is.
    let room : reader.position + 8 ≤ c.args.size = omega arith in
    let fits : h.size ≤ c.args.size = omega arith in
    let inside : c.read_header.new.self.position + (h.size - 8) ≤ length bytes =
    omega (arith, m.1, c.in_ok-header.ensures.same_len, len_is) in
    whole_to_read c.args.size bytes reader.position h c.read_header.new.self.position room e c.in_ok-header.ensures.size
    (λ zero. omega (arith, zero)) fits m.0 inside))
