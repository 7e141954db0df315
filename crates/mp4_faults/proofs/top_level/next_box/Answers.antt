use Rattle.std.proofs.Common.{◌≡◌, [], ◌≤◌, ◌+◌, ℕ, List, Ok, subst, sym, refl, arith}
use Rattle.std.proofs.lemmas.Result.{err_from_is_err_and}
use Rattle.mp4_codec.specs.declared.header.BoxHeader.{BoxHeader}
use Rattle.mp4_codec.specs.Cursor.{header_at, here}
use Rattle.mp4_media.proofs.FoundBoxes.{of_known, of_known_by}
use Rattle.mp4_faults.specs.declared.fault_place.FaultPlace.{FaultPlace}
use Rattle.mp4_faults.specs.declared.top_level.NextBox.{NextBox}
use Rattle.mp4_faults.specs.declared.top_level.NextBox.TheVariants.{Faulty}
use Rattle.mp4_faults.specs.TopLevel.{IsBegun, SaysNext}
use Rattle.mp4_faults.proofs.Stepping.{headless, fault-read, ends-open, too-large, begins-with}
use Rattle.mp4_faults.proofs.top_level.next_box.Goals as goal

pub returns-in-Err-clause-answer : goal.returns-in-Err-clause-answer
returns-in-Err-clause-answer g c =
    let reader = c.args.reader.now in
    let old = c.args.seen.now in
    let e = c.in_ok-fault_of_bytes-in-Err.field-0 in
    let f : FaultPlace = record { path = []; place = c.position-place.result; error = e } in
    of_known (g.S.ByteSource.contents reader.source) _ _ c.in-Err.ensures.answer (λ bytes refused.
    subst (λ (n : NextBox). SaysNext c.args.size bytes reader.position old old c.read_header.new.self.position n)
    {x = Faulty f}
    (sym c.fault_of_file-in-Err.ensures)
    (headless c.args.size bytes reader.position f old.names (omega arith)
    (fault-read (g.S.ByteSource.can_refuse reader.source) c.in-Err.refusal e _ c.in_ok-fault_of_bytes-in-Err.ensures
    refused)
    refl c.position-place.ensures))

pub returns-then-header-eq-OPEN_END-clause-answer :
    goal.returns-then-header-eq-OPEN_END-clause-answer
returns-then-header-eq-OPEN_END-clause-answer g c =
    let reader = c.args.reader.now in
    of_known (g.S.ByteSource.contents reader.source) _ _ c.in-Ok.ensures.answer (λ bytes read. (
      ends-open c.args.size bytes reader.position c.in-Ok.header c.read_header.new.self.position (omega arith) read
          (omega arith),
      rw (c.set_position.ensures, c.position-place.ensures) refl,
      refl,
    ))

-- a box begins at a place, where it isn't larger than the file
begun : (size : ℕ) (bytes : List ℕ) (place from : ℕ) (h : BoxHeader)
    → header_at (here bytes place) ≡ Ok (h, here bytes from)
    → place + 8 ≤ size → 8 ≤ h.size → h.size ≤ size → IsBegun size bytes place h from
begun size bytes place from h read room large fits =
    record { begins = begins-with size bytes place from h read room large; fits = fits }

pub returns-then-header-size-clause-answer : goal.returns-then-header-size-clause-answer
returns-then-header-size-clause-answer g c =
    let reader = c.args.reader.now in
    let old = c.args.seen.now in
    let h = c.in-Ok.header in
    let from = c.read_header.new.self.position in
    let large : 8 ≤ h.size = grind (arith, c.in-Ok.ensures.size, c.if-header-eq-OPEN_END.false) in
    of_known (g.S.ByteSource.contents reader.source) _ _ c.in-Ok.ensures.answer (λ bytes read.
    subst (λ (n : NextBox). SaysNext c.args.size bytes reader.position old old from n)
    (sym c.in_ok-fault_of_box.ensures)
    (too-large c.args.size bytes reader.position from h large (omega arith)
    (begins-with c.args.size bytes reader.position from h read (omega arith) large) _ old.names refl refl
    c.position-place.ensures))

pub returns-then-is_read-clause-answer : goal.returns-then-is_read-clause-answer
returns-then-is_read-clause-answer g c =
    let reader = c.args.reader.now in
    let h = c.in-Ok.header in
    let from = c.read_header.new.self.position in
    let large : 8 ≤ h.size = grind (arith, c.in-Ok.ensures.size, c.if-header-eq-OPEN_END.false) in
    let told = rw (c.in-Ok.ensures.contents, c.in-Ok.ensures.can_refuse, c.position-place.ensures)
    at (c.read_box.ensures.answer c.args.size) in
    of_known_by (g.S.ByteSource.contents reader.source) _ _ _ c.in-Ok.ensures.answer told (λ bytes read a.
    a (begun c.args.size bytes reader.position from h read (omega arith) large (omega arith)))

pub returns-in_err-skip_box-clause-answer : goal.returns-in_err-skip_box-clause-answer
returns-in_err-skip_box-clause-answer g c =
    let p = err_from_is_err_and c.from_residual-in_err-skip_box.result c.from_residual-in_err-skip_box.ensures.1 in
    let reader = c.args.reader.now in
    let h = c.in-Ok.header in
    let from = c.read_header.new.self.position in
    let large : 8 ≤ h.size = grind (arith, c.in-Ok.ensures.size, c.if-header-eq-OPEN_END.false) in
    let told = rw (c.in-Ok.ensures.contents, c.position-place.ensures)
    at (c.in_err-skip_box.ensures.answer c.args.size) in
    of_known_by (g.S.ByteSource.contents reader.source) _ _ _ c.in-Ok.ensures.answer told (λ bytes read a.
    rw (p.1, p.2) (a (begun c.args.size bytes reader.position from h read (omega arith) large (omega arith))))

pub returns-clause-answer : goal.returns-clause-answer
returns-clause-answer g c =
    let reader = c.args.reader.now in
    let h = c.in-Ok.header in
    let from = c.read_header.new.self.position in
    let large : 8 ≤ h.size = grind (arith, c.in-Ok.ensures.size, c.if-header-eq-OPEN_END.false) in
    let told = rw (c.in-Ok.ensures.contents, c.position-place.ensures)
    at (c.in_ok-skip_box.ensures.answer c.args.size) in
    of_known_by (g.S.ByteSource.contents reader.source) _ _ _ c.in-Ok.ensures.answer told (λ bytes read a.
    a (begun c.args.size bytes reader.position from h read (omega arith) large (omega arith)))
