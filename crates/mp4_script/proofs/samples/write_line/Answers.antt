use mir.Val.{bool_byte, to_z, of_z}
use Rattle.std.proofs.Common.{◌≡◌, ◌∙◌, refl, [], drop, arith, w32, Bool, true, false, cond}
use Rattle.std.proofs.lemmas.Int.{to_z-of_z}
use Rattle.std.proofs.lemmas.List.{drop_all}
use Rattle.mp4_script.specs.Listing.{sample_line}
use Rattle.mp4_script.proofs.samples.write_line.Goals as goal

one_if_true : (b : Bool) → bool_byte b ≡ cond b 1 0
one_if_true true = refl
one_if_true false = refl

pub returns-clause-written : goal.returns-clause-written
unfolding sample_line
returns-clause-written c =
    let rest_is : drop 148 c.args.line.now ≡ [] = drop_all 148 c.args.line.now (omega arith) in
    let later : to_z w32 (of_z w32 c.args.place.rendering_offset) ≡ c.args.place.rendering_offset =
    grind (arith, to_z-of_z) in
    let sync = c.put_number-start.ensures.written in
    let rendering_offset = c.put_offset-start.ensures.written in
    let duration = c.put_number-start-2.ensures.written in
    let start_time = c.put_number-start-3.ensures.written in
    let size = c.put_number-start-4.ensures.written in
    let offset = c.put_number-start-5.ensures.written in
    c.put_number.ensures.written
    ∙ rw (
      offset,
      size,
      start_time,
      duration,
      rendering_offset,
      sync,
      rest_is,
      c.from.ensures,
      c.from-2.ensures,
      c.from-3.ensures,
      c.from-4.ensures,
      later,
      one_if_true c.args.place.is_sync,
    ) refl
