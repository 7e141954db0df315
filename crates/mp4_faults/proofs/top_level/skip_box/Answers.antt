use Rattle.std.proofs.Common.{◌≡◌, ◌≤◌, ◌<◌, ◌+◌, ◌-◌, ◌^◌, refl, arith}
use Rattle.mp4_media.proofs.FoundBoxes.{all_known}
use Rattle.mp4_media.specs.FileBoxes.{Skipped}
use Rattle.mp4_faults.proofs.Stepping.{gives-fault, too-wide, skipped-box}
use Rattle.mp4_faults.proofs.top_level.skip_box.Goals as goal

pub returns-in_default-clause-answer : goal.returns-in_default-clause-answer
returns-in_default-clause-answer g c =
    let h = c.args.header in
    let from = c.args.reader.now.position in
    let wide : 2 ^ 64 ≤ from + (h.size - 8) = grind (arith, c.in_default.ensures, c.position.ensures) in
    λ size. all_known (g.S.ByteSource.contents c.args.reader.now.source) _
    (λ bytes t. gives-fault size bytes c.args.place _ c.args.seen.now _ c.fault_of_box.result _ c.fault_of_box.ensures
    (too-wide size bytes c.args.place from h c.requires.size t _ c.args.seen.now.names c.requires.skipped wide refl
    refl refl))

pub returns-clause-answer : goal.returns-clause-answer
returns-clause-answer g c =
    let h = c.args.header in
    let from = c.args.reader.now.position in
    let after : c.in-Some.after ≡ from + (h.size - 8) = grind (arith, c.in-Some.ensures, c.position.ensures) in
    let small : from + (h.size - 8) < 2 ^ 64 = grind (arith, after, c.in-Some.ensures) in
    λ size. all_known (g.S.ByteSource.contents c.args.reader.now.source) _
    (λ bytes t. (
      (h.name, record { place = c.args.place; content = Skipped }),
      rw (c.set_position.ensures, after)
          (skipped-box size bytes c.args.place from h c.requires.size t c.requires.skipped small),
      record {
        names = c.in_ok-push.ensures.ok;
        ftyp = refl;
        moov = refl;
        moov_place = refl;
        moofs = refl;
        moof_places = refl;
      },
    ))
