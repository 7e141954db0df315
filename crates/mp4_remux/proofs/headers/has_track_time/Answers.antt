use Rattle.std.proofs.Common.{◌==◌, ◌≡◌, sym, ap, ◌∙◌, List, length}
use Rattle.std.proofs.lemmas.Bool.{eqb-true}
use Rattle.mp4_leaf.specs.declared.elst.ElstEntry.{ElstEntry}
use Rattle.mp4_remux.specs.Headers.{edits_of_box, edits_time}
use Rattle.mp4_remux.proofs.HeaderLaws.{time_with, time_without, with_time, without_time}
use Rattle.mp4_remux.proofs.headers.has_track_time.Goals as goal

pub returns-then-is_empty : goal.returns-then-is_empty
returns-then-is_empty c =
    let edits = edits_of_box c.args.trak.now.edts in
    let none = ap (λ (es : List ElstEntry). length es) (sym c.edits_of-edits.ensures)
    ∙ eqb-true (length c.edits_of-edits.result.now) 0 (sym c.if-is_empty.ensures) in (
      λ is. time_without c.args.trak.now c.args.clock edits none (c.is_rounded_up.ensures.0 is),
      λ is. c.is_rounded_up.ensures.1 (without_time c.args.trak.now c.args.clock edits none is),
    )

pub returns : goal.returns
returns c =
    let edits = edits_of_box c.args.trak.now.edts in
    let same = c.edits_of-edits.ensures in
    let some : (length edits ≡ 0 → ⊥) = λ none.
    let all = ap (λ (es : List ElstEntry). length es) same ∙ none in
    let no = c.if-is_empty.ensures ∙ ap (λ n. n == 0) all in absurd cc in (
      λ is. time_with c.args.trak.now c.args.clock edits some (c.are_so_long.ensures.0 is ∙ ap edits_time same),
      λ is.
          c.are_so_long.ensures.1 (with_time c.args.trak.now c.args.clock edits some is ∙ ap edits_time (sym same)),
    )
