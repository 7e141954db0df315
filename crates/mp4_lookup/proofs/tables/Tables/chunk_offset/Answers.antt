use Rattle.std.proofs.Common.{◌∙◌, ◌-◌, Some, ap}
use Rattle.mp4_lookup.proofs.tables.Tables.chunk_offset.Goals as goal

pub returns-in-Some : goal.returns-in-Some
returns-in-Some c =
    let offsets = c.requires.tables.offsets (c.args.chunk - 1) in
    ap Some c.from.ensures ∙ (rw (← c.in-Some.ensures) at offsets)

pub returns-in-None : goal.returns-in-None
returns-in-None c =
    let offsets = c.requires.tables.offsets (c.args.chunk - 1) in
    c.long_number_at.ensures ∙ (rw (← c.in-None.ensures) at offsets)
