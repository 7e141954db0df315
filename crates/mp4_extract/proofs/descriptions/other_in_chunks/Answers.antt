use Rattle.std.proofs.Common.{◌≡◌, ◌+◌, ◌∙◌, drop, refl, sym, ap, List}
use Rattle.std.proofs.lemmas.List.{drop_more}
use Rattle.mp4_table.specs.declared.stsc.StscEntry.{StscEntry}
use Rattle.mp4_extract.specs.Descriptions.{other_in_chunks}
use Rattle.mp4_extract.proofs.descriptions.other_in_chunks.Goals as goal

-- what stands for an entry where there is none
abbrev none : StscEntry
none = record { first_chunk = 0; samples_per_chunk = 0; sample_description_index = 0; first_sample = 0 }

pub returns-then-is_other_entry : goal.returns-then-is_other_entry
returns-then-is_other_entry c =
    let is_other = sym c.is_other_entry.ensures ∙ c.if-is_other_entry.true in
    sym (sym c.loop-i.invariant
    ∙ ap (λ (es : List StscEntry). other_in_chunks c.args.count es)
    (drop_more c.args.entries.now c.loop-i.i none c.loop-i-test.true)
    ∙ rw is_other refl)

pub loop-i-preserved : goal.loop-i-preserved
loop-i-preserved c =
    let is_other = sym c.is_other_entry.ensures ∙ c.if-is_other_entry.false in
    let step : other_in_chunks c.args.count (drop c.loop-i.i c.args.entries.now)
    ≡ other_in_chunks c.args.count (drop (c.loop-i.i + 1) c.args.entries.now) =
    ap (λ (es : List StscEntry). other_in_chunks c.args.count es)
    (drop_more c.args.entries.now c.loop-i.i none c.loop-i-test.true)
    ∙ rw is_other refl in
    sym step ∙ c.loop-i.invariant
