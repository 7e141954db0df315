use Rattle.std.proofs.Common.{◌≡◌, ◌∙◌, ◌+◌, ◌-◌, List, drop, take, length, ap, sym, arith}
use Rattle.std.proofs.lemmas.List.{length-drop, take_all}
use Rattle.mp4_table.specs.declared.stsc.StscEntry.{StscEntry}
use Rattle.mp4_remux.specs.Descriptions.{last_before}
use Rattle.mp4_remux.proofs.DescriptionLaws.{entries_over, entry_run}
use Rattle.mp4_remux.proofs.descriptions.push_chunks.Goals as goal

pub loop-i-preserved : goal.loop-i-preserved
loop-i-preserved c =
    let es = c.args.entries.now in
    let i = c.loop-i.i in
    let rest : take (length es - (i + 1)) (drop (i + 1) es) ≡ drop (i + 1) es =
    take_all (length es - (i + 1)) (drop (i + 1) es) (omega (arith, length-drop (i + 1) es)) in
    let end : c.last_before.result ≡ last_before c.args.count (drop (i + 1) es) =
    c.last_before.ensures ∙ ap (λ (xs : List StscEntry). last_before c.args.count xs) rest in
    rw (c.in_ok-push.ensures.items, end)
    (entry_run es i c.args.count _ c.loop-i.runs.items c.loop-i-test.true ∙ c.loop-i.invariant)

pub returns : goal.returns
returns c =
    sym (entries_over c.args.entries.now c.loop-i.i c.args.count c.loop-i.runs.items c.loop-i-test.false)
    ∙ c.loop-i.invariant
