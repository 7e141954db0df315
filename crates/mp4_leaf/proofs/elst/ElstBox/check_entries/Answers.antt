use Rattle.std.proofs.Common.{get_or}
use Rattle.std.proofs.lemmas.List.{get_or_default}
use Rattle.std.proofs.lemmas.Result.{err_from_is_err_and}
use Rattle.mp4_codec.specs.Cause.{cause_of}
use Rattle.mp4_codec.specs.ListLaws.{all_refusal-take_more, all_refusal-first}
use Rattle.mp4_leaf.specs.declared.elst.ElstEntry.{ElstEntry}
use Rattle.mp4_leaf.specs.Elst.{elst_entry_refusal}
use Rattle.mp4_leaf.proofs.elst.ElstBox.check_entries.Goals as goal

-- an entry of zeros
abbrev zero_entry : ElstEntry
zero_entry = record { segment_duration = 0; media_time = 0; media_rate = 0; media_rate_fraction = 0 }

pub returns-in_err-check : goal.returns-in_err-check
returns-in_err-check c =
    let entries = c.as_slice-entry-items.result.now in
    let i = c.loop-entry.entry-index in
    let entry = get_or entries i zero_entry in
    let p = err_from_is_err_and c.from_residual.result c.from_residual.ensures.1 in
    let first = all_refusal-first (elst_entry_refusal c.args.self.now.version) entries i entry
    (cause_of c.in_err-check.field-0.0) c.loop-entry-test.true
    (get_or_default entries i _ entry c.loop-entry-test.true) c.loop-entry.invariant c.in_err-check.ensures in
    rw (p.1, p.2, ← c.as_slice-entry-items.ensures) first

pub loop-entry-preserved : goal.loop-entry-preserved
loop-entry-preserved c =
    let entries = c.as_slice-entry-items.result.now in
    let i = c.loop-entry.entry-index in
    let entry = get_or entries i zero_entry in
    rw (all_refusal-take_more (elst_entry_refusal c.args.self.now.version) entries i entry c.loop-entry-test.true
    (get_or_default entries i _ entry c.loop-entry-test.true) c.loop-entry.invariant) c.in_ok-check.ensures
