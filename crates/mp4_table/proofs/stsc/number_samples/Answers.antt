use Rattle.std.proofs.Common.{None, arith}
use Rattle.std.proofs.lemmas.Result.{err_from_is_err_and}
use Rattle.mp4_codec.specs.Cause.{cause_of}
use Rattle.mp4_table.specs.Stsc.{numbered_after}
use Rattle.mp4_table.specs.declared.stsc.StscEntry.{StscEntry}
use Rattle.mp4_table.proofs.Numbering.{goes_on, stops, is_done}
use Rattle.mp4_table.proofs.stsc.number_samples.Goals as goal

-- an entry of zeros
abbrev zero_entry : StscEntry
zero_entry = record { first_chunk = 0; samples_per_chunk = 0; sample_description_index = 0; first_sample = 0 }

pub returns-in_err-entry : goal.returns-in_err-entry
returns-in_err-entry c =
    let p = err_from_is_err_and c.from_residual.result c.from_residual.ensures.1 in
    rw (p.1, p.2) (stops (cause_of c.in_err-entry.field-0.0) c.loop-entry.entries c.loop-entry.entry-index
    c.loop-entry.before zero_entry (numbered_after None c.args.entries.now)
    (omega (arith, c.loop-entry.auto.entries, c.loop-entry-test.true)) c.in_err-entry.ensures
    c.loop-entry.invariant)

pub loop-entry-preserved : goal.loop-entry-preserved
loop-entry-preserved c =
    goes_on c.loop-entry.entries c.loop-entry.entry-index c.in_ok-entry.field-0 c.loop-entry.before zero_entry
    (numbered_after None c.args.entries.now) (omega (arith, c.loop-entry.auto.entries, c.loop-entry-test.true))
    c.in_ok-entry.ensures c.loop-entry.invariant

pub returns : goal.returns
returns c = is_done c.loop-entry.entries c.loop-entry.entry-index c.loop-entry.before
    (numbered_after None c.args.entries.now) (omega (arith, c.loop-entry.auto.entries, c.loop-entry-test.false))
    c.loop-entry.invariant
