use Rattle.std.proofs.Common.{◌≡◌, ℕ, List, Option, Ok, Err, refl, sym, ◌∙◌}
use Rattle.std.specs.Prelude.{ℤ}
use Rattle.std.proofs.lemmas.Result.{err_from_is_err_and}
use Rattle.mp4_codec.specs.Cause.{Cause, cause_of}
use Rattle.mp4_codec.specs.Steps.{ok_is}
use Rattle.mp4_codec.specs.Bytes.{number_at, int32_at}
use Rattle.mp4_moof.specs.Optional.{optional_at}
use Rattle.mp4_moof.specs.Rows.{row_length, columns_at}
use Rattle.mp4_moof.specs.Trun.{trun_of, flags_of, ListsNothing}
use Rattle.mp4_moof.proofs.trun.TrunBoxReadBox.read_payload.Goals as goal

-- the flags that were read ask for none of the lists
no_rows : (payload bytes rest : List ℕ) (version flags : ℕ) → number_at 1 payload ≡ Ok (version, bytes)
    → number_at 3 bytes ≡ Ok (flags, rest) → ListsNothing payload → row_length flags ≡ 0
unfolding flags_of
no_rows payload bytes rest version flags first second h =
    let read : flags_of payload ≡ Ok flags = rw (first, second) refl in
    rw (ok_is flags h.flags (sym read ∙ h.is)) h.no_rows

-- where the samples are refused, so is the run
refused : (payload after_version after_flags after_count after_offset after_first : List ℕ)
    (version flags count : ℕ) (offset : Option ℤ) (first : Option ℕ) (cause : Cause)
    → number_at 1 payload ≡ Ok (version, after_version) → number_at 3 after_version ≡ Ok (flags, after_flags)
    → number_at 4 after_flags ≡ Ok (count, after_count)
    → optional_at int32_at 0x1 flags after_count ≡ Ok (offset, after_offset)
    → optional_at (number_at 4) 0x4 flags after_offset ≡ Ok (first, after_first)
    → columns_at flags count after_first ≡ Err cause → trun_of payload ≡ Err cause
unfolding trun_of
refused payload after_version after_flags after_count after_offset after_first version flags count offset first
    cause e1 e2 e3 e4 e5 e6 = rw (e1, e2, e3, e4, e5, e6) refl

pub returns-in_err-samples-clause-nothing : goal.returns-in_err-samples-clause-nothing
returns-in_err-samples-clause-nothing c = λ h.
    let p = err_from_is_err_and c.from_residual-in_err-samples.result c.from_residual-in_err-samples.ensures.1 in
    let version : number_at 1 c.args.payload.now ≡ Ok (c.in_ok-version.version, c.u8.new.self) =
    rw c.new-fields.ensures at c.in_ok-version.ensures in
    let none = no_rows c.args.payload.now c.u8.new.self c.u24.new.self c.in_ok-version.version c.in_ok-flags.flags
    version c.in_ok-flags.ensures h in
    rw (p.1, p.2) (refused c.args.payload.now c.u8.new.self c.u24.new.self c.u32.new.self c.read_flagged.new.fields
    c.read_flagged-2.new.fields c.in_ok-version.version c.in_ok-flags.flags c.in_ok-sample_count.sample_count
    c.in_ok-data_offset.data_offset c.in_ok-first_sample_flags.first_sample_flags
    (cause_of c.in_err-samples.field-0.0) version c.in_ok-flags.ensures c.in_ok-sample_count.ensures
    c.in_ok-data_offset.ensures c.in_ok-first_sample_flags.ensures (c.in_err-samples.ensures.nothing none))
