use Rattle.std.proofs.Common.{◌≡◌, Some, None, inr, refl}
use Rattle.std.proofs.lemmas.Result.{err_from_is_err_and}
use Rattle.mp4_codec.specs.Cause.{cause_of}
use Rattle.mp4_codec.specs.Bytes.{count_cause}
use Rattle.mp4_codec.specs.FieldLaws.{count_cause-refused, count_cause-enough}
use Rattle.mp4_codec.proofs.fields.Fields.list.Goals as goal

pub returns-in_err-check_count : goal.returns-in_err-check_count
returns-in_err-check_count g c =
    let n = g.T.Entry.bytes_each c.args.version in
    let p = err_from_is_err_and c.from_residual.result c.from_residual.ensures.1 in
    let passes : count_cause c.args.count n c.args.self.now ≡ Some (cause_of c.in_err-check_count.field-0.0) =
    rw c.size.ensures at c.in_err-check_count.ensures in
    let refused =
    count_cause-refused (g.T.Entry.at c.args.version) n (g.met.T.Entry.has_length c.args.version) c.args.count
    c.args.self.now (cause_of c.in_err-check_count.field-0.0) passes in
    rw (p.1, p.2, refused) (record { value = inr refl; early = refl })

pub returns-clause-early : goal.returns-clause-early
returns-clause-early g c =
    let n = g.T.Entry.bytes_each c.args.version in
    let none : count_cause c.args.count n c.args.self.now ≡ None = rw c.size.ensures at c.in_ok-check_count.ensures in
    let read = count_cause-enough (g.T.Entry.at c.args.version) n (g.met.T.Entry.has_length c.args.version)
    c.args.count c.args.self.now none in
    rw read.1 tt
