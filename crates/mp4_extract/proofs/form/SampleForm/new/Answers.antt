use Rattle.std.proofs.Common.{refl, sym}
use Rattle.mp4_extract.proofs.form.SampleForm.new.Goals as goal

pub returns-in-Some-clause-form : goal.returns-in-Some-clause-form
returns-in-Some-clause-form c = rw c.in-Adts.is (c.in-Some.config, refl, sym c.in-Some.ensures)
