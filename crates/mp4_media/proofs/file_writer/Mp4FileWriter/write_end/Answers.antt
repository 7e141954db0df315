use Rattle.std.proofs.Common.{◌≡◌, ◌<◌, ◌^◌, None, Result, Ok, Err, refl, subst}
use Rattle.std.specs.Prelude.{OnOk}
use Rattle.mp4_mux.specs.Writing.{end_cause}
use Rattle.mp4_media.specs.WriterFields.{KeptMovie}
use Rattle.mp4_media.proofs.KeptMovies.{end-opens, end-is_written}
use Rattle.mp4_media.proofs.file_writer.Mp4FileWriter.write_end.Goals as goal

-- what holds of an answer that is Ok
where_ok : {X E C : Type 0} (r : Result X E) → ((x : X) → r ≡ Ok x → C) → OnOk r C
where_ok (Ok x) f = f x refl
where_ok (Err e) f = tt

pub returns-clause-opens : goal.returns-clause-opens
returns-clause-opens g c = where_ok c.end-answer.result (λ x is st h.
    let none : end_cause st ≡ None = rw is at (c.end-answer.ensures.cause st h) in
    let now = (rw is at c.end-answer.ensures.ok) st h in
    end-opens c.args.self.now st h none c.end-answer.new.self now
    (subst (λ (w : KeptMovie). w.media.len < 2 ^ 64) c.self.view_is c.len.ensures.small))

pub returns-clause-written : goal.returns-clause-written
returns-clause-written g c = where_ok c.end-answer.result (λ x is st h.
    let none : end_cause st ≡ None = rw is at (c.end-answer.ensures.cause st h) in
    end-is_written c.args.self.now st h none)
