use Rattle.std.proofs.Common.{◌≡◌, ◌⊎◌, inl, inr, rules, true}
use Rattle.std.proofs.lemmas.Result.{err_from_is_err_and}
use Rattle.std.proofs.KnownBytes.{Appends-nil}
use Rattle.mp4_media.specs.Reading.{sample_count_in}
use Rattle.mp4_extract.specs.Extracting.{IsReadIn}
use Rattle.mp4_extract.proofs.Joined.{none_counted, none_written}
use Rattle.mp4_extract.proofs.samples.extract.Goals as goal

-- one of two facts more
or_more : {A B C : Type 0} → A ⊎ B → A ⊎ (B ⊎ C)
or_more (inl a) = inl a
or_more (inr b) = inr (inl b)

pub returns-clause-written : goal.returns-clause-written
returns-clause-written g c = (
  c.in_ok-writer.writer.form,
  c.in_ok-writer.ensures.form,
  rw c.in_ok-writer.ensures.track_id at c.in_ok-written.ensures.written,
)

pub returns-clause-end : goal.returns-clause-end
returns-clause-end g c = λ less. inr (rw c.in_ok-writer.ensures.track_id at (c.in_ok-written.ensures.end less))

pub returns-then-not-has_samples-clause-written : goal.returns-then-not-has_samples-clause-written
returns-then-not-has_samples-clause-written g c =
    let file = c.args.file.now in (
      c.in_ok-writer.writer.form,
      c.in_ok-writer.ensures.form,
      none_written c.in_ok-writer.writer.form
          (IsReadIn (g.S.ByteSource.contents file.source) file.len file.movie.tracks c.args.track_id) c.args.from
          (g.W.Write.contents c.args.out.now),
    )

pub returns-then-not-has_samples-clause-end : goal.returns-then-not-has_samples-clause-end
returns-then-not-has_samples-clause-end g c = λ less.
    let begins = rw c.in_ok-writer.ensures.track_id at c.in_ok-has_samples.ensures.begins in
    inl (none_counted (sample_count_in c.args.file.now.movie.tracks c.args.track_id) begins.0 _ begins.1 begins.3
    (search rules))

pub returns-in_err-writer-clause-refused : goal.returns-in_err-writer-clause-refused
returns-in_err-writer-clause-refused g c =
    let p = err_from_is_err_and c.from_residual.result c.from_residual.ensures.1 in
    rw (p.1, p.2) (inl (or_more c.in_err-writer.ensures.refused, Appends-nil (g.W.Write.contents c.args.out.now)))

pub returns-in_err-has_samples-clause-refused : goal.returns-in_err-has_samples-clause-refused
returns-in_err-has_samples-clause-refused g c =
    let residual = c.from_residual-in_err-has_samples in
    let p = err_from_is_err_and residual.result residual.ensures.1 in
    let writer = c.in_ok-writer.ensures in
    rw (p.1, p.2) (inl (
      inr (inr (
        ((c.in_ok-writer.writer.form, writer.form), writer.described),
        rw writer.track_id at c.in_err-has_samples.ensures.refused,
      )),
      Appends-nil (g.W.Write.contents c.args.out.now),
    ))

pub returns-in_err-written-clause-refused : goal.returns-in_err-written-clause-refused
returns-in_err-written-clause-refused g c =
    let p = err_from_is_err_and c.from_residual-in_err-written.result c.from_residual-in_err-written.ensures.1 in
    let writer = c.in_ok-writer.ensures in
    let some : c.in_ok-has_samples.has_samples ≡ true = search rules in
    rw (p.1, p.2) (inr (
      (
        ((c.in_ok-writer.writer.form, writer.form), writer.described),
        rw some at (rw writer.track_id at c.in_ok-has_samples.ensures.begins),
      ),
      c.in_ok-writer.writer.form,
      writer.form,
      rw writer.track_id at c.in_err-written.ensures.refused,
    ))
