-- Each turn writes one sample more.
use Rattle.std.proofs.Common.{refl, subst, take}
use Rattle.mp4_media.specs.WriterFields.{MayHold}
use Rattle.mp4_c.specs.Written.{with_rows}
use Rattle.mp4_c.proofs.Refusals.{refused_sample}
use Rattle.mp4_c.proofs.Writing.{all_rows, all_written, no_rows, none_written, rows_next, written_next}
use Rattle.mp4_c.proofs.written.add_samples.Goals as goal

pub loop-k-init : goal.loop-k-init
loop-k-init g c = record {
  added = λ st h. subst (MayHold c.args.writer.now) (no_rows c.args.source.now st c.args.rows.now) h;
  written = λ st _. none_written c.args.source.now st c.args.rows.now;
}

pub loop-k-preserved : goal.loop-k-preserved
loop-k-preserved g c = record {
  added = λ st h.
      let now = with_rows c.args.source.now st (take c.loop-k.k c.args.rows.now) in
      subst (MayHold c.add_sample.new.writer)
      (rows_next c.args.source.now st now _ c.args.rows.now c.loop-k.k _ c.loop-k-test.true refl refl)
      (c.in-Ok.ensures.added now (c.loop-k.invariant.added st h));
  written = λ st h.
      let now = with_rows c.args.source.now st (take c.loop-k.k c.args.rows.now) in
      written_next c.args.source.now st c.args.rows.now c.loop-k.k _ c.loop-k-test.true
      (c.loop-k.invariant.written st h) (c.in-Ok.ensures.cause now (c.loop-k.invariant.added st h));
}

pub returns-clause-added : goal.returns-clause-added
returns-clause-added g c = λ st h.
    subst (MayHold c.loop-k.writer) (all_rows c.args.source.now st
    (with_rows c.args.source.now st (take c.loop-k.k c.args.rows.now)) c.args.rows.now c.loop-k.k
    c.loop-k-test.false refl) (c.loop-k.invariant.added st h)

pub returns-clause-written : goal.returns-clause-written
returns-clause-written g c = λ st h.
    all_written c.args.source.now st c.args.rows.now c.loop-k.k c.loop-k-test.false (c.loop-k.invariant.written st h)

pub returns-in-Err-clause-refused : goal.returns-in-Err-clause-refused
returns-in-Err-clause-refused g c = λ st h.
    let now = with_rows c.args.source.now st (take c.loop-k.k c.args.rows.now) in
    refused_sample c.args.source.now c.args.rows.now st now c.loop-k.k _ c.in-Err.error c.loop-k-test.true refl
    (c.loop-k.invariant.written st h) (c.in-Err.ensures.cause now (c.loop-k.invariant.added st h))
