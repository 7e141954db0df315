-- Each turn fills in one row more, and none after the last sample or the first that is refused.
use Rattle.std.proofs.Common.{◌≡◌, ◌-◌, ◌+◌, ◌∷◌, suc, length, Ok, Err, refl, ap, sym, ◌∙◌, arith}
use Rattle.std.proofs.lemmas.List.{set-get_or}
use Rattle.mp4_codec.specs.Cause.{cause_of}
use Rattle.mp4_lookup.specs.InOrder.{samples_left}
use Rattle.mp4_c.specs.Samples.{refusal_in, rows_of}
use Rattle.mp4_c.proofs.SampleRows.{none_left, refused_next, no_room, none_left_refusal, refused_next_refusal}
use Rattle.mp4_c.proofs.SampleRows.{no_room_refusal, row_next, row_next_refusal, ended_rows, ended_count}
use Rattle.mp4_c.proofs.SampleRows.{next_front, next_rest}
use Rattle.mp4_c.proofs.samples.fill_rows.Goals as goal

pub loop-k-init : goal.loop-k-init
loop-k-init c =
    let whole : length c.args.rows.now ≡ length c.args.rows.now - 0 = omega arith in record {
      rows = ap (λ n. rows_of c.args.track_id n (samples_left c.args.samples)) whole;
      rest = refl;
      refusal = ap (λ n. refusal_in n (samples_left c.args.samples)) whole;
    }

pub returns-in-None-clause-rows : goal.returns-in-None-clause-rows
returns-in-None-clause-rows c =
    set-get_or _ _ _
    ∙ ended_rows c.loop-k.rows _ _ _ c.loop-k.k c.loop-k.invariant.rows (none_left _ _ _ c.in-None.ensures.steps.0)
    c.loop-k.invariant.rest (omega arith)

pub returns-in-None-clause-count : goal.returns-in-None-clause-count
returns-in-None-clause-count c =
    ended_count c.loop-k.rows _ _ c.loop-k.k c.loop-k.invariant.rows (none_left _ _ _ c.in-None.ensures.steps.0)
    (omega arith)

pub returns-in-None-clause-end : goal.returns-in-None-clause-end
returns-in-None-clause-end c = sym (c.loop-k.invariant.refusal ∙ none_left_refusal _ _ c.in-None.ensures.steps.0)

pub returns-in-Some-Err-clause-rows : goal.returns-in-Some-Err-clause-rows
returns-in-Some-Err-clause-rows c =
    let next : samples_left c.loop-k.samples ≡ Err (cause_of c.in-Some-Err.error) ∷ samples_left c.next.new.self =
    rw c.in-Some-Err.field-0-is at c.in-Some-Err.ensures.steps in
    set-get_or _ _ _
    ∙ ended_rows c.loop-k.rows _ _ _ c.loop-k.k c.loop-k.invariant.rows (refused_next _ _ _ _ _ next)
    c.loop-k.invariant.rest (omega arith)

pub returns-in-Some-Err-clause-count : goal.returns-in-Some-Err-clause-count
returns-in-Some-Err-clause-count c =
    let next : samples_left c.loop-k.samples ≡ Err (cause_of c.in-Some-Err.error) ∷ samples_left c.next.new.self =
    rw c.in-Some-Err.field-0-is at c.in-Some-Err.ensures.steps in
    ended_count c.loop-k.rows _ _ c.loop-k.k c.loop-k.invariant.rows (refused_next _ _ _ _ _ next) (omega arith)

pub returns-in-Some-Err-clause-end : goal.returns-in-Some-Err-clause-end
returns-in-Some-Err-clause-end c =
    let next : samples_left c.loop-k.samples ≡ Err (cause_of c.in-Some-Err.error) ∷ samples_left c.next.new.self =
    rw c.in-Some-Err.field-0-is at c.in-Some-Err.ensures.steps in
    sym (c.loop-k.invariant.refusal
    ∙ refused_next_refusal _ (length c.args.rows.now - (c.loop-k.k + 1)) _ _ _ next (omega arith))

pub loop-k-preserved : goal.loop-k-preserved
loop-k-preserved c =
    let next : samples_left c.loop-k.samples ≡ Ok c.in-Some-Ok.place ∷ samples_left c.next.new.self =
    rw c.in-Some-Ok.field-0-is at c.in-Some-Ok.ensures.steps in
    let more : length c.args.rows.now - c.loop-k.k ≡ suc (length c.args.rows.now - (c.loop-k.k + 1)) = omega arith in
    record {
      rows = next_front c.loop-k.rows _ _ _ c.loop-k.k c.row_of.result _ c.loop-k.invariant.rows
          (row_next _ _ _ _ _ _ next more) c.row_of.ensures (omega arith);
      rest = next_rest c.loop-k.rows c.args.rows.now c.loop-k.k c.row_of.result c.loop-k.invariant.rest;
      refusal = c.loop-k.invariant.refusal ∙ row_next_refusal _ _ _ _ _ next more;
    }

pub returns-clause-rows : goal.returns-clause-rows
returns-clause-rows c =
    ended_rows c.loop-k.rows _ _ _ c.loop-k.k c.loop-k.invariant.rows
    (no_room _ (length c.args.rows.now - c.loop-k.k) _ (omega arith)) c.loop-k.invariant.rest (omega arith)

pub returns-clause-count : goal.returns-clause-count
returns-clause-count c =
    let full : length c.loop-k.rows ≡ c.loop-k.k = omega arith in
    full
    ∙ ended_count c.loop-k.rows _ _ c.loop-k.k c.loop-k.invariant.rows
    (no_room _ (length c.args.rows.now - c.loop-k.k) _ (omega arith)) (omega arith)

pub returns-clause-end : goal.returns-clause-end
returns-clause-end c =
    sym (c.loop-k.invariant.refusal ∙ no_room_refusal (length c.args.rows.now - c.loop-k.k) _ (omega arith))
