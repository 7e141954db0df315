use Rattle.std.proofs.Common.{◌+◌, ◌++◌, sym, subst, arith}
use Rattle.std.proofs.lemmas.Result.{err_from_is_err_and}
use Rattle.mp4_remux.specs.Edit.{Change}
use Rattle.mp4_remux.specs.Moved.{base_of}
use Rattle.mp4_remux.proofs.EditedBoxes.{all_edited, end_not_edited, inner_not_edited, inside_edited, next_track}
use Rattle.mp4_remux.proofs.EditedBoxes.{step_edited, step_not_edited}
use Rattle.mp4_remux.proofs.EditedOffsets.{IsChangeOf, edited_is_moved, large_step, offsets_change}
use Rattle.mp4_remux.proofs.Moving.{box_not_moved, first_length, way_not_moved}
use Rattle.mp4_remux.proofs.movie_box.+put_boxes.Goals.{
  in-Enter+in_ok-extend_from_slice-in-Enter+in_ok-put_boxes-in-Enter+in_ok-end_box-in-Enter,
  in_default-step+in_ok-put_step-in_default-step,
}
use Rattle.mp4_remux.proofs.movie_box.+put_boxes.Goals as goal

pub returns-clause-edited : goal.returns-clause-edited
returns-clause-edited t c = λ to by.
    all_edited c.args.edit.now to (base_of c.args.moves.now) c.args.level c.args.track c.loop-one.track
    c.args.bytes.now c.loop-one.rest.now c.args.out.now.items c.loop-one.out.items
    (c.loop-one.invariant.edited to by) c.extend_from_slice-2.new.self.items c.in_default.ensures.none
    c.in_ok-extend_from_slice.ensures.items

pub returns-in_err-put_boxes-in-Enter-clause-refused : goal.returns-in_err-put_boxes-in-Enter-clause-refused
returns-in_err-put_boxes-in-Enter-clause-refused t c = λ to by.
    let p = err_from_is_err_and c.from_residual-in_err-put_boxes-in-Enter.result
    c.from_residual-in_err-put_boxes-in-Enter.ensures.1 in
    let one = c.in-Some.one in
    rw (p.1, p.2) (inner_not_edited c.args.edit.now to (base_of c.args.moves.now) c.args.level c.args.track
    c.loop-one.track c.args.bytes.now c.loop-one.rest.now c.args.out.now.items c.loop-one.out.items
    (c.loop-one.invariant.edited to by) one.name one.header.now one.payload.now one.after.now c.in-Some.ensures.first
    c.in_err-put_boxes-in-Enter.field-0.0 c.in-Enter.ensures.is
    (c.in_err-put_boxes-in-Enter.ensures.refused to by))

pub returns-in_err-end_box-in-Enter-clause-refused : goal.returns-in_err-end_box-in-Enter-clause-refused
returns-in_err-end_box-in-Enter-clause-refused t c = λ to by.
    let p = err_from_is_err_and c.from_residual-in_err-end_box-in-Enter.result
    c.from_residual-in_err-end_box-in-Enter.ensures.1 in
    let one = c.in-Some.one in
    rw (p.1, p.2) (end_not_edited c.args.edit.now to (base_of c.args.moves.now) c.args.level c.args.track
    c.loop-one.track c.args.bytes.now c.loop-one.rest.now c.args.out.now.items c.loop-one.out.items
    (c.loop-one.invariant.edited to by) one.name one.header.now one.payload.now one.after.now c.in-Some.ensures.first
    c.in_err-end_box-in-Enter.field-0.0 c.in-Enter.ensures.is c.in-Some.ensures.framed c.len-start.result
    c.extend_from_slice.new.self.items c.put_boxes.new.out.items
    (omega (arith, c.len-start.ensures, c.loop-one.out.ok.0)) c.in_ok-extend_from_slice-in-Enter.ensures.items
    (c.in_ok-put_boxes-in-Enter.ensures.edited to by) c.in_err-end_box-in-Enter.ensures.refused)

pub returns-in_err-end_box-in-Enter-clause-large : goal.returns-in_err-end_box-in-Enter-clause-large
returns-in_err-end_box-in-Enter-clause-large t c = λ to by of_offsets.
    let p = err_from_is_err_and c.from_residual-in_err-end_box-in-Enter.result
    c.from_residual-in_err-end_box-in-Enter.ensures.1 in
    let one = c.in-Some.one in
    let adds = c.in_ok-put_boxes-in-Enter.ensures.edited to by in
    let why = c.in_err-end_box-in-Enter.ensures.refused in
    rw (p.1, p.2) (way_not_moved c.args.bytes.now c.loop-one.rest.now one.name one.header.now one.payload.now
    one.after.now c.in-Some.ensures.first c.loop-one.invariant.fewer c.in_err-end_box-in-Enter.field-0.0 to
    (c.args.level + 1) c.len-start.result c.loop-one.out.items c.extend_from_slice.new.self.items
    c.put_boxes.new.out.items adds.after (omega (arith, c.len-start.ensures, c.loop-one.out.ok.0))
    c.in_ok-extend_from_slice-in-Enter.ensures.items adds.is
    (edited_is_moved c.args.edit.now of_offsets to (base_of c.args.moves.now) (c.args.level + 1) c.loop-one.track
    one.payload.now adds.after adds.edited) (why.0, why.1.1))

pub returns-in_err-put_step-in_default-step : goal.returns-in_err-put_step-in_default-step
returns-in_err-put_step-in_default-step t c =
    let p = err_from_is_err_and c.from_residual-in_err-put_step-in_default-step.result
    c.from_residual-in_err-put_step-in_default-step.ensures.1 in
    let one = c.in-Some.one in
    record {
      edited = rw p.1 (λ to by. tt);
      refused = λ to by.
          rw (p.1, p.2) (step_not_edited c.args.edit.now to (base_of c.args.moves.now) c.args.level c.args.track
          c.loop-one.track c.args.bytes.now c.loop-one.rest.now c.args.out.now.items c.loop-one.out.items
          (c.loop-one.invariant.edited to by) one.name one.header.now one.payload.now one.after.now
          c.in-Some.ensures.first c.in_err-put_step-in_default-step.field-0.0 c.step.result c.step.ensures.is
          c.in_default-step.not-Enter (c.in_err-put_step-in_default-step.ensures.refused to by));
      large = λ to by of_offsets.
          rw (p.1, p.2) (box_not_moved c.args.bytes.now c.loop-one.rest.now one.name one.header.now one.payload.now
          one.after.now c.in-Some.ensures.first c.loop-one.invariant.fewer
          c.in_err-put_step-in_default-step.field-0.0
          (large_step c.args.edit.now of_offsets c.args.level one.name c.step.result
          (one.header.now ++ one.payload.now) c.in_err-put_step-in_default-step.field-0.0
          (subst (λ (h : Change). IsChangeOf c.args.level one.name h) (sym c.step.ensures.is)
          (offsets_change c.args.edit.now of_offsets c.args.level one.name c.loop-one.track))
          c.in_default-step.not-Enter (c.in_err-put_step-in_default-step.ensures.large to by)));
    }

pub loop-one-preserved : goal.loop-one-preserved
loop-one-preserved t c =
    let one = c.in-Some.one in
    let long = first_length c.loop-one.rest.now one.name one.header.now one.payload.now one.after.now
    c.in-Some.ensures.first in
    record {
      edited = λ to by.
          let upto = c.loop-one.invariant.edited to by in
          elim c.match-step.branch [
            | in-Enter+in_ok-extend_from_slice-in-Enter+in_ok-put_boxes-in-Enter+in_ok-end_box-in-Enter w ↦
                let adds = w.in_ok-put_boxes-in-Enter.ensures.edited to by in
                rw (w.out-is, c.track_after-track.ensures) (inside_edited c.args.edit.now to
                (base_of c.args.moves.now) c.args.level c.args.track c.loop-one.track c.args.bytes.now
                c.loop-one.rest.now c.args.out.now.items c.loop-one.out.items upto one.name one.header.now
                one.payload.now one.after.now c.in-Some.ensures.first w.end_box.new.out.items
                w.extend_from_slice.new.self.items w.put_boxes.new.out.items w.in-Enter.ensures.is
                w.in_ok-extend_from_slice-in-Enter.ensures.items adds
                (w.in_ok-end_box-in-Enter.ensures.sized c.loop-one.out.items one.header.now adds.after
                (omega (arith, w.len-start.ensures, c.loop-one.out.ok.0)) c.in-Some.ensures.framed))
            | in_default-step+in_ok-put_step-in_default-step w ↦
                rw (w.out-is, c.track_after-track.ensures) (step_edited c.args.edit.now to
                (base_of c.args.moves.now) c.args.level c.args.track c.loop-one.track c.args.bytes.now
                c.loop-one.rest.now c.args.out.now.items c.loop-one.out.items upto one.name one.header.now
                one.payload.now one.after.now c.in-Some.ensures.first w.put_step.new.out.items _
                c.step.ensures.is (w.in_ok-put_step-in_default-step.ensures.added to by))
          ];
      less = omega (
        arith,
        long,
        c.in-Some.ensures.header,
        c.track_after-track.ensures,
        next_track c.args.level one.name c.loop-one.track,
        c.loop-one.invariant.less,
      );
      fewer = omega (arith, c.in-Some.ensures.after, c.loop-one.invariant.fewer);
    }
