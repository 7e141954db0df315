use Rattle.std.proofs.Common.{◌∙◌, ap, arith, max, refl}
use Rattle.std.specs.Prelude.{slice_index_or}
use Rattle.mp4_boxes.specs.declared.trak.TrakBox.{TrakBox}
use Rattle.mp4_remux.specs.PlannedRebuilt.{time_after}
use Rattle.mp4_remux.specs.declared.movie_box.TrackEdit.{TrackEdit}
use Rattle.mp4_remux.proofs.RebuildEdits.{longest_more, longest_of_all, past_edits, past_tracks}
use Rattle.mp4_remux.proofs.movie_edits.longest_after.Goals as goal

pub loop-i-preserved : goal.loop-i-preserved
loop-i-preserved c = record {
  upto = omega (arith, c.loop-i-test.true);
  same = longest_more c.args.traks.now c.args.edits.now c.loop-i.i c.loop-i.longest c.max-longest.result
      c.index-traks-i.result c.index-edits-i.result c.loop-i-test.true c.if-i-edits.true c.loop-i.invariant.same
      (c.max-longest.ensures ∙ ap (λ n. max n c.loop-i.longest) (c.time_after.ensures
      ∙ ap (λ (t : TrakBox). time_after t c.index-edits-i.result) c.index-traks-i.is
      ∙ ap (λ (e : TrackEdit). time_after
      (slice_index_or c.args.traks.now c.loop-i.i c.index-traks-i.result) e) c.index-edits-i.is));
  traks_are = refl;
  edits_are = refl;
}

pub returns-else-i-edits : goal.returns-else-i-edits
returns-else-i-edits c =
    longest_of_all c.args.traks.now c.args.edits.now c.loop-i.i c.loop-i.longest c.loop-i.invariant.same
    (past_edits c.args.traks.now c.args.edits.now c.loop-i.i (omega (arith, c.if-i-edits.false)))

pub returns-after-loop-i : goal.returns-after-loop-i
returns-after-loop-i c =
    longest_of_all c.args.traks.now c.args.edits.now c.loop-i.i c.loop-i.longest c.loop-i.invariant.same
    (past_tracks c.args.traks.now c.args.edits.now c.loop-i.i (omega (arith, c.loop-i-test.false)))
