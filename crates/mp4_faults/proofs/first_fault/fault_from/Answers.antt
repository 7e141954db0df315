use Rattle.std.proofs.Common.{◌∙◌, refl}
use Rattle.mp4_media.proofs.FoundBoxes.{all_known, of_known_by}
use Rattle.mp4_faults.proofs.Lacking.{ends-file}
use Rattle.mp4_faults.proofs.Walked.{of_three, walk-starts, walk-takes, says-fault, says-end}
use Rattle.mp4_faults.proofs.first_fault.fault_from.Goals as goal

pub loop-open_type-init : goal.loop-open_type-init
loop-open_type-init g c =
    let reader = c.args.reader.now in
    record {
      walked = all_known (g.S.ByteSource.contents reader.source) _
          (λ bytes. walk-starts c.args.size bytes reader.position c.args.seen.now c.requires.none);
      contents = refl;
      can_refuse = refl;
      same_len = refl;
    }

pub loop-open_type-preserved : goal.loop-open_type-preserved
loop-open_type-preserved g c =
    let reader = c.args.reader.now in
    let l = c.loop-open_type in
    let next = rw (c.in-Faultless.is, l.invariant.contents) at c.in_ok-next_box.ensures.answer in
    record {
      walked = of_known_by (g.S.ByteSource.contents reader.source) _ _ _ l.invariant.walked next
          (λ bytes w a. walk-takes c.args.size bytes reader.position l.reader.position c.next_box.new.reader.position
          l.seen c.next_box.new.seen a.0 w a.1 a.2);
      contents = c.in_ok-next_box.ensures.contents ∙ l.invariant.contents;
      can_refuse = c.in_ok-next_box.ensures.can_refuse ∙ l.invariant.can_refuse;
      same_len = c.in_ok-next_box.ensures.same_len ∙ l.invariant.same_len;
    }

pub returns-in-Faulty : goal.returns-in-Faulty
returns-in-Faulty g c =
    let reader = c.args.reader.now in
    let l = c.loop-open_type in
    let next = rw (c.in-Faulty.is, l.invariant.contents) at c.in_ok-next_box.ensures.answer in
    of_known_by (g.S.ByteSource.contents reader.source) _ _ _ l.invariant.walked next
    (λ bytes w fault. says-fault c.args.size bytes reader.position l.seen l.reader.position w c.in-Faulty.fault fault
    (g.S.ByteSource.can_refuse reader.source))

pub returns-in-End : goal.returns-in-End
returns-in-End g c =
    let reader = c.args.reader.now in
    let l = c.loop-open_type in
    let next = rw (c.in-End.is, l.invariant.contents) at c.in_ok-next_box.ensures.answer in
    let end = rw (
      c.in_ok-next_box.ensures.contents,
      l.invariant.contents,
      c.in_ok-next_box.ensures.can_refuse,
      l.invariant.can_refuse,
      c.position-place.ensures,
    ) at c.fault_at_end.ensures in
    of_three (g.S.ByteSource.contents reader.source) _ _ _ _ l.invariant.walked next end
    (λ bytes w a told.
    let at = rw (a.1, a.2) at told reader.position w.boxes in
    says-end c.args.size bytes reader.position w.boxes l.reader.position w.are
    (ends-file c.args.size bytes l.reader.position c.in-End.open_type a.0) (g.S.ByteSource.can_refuse reader.source)
    c.fault_at_end.result (at w.are a.0 w.is))
