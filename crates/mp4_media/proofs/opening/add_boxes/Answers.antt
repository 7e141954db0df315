use Rattle.std.proofs.Common.{◌∙◌, refl, arith}
use Rattle.std.proofs.lemmas.Result.{err_from_is_err_and}
use Rattle.mp4_codec.specs.Cursor.{here}
use Rattle.mp4_media.specs.Walk.{next_box_at}
use Rattle.mp4_media.proofs.Walking.{scan-starts, scan-takes, scan-refuses, scan-ends, found-refused, found-all}
use Rattle.mp4_media.proofs.Walking.{box_added, none_added, refused_before}
use Rattle.mp4_media.proofs.TakingMemory.{no_boxes, box_more, taken_there}
use Rattle.mp4_media.proofs.FoundBoxes.{all_known, of_known_by, refused_too}
use Rattle.mp4_media.proofs.opening.add_boxes.Goals as goal

pub loop-init : goal.loop-init
loop-init g c =
    let reader = c.args.reader.now in
    record {
      scanning = all_known (g.S.ByteSource.contents reader.source) _
          (λ bytes. scan-starts c.args.size (here bytes reader.position) c.args.found.now c.requires.none);
      before = all_known (g.S.ByteSource.contents reader.source) _
          (λ bytes. no_boxes c.args.size bytes reader.position);
      numbered = rw c.requires.none tt;
      places = rw c.requires.none refl;
      onward = omega arith;
      contents = refl;
      can_refuse = refl;
      same_len = refl;
    }

pub returns-in_err-add_next-clause-answer : goal.returns-in_err-add_next-clause-answer
returns-in_err-add_next-clause-answer g c =
    let reader = c.args.reader.now in
    let l = c.loop in
    let p = err_from_is_err_and c.from_residual.result c.from_residual.ensures.1 in
    let next = rw (l.invariant.contents, l.invariant.can_refuse) at c.in_err-add_next.ensures.answer in
    of_known_by (g.S.ByteSource.contents reader.source) _ _ _ l.invariant.scanning next
    (λ bytes w a. rw (p.1, p.2) (refused_too (g.S.ByteSource.can_refuse reader.source) c.in_err-add_next.field-0.0 _ _
    (λ cause refused. found-refused c.args.size (here bytes reader.position) cause
    (scan-refuses c.args.size (here bytes reader.position) (here bytes l.reader.position) l.found cause
    (refused_before l.found cause (next_box_at c.args.size (here bytes l.reader.position)) refused) w)) a))

pub loop-preserved : goal.loop-preserved
loop-preserved g c =
    let reader = c.args.reader.now in
    let l = c.loop in
    let next = rw (l.invariant.contents, c.if-branch.true) at c.in_ok-add_next.ensures.answer in
    let below = c.in_ok-add_next.ensures.onward c.if-branch.true in
    let onward = c.in_ok-add_next.ensures.moved c.if-branch.true in
    record {
      scanning = of_known_by (g.S.ByteSource.contents reader.source) _ _ _ l.invariant.scanning next
          (λ bytes w a.
          let b = box_added l.found c.add_next.new.found (here bytes c.add_next.new.reader.position)
          (next_box_at c.args.size (here bytes l.reader.position)) a in
          scan-takes c.args.size (here bytes reader.position) (here bytes l.reader.position) l.found
          b.0 (here bytes c.add_next.new.reader.position) c.add_next.new.found b.1 below onward b.2 w);
      before = of_known_by (g.S.ByteSource.contents reader.source) _ _ _ l.invariant.before next
          (λ bytes w a.
          let b = box_added l.found c.add_next.new.found (here bytes c.add_next.new.reader.position)
          (next_box_at c.args.size (here bytes l.reader.position)) a in
          box_more c.args.size bytes reader.position l.reader.position c.add_next.new.reader.position b.0 w b.1);
      numbered = c.in_ok-add_next.ensures.numbered l.invariant.numbered;
      places = c.in_ok-add_next.ensures.places l.invariant.places;
      onward = omega (arith, onward, l.invariant.onward);
      contents = c.in_ok-add_next.ensures.contents ∙ l.invariant.contents;
      can_refuse = c.in_ok-add_next.ensures.can_refuse ∙ l.invariant.can_refuse;
      same_len = c.in_ok-add_next.ensures.same_len ∙ l.invariant.same_len;
    }

pub returns-clause-answer : goal.returns-clause-answer
returns-clause-answer g c =
    let reader = c.args.reader.now in
    let l = c.loop in
    let next = rw (l.invariant.contents, c.if-branch.false) at c.in_ok-add_next.ensures.answer in
    let still = c.in_ok-add_next.ensures.still c.if-branch.false in
    of_known_by (g.S.ByteSource.contents reader.source) _ _ _ l.invariant.scanning next
    (λ bytes w a.
    let none = none_added l.found c.add_next.new.found (here bytes c.add_next.new.reader.position)
    (next_box_at c.args.size (here bytes l.reader.position)) a in
    let read = scan-ends c.args.size (here bytes reader.position) (here bytes l.reader.position) l.found
    (here bytes c.add_next.new.reader.position) none.0 still w in
    rw (none.1, w.given, still) (found-all c.args.size (here bytes reader.position) w.done l.reader.position read))

pub returns-in_err-add_next-clause-memory : goal.returns-in_err-add_next-clause-memory
returns-in_err-add_next-clause-memory g c =
    let reader = c.args.reader.now in
    let l = c.loop in
    let p = err_from_is_err_and c.from_residual.result c.from_residual.ensures.1 in
    rw (p.1, p.2) (λ memory.
    of_known_by (g.S.ByteSource.contents reader.source) _ _ _ l.invariant.before
    (rw l.invariant.contents at (c.in_err-add_next.ensures.memory memory))
    (λ bytes before w. taken_there c.args.size bytes reader.position l.reader.position before w))
