use Rattle.mp4_codec.proofs.Keyed.{copied_more, none_copied}
use Rattle.mp4_codec.proofs.keyed_items.copies_of.Goals.{in-Some+in_ok-try_clone+in_ok-insert+in-Some-1}
use Rattle.mp4_codec.proofs.keyed_items.copies_of.Goals.{in-Some+in_ok-try_clone+in_ok-insert+in-None-1, in_default}
use Rattle.mp4_codec.proofs.keyed_items.copies_of.Goals as goal

pub loop-key-preserved : goal.loop-key-preserved
loop-key-preserved g c =
    let copied = copied_more g.met.K.Eq.laws c.args.items.now c.loop-key.copies c.all-key-items.result.now
    c.loop-key.key-index c.key-item.result c.loop-key-test.true c.key-item.is c.loop-key.invariant in
    let none = none_copied g.met.K.Eq.laws c.args.items.now c.loop-key.copies c.all-key-items.result.now
    c.loop-key.key-index c.key-item.result c.loop-key-test.true c.key-item.is c.loop-key.invariant in
    elim c.match-get.branch [
      | in-Some+in_ok-try_clone+in_ok-insert+in-Some-1 w ↦
          let found = rw w.in-Some.is at c.get.ensures.value in
          rw w.copies-is (copied w.insert.new.self w.in_ok-try_clone.field-0 (cc (found, w.in_ok-try_clone.ensures))
          w.in_ok-insert.ensures.updates.0)
      | in-Some+in_ok-try_clone+in_ok-insert+in-None-1 w ↦
          let found = rw w.in-Some.is at c.get.ensures.value in
          rw w.copies-is (copied w.insert.new.self w.in_ok-try_clone.field-0 (cc (found, w.in_ok-try_clone.ensures))
          w.in_ok-insert.ensures.updates.0)
      | in_default w ↦ rw w.copies-is (none (rw w.in_default.is at c.get.ensures.value))
    ]
