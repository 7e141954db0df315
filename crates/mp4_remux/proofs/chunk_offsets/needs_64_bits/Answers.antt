use Rattle.std.proofs.Common.{◌≡◌, ◌∙◌, true, false, sym, ap, arith}
use Rattle.std.proofs.lemmas.Bool.{lt-ltb, le-ltb}
use Rattle.byteorder.specs.Endian.{big_number}
use Rattle.mp4_remux.specs.Moved.{passes, size_of}
use Rattle.mp4_remux.proofs.Offsets.{any_here, any_later, room_next}
use Rattle.mp4_remux.proofs.Referring.{rest_of}
use Rattle.mp4_remux.proofs.chunk_offsets.needs_64_bits.Goals as goal

pub returns-then-moved-from : goal.returns-then-moved-from
returns-then-moved-from c = λ to by.
    let is : c.moved.result ≡ to (big_number (size_of c.args.width) c.loop-left.rest.now) =
    by.each _ _ c.moved.ensures ∙ ap to c.first.ensures in
    let far : passes to (big_number (size_of c.args.width) c.loop-left.rest.now) ≡ true =
    lt-ltb _ _ (omega (arith, is, c.if-moved-from.true, c.from.ensures)) in
    sym (any_here (passes to) c.loop-left.left (size_of c.args.width) c.loop-left.rest.now
    (omega (arith, c.loop-left-test.true)) far) ∙ c.loop-left.invariant.decides to by

pub loop-left-preserved : goal.loop-left-preserved
loop-left-preserved c =
    rw (rest_of c.size.result c.loop-left.rest.now, c.size.ensures) (record {
      room = (room_next c.loop-left.left (size_of c.args.width) c.loop-left.rest.now
          (omega (arith, c.loop-left-test.true)) c.loop-left.invariant.room).1;
      decides = λ to by.
          let is : c.moved.result ≡ to (big_number (size_of c.args.width) c.loop-left.rest.now) =
          by.each _ _ c.moved.ensures ∙ ap to c.first.ensures in
          let near : passes to (big_number (size_of c.args.width) c.loop-left.rest.now) ≡ false =
          le-ltb _ _ (omega (arith, is, c.if-moved-from.false, c.from.ensures)) in
          sym (any_later (passes to) c.loop-left.left (size_of c.args.width) c.loop-left.rest.now
          (omega (arith, c.loop-left-test.true)) near) ∙ c.loop-left.invariant.decides to by;
    })
