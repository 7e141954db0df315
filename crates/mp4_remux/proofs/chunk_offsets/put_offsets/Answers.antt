use Rattle.std.proofs.Common.{◌≡◌, ◌∙◌, ◌++◌, ℕ, ap, arith}
use Rattle.byteorder.specs.Endian.{big_number}
use Rattle.mp4_remux.specs.Moved.{size_of, wide_bytes}
use Rattle.mp4_remux.proofs.Offsets.{add_next, room_next}
use Rattle.mp4_remux.proofs.Referring.{rest_of}
use Rattle.mp4_remux.proofs.chunk_offsets.put_offsets.Goals as goal

pub loop-left-preserved : goal.loop-left-preserved
loop-left-preserved c =
    rw (rest_of c.size.result c.loop-left.rest.now, c.size.ensures) (record {
      room = (room_next c.loop-left.left (size_of c.args.width) c.loop-left.rest.now
          (omega (arith, c.loop-left-test.true)) c.loop-left.invariant.room).1;
      added = λ to by.
          let is : c.moved.result ≡ to (big_number (size_of c.args.width) c.loop-left.rest.now) =
          by.each _ _ c.moved.ensures ∙ ap to c.first.ensures in
          add_next (λ (offset : ℕ). wide_bytes c.args.is_wide (to offset)) c.loop-left.left (size_of c.args.width)
          c.loop-left.rest.now c.loop-left.out.items _ _ (omega (arith, c.loop-left-test.true))
          (c.loop-left.invariant.added to by)
          (c.in_ok-put_offset.ensures.is
          ∙ ap (λ (n : ℕ). c.loop-left.out.items ++ wide_bytes c.args.is_wide n) is);
    })
