use Rattle.std.proofs.Common.{arith, ℕ}
use Rattle.mp4_remux.specs.declared.reference.Reference.{Reference}
use Rattle.mp4_remux.proofs.Referring.{kind_more, kind_end, rest_of}
use Rattle.mp4_remux.proofs.reference.add_kind.Goals as goal

pub loop-rest-preserved : goal.loop-rest-preserved
loop-rest-preserved c =
    let f : ℕ → Reference = λ id. record { track_id = c.args.track_id; kind = c.args.one.now.name; to = id } in
    record {
      all = rw (c.in_ok-push.ensures.items, c.read_u32-to.ensures, rest_of 4 c.loop-rest.rest.now)
          (kind_more f c.loop-rest.rest.now c.loop-rest.list.items _
          (omega (arith, c.loop-rest-test.true)) c.loop-rest.invariant.all);
      track = c.loop-rest.invariant.track;
      kind = c.loop-rest.invariant.kind;
    }

pub returns : goal.returns
returns c = record {
  more = let f : ℕ → Reference = λ id. record { track_id = c.args.track_id; kind = c.args.one.now.name; to = id } in
      kind_end f c.loop-rest.rest.now c.loop-rest.list.items _ (omega (arith, c.loop-rest-test.false))
      c.loop-rest.invariant.all;
}
