use Rattle.std.proofs.Common.{inr, rules}
use Rattle.std.proofs.lemmas.Result.{err_from_is_err_and}
use Rattle.mp4_codec.specs.Cause.{invalid_data}
use Rattle.mp4_codec.specs.Bytes.{list_at}
use Rattle.mp4_codec.proofs.ListLoop.{goes_on, ends, is_done}
use Rattle.mp4_codec.proofs.entry.Entry.read_all.Goals as goal

pub returns-in_err-item : goal.returns-in_err-item
returns-in_err-item g c =
    let read = g.Self.Entry.at c.args.version in
    let p = err_from_is_err_and c.from_residual-in_err-item.result c.from_residual-in_err-item.ensures.1 in
    let total = list_at read c.args.count c.args.fields.now in
    rw (p.1, p.2) (inr (ends read invalid_data c.loop.items.items c.args.count c.loop.counter c.loop.fields total
    c.loop-test.true c.in_err-item.ensures c.loop.invariant.read))

pub loop-preserved : goal.loop-preserved
loop-preserved g c =
    let read = g.Self.Entry.at c.args.version in
    let total = list_at read c.args.count c.args.fields.now in
    record {
      read =
          rw c.push_reserved.ensures.items
          (goes_on read c.loop.items.items c.args.count c.loop.counter c.loop.fields c.in_ok-item.item
          c.read.new.fields total
          c.loop-test.true
          c.in_ok-item.ensures c.loop.invariant.read);
      many = search rules;
      room = search rules;
    }

pub returns : goal.returns
returns g c =
    let read = g.Self.Entry.at c.args.version in
    let total = list_at read c.args.count c.args.fields.now in
    rw c.from.ensures
    (is_done read c.loop.items.items c.args.count c.loop.counter c.loop.fields total c.loop-test.false
    c.loop.invariant.read)
