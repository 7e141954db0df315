use Rattle.std.proofs.Common.{arith}
use Rattle.mp4_remux.proofs.DataHeader.{long_header, no_header, short_header}
use Rattle.mp4_remux.proofs.rebuilt_layout.data_header.Goals as goal

pub returns-then-len-eq0 : goal.returns-then-len-eq0
returns-then-len-eq0 c = no_header c.new-header.result.items c.args.len c.new-header.ensures.items c.if-len-eq0.true

pub returns-in_default : goal.returns-in_default
returns-in_default c =
    let past = c.in_default.ensures in
    long_header c.args.len _ _ c.new-header.ensures.items c.in_ok-put_u32.ensures c.in_ok-put_u32-2.ensures
    c.in_ok-put_u64.ensures c.from.ensures (omega (arith, c.saturating_add-in_default.ensures))
    (omega (arith, past, c.saturating_add.ensures)) c.if-len-eq0.false

pub returns : goal.returns
returns c =
    let fits = c.in-Ok.ensures in
    short_header c.args.len _ _ c.new-header.ensures.items c.in_ok-put_u32-3.ensures c.in_ok-put_u32-4.ensures
    c.from-2.ensures (omega (arith, fits, c.saturating_add.ensures)) (omega (arith, fits)) c.if-len-eq0.false
