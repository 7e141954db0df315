use Rattle.std.proofs.Common.{◌≡◌, false, Ok, Err, inr, refl, rules}
use Rattle.std.proofs.lemmas.Result.{err_from_is_err_and}
use Rattle.mp4_codec.specs.Cause.{cause_of}
use Rattle.mp4_codec.specs.Children.{children}
use Rattle.mp4_meta.specs.Meta.{meta_of, meta_early, last_handler, is_mdir}
use Rattle.mp4_meta.proofs.Handlers.{no_handler, same_type, other_handler, other_children}
use Rattle.mp4_meta.proofs.meta.MetaBoxReadBox.read_payload.Goals as goal

pub returns-in_err-handler_type : goal.returns-in_err-handler_type
unfolding meta_of meta_early
returns-in_err-handler_type c =
    let p = err_from_is_err_and c.from_residual-in_err-handler_type.result
    c.from_residual-in_err-handler_type.ensures.1 in
    let none = no_handler c.in_ok-body.body.now (cause_of c.in_err-handler_type.field-0.0)
    c.in_err-handler_type.ensures in
    rw (p.1, p.2, c.in_ok-body.ensures, none) (record { value = inr refl; early = refl })

pub returns : goal.returns
unfolding meta_of meta_early
returns c =
    let handler = c.in_ok-hdlr.hdlr in
    let found : last_handler c.in_ok-body.body.now ≡ Ok handler =
    rw c.in_ok-last.ensures.value c.in_ok-hdlr.ensures in
    let typed = same_type c.in_ok-body.body.now c.in_ok-handler_type.field-0 handler c.in_ok-handler_type.ensures
    found in
    let other : is_mdir handler ≡ false = other_handler handler c.in_ok-handler_type.field-0 c.from.result typed
    c.from.ensures c.if-from-eq-MDIR.false in
    let kept = other_children
    (children c.in_ok-body.body.now) c.in_ok-children.field-0 c.in_ok-children.ensures.value in
    rw (c.in_ok-body.ensures, found, other, kept) (record { value = refl; early = tt })
