-- The handler of metadata, by its type alone and as a whole.
use Rattle.std.proofs.Common.{◌≡◌, ℕ, Bool, true, false, cond, List, Option, Some, None, Result, Ok, Err, refl, sym}
use Rattle.std.proofs.Common.{ap, subst, ◌∙◌}
use Rattle.std.specs.Int.{w32, from_be_bytes}
use Rattle.std.specs.Option.{option_map}
use Rattle.std.proofs.lemmas.Bool.{ne_eqb}
use Rattle.mp4_codec.specs.Steps.{ok_is}
use Rattle.mp4_codec.specs.declared.box_type.BoxType.TheVariants.{HdlrBox as hdlr}
use Rattle.mp4_codec.specs.declared.error.Error.{Error}
use Rattle.mp4_codec.specs.declared.four_cc.FourCC.{FourCC}
use Rattle.mp4_codec.specs.Cause.{Cause, box_not_found, ◌>>=◌, seen, unless, Answers, Gives}
use Rattle.mp4_codec.specs.Children.{ChildBox, children, gathered, first_fault, fault_in, last_of, needed}
use Rattle.mp4_codec.specs.GatherLaws.{last-seen}
use Rattle.mp4_codec.specs.Early.{Early, Shows, unless_refused, early_gathered}
use Rattle.mp4_codec.proofs.EarlyLaws.{gathered-at_once, shown-gives}
use Rattle.mp4_leaf.specs.declared.hdlr.HdlrBox.{HdlrBox}
use Rattle.mp4_leaf.specs.Hdlr.{hdlr_of}
use Rattle.mp4_meta.specs.declared.meta.OtherChildren.{OtherChildren}
use Rattle.mp4_meta.specs.Meta.{mdir, is_mdir, no_fault, others}
use Rattle.mp4_meta.specs.Meta.{handler_type_in, type_in, last_type, last_handler_type, last_handler}

-- the types of handlers are found without a request for memory
pub types_give : (bytes : List ℕ) (result : Result (Option FourCC) Error)
    → Answers (λ t. t) result (last_type bytes)
    → Shows (early_gathered (λ c. unless_refused (fault_in hdlr type_in c)) (children bytes)) result
    → Gives (λ t. t) result (last_type bytes)
types_give bytes result answers shows =
    let same = gathered-at_once (λ c. unless_refused (fault_in hdlr type_in c)) (fault_in hdlr type_in)
    (last_of hdlr type_in) (children bytes) (λ c. refl) in
    shown-gives (λ t. t) result (last_type bytes) answers (subst (λ (x : Early). Shows x result) same shows)

needed-seen : (r : Result (Option HdlrBox) Cause)
    → (seen (option_map handler_type_in) r >>= needed hdlr) ≡ seen handler_type_in (r >>= needed hdlr)
needed-seen (Ok (Some b)) = refl
needed-seen (Ok None) = refl
needed-seen (Err c) = refl

-- the type of the last handler is that of the handler
type_is : (body : List ℕ) → last_handler_type body ≡ seen handler_type_in (last_handler body)
type_is body =
    rw (last-seen hdlr hdlr_of handler_type_in (children body))
    (needed-seen (gathered (fault_in hdlr hdlr_of) (last_of hdlr hdlr_of) (children body)))

refused : (r : Result HdlrBox Cause) (c : Cause) → seen handler_type_in r ≡ Err c → r ≡ Err c
refused (Ok b) c e = absurd cc
refused (Err d) c e = let same : d ≡ c = cc in ap Err same

found : (r : Result HdlrBox Cause) (t : FourCC) → seen handler_type_in r ≡ Ok t
    → (b : HdlrBox) × (r ≡ Ok b) × (b.handler_type ≡ t)
found (Ok b) t e = (b, refl, cc)
found (Err d) t e = absurd cc

-- where no type is found there is no handler, for the same cause
pub no_handler : (body : List ℕ) (c : Cause) → last_handler_type body ≡ Err c → last_handler body ≡ Err c
no_handler body c e = refused (last_handler body) c (sym (type_is body) ∙ e)

-- where one is found it is that of the handler
pub its_handler : (body : List ℕ) (t : FourCC) → last_handler_type body ≡ Ok t
    → (b : HdlrBox) × (last_handler body ≡ Ok b) × (b.handler_type ≡ t)
its_handler body t e = found (last_handler body) t (sym (type_is body) ∙ e)

pub ruleset handlers = (no_handler, its_handler)

pub ruleset handler_types = (types_give)

-- two answers of one call are the same
pub same_type : (body : List ℕ) (t : FourCC) (b : HdlrBox) → last_handler_type body ≡ Ok t → last_handler body ≡ Ok b
    → b.handler_type ≡ t
same_type body t b e f =
    let found = its_handler body t e in
    let same : b ≡ found.0 = ok_is b found.0 (sym f ∙ found.1) in
    ap (λ (h : HdlrBox). h.handler_type) same ∙ found.2

-- a handler of another type than mdir
pub other_handler : (b : HdlrBox) (t : FourCC) (code : ℕ) → b.handler_type ≡ t → code ≡ from_be_bytes w32 t.value
    → (code ≡ mdir → ⊥) → is_mdir b ≡ false
other_handler b t code typed is other = rw typed (rw (← is) (ne_eqb code mdir other))

-- the other children, as a list and as the part that has the list
pub other_children : (list : List ChildBox × List ℕ) (parts : OtherChildren)
    → gathered no_fault (λ cs. record { children = others cs }) list ≡ Ok parts
    → gathered no_fault others list ≡ Ok parts.children
other_children list parts e = chosen (first_fault no_fault list.0 list.1) e
  where
    part : OtherChildren
    part = record { children = others list.0 }

    chosen : (refusal : Option Cause) → unless refusal (Ok part) ≡ Ok parts
        → unless refusal (Ok (others list.0)) ≡ Ok parts.children
    chosen None e = ap (λ (p : OtherChildren). Ok p.children) (ok_is part parts e)
    chosen (Some c) e = absurd cc
