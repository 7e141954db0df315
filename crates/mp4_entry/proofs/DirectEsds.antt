-- The last esds among children is found without a request for memory.
use Rattle.std.proofs.Common.{◌≡◌, Bool, true, false, cond, List, ℕ, Option, None, Result, Ok, Err, refl, subst}
use Rattle.mp4_codec.specs.declared.box_type.BoxType.TheVariants.{EsdsBox as esds}
use Rattle.mp4_codec.specs.declared.error.Error.{Error}
use Rattle.mp4_codec.specs.Cause.{Cause, Answers, Gives, fault_of}
use Rattle.mp4_codec.specs.Children.{ChildBox, is_of, children, fault_in, last_of}
use Rattle.mp4_codec.specs.Early.{Early, succeeds, Shows, at_once, unless_refused, early_last, early_gathered}
use Rattle.mp4_codec.proofs.EarlyLaws.{gathered-at_once, shown-gives}
use Rattle.mp4_entry.specs.declared.esds.EsdsBox.{EsdsBox}
use Rattle.mp4_entry.specs.Esds.{esds_of}
use Rattle.mp4_entry.specs.Mp4a.{direct_esds}

abbrev esds_early : ChildBox → Early
esds_early = early_last esds (λ payload. at_once (esds_of payload))

each_child : (c : ChildBox) → esds_early c ≡ unless_refused (fault_in esds esds_of c)
each_child c = chosen (is_of esds c) (esds_of c.1)
  where
    chosen : (b : Bool) (r : Result EsdsBox Cause)
        → cond b (at_once r) succeeds ≡ unless_refused (cond b (fault_of r) None)
    chosen true (Ok x) = refl
    chosen true (Err e) = refl
    chosen false r = refl

pub direct_gives : (bytes : List ℕ) (result : Result (Option EsdsBox) Error)
    → Answers (λ b. b) result (direct_esds bytes) → Shows (early_gathered esds_early (children bytes)) result
    → Gives (λ b. b) result (direct_esds bytes)
direct_gives bytes result answers shows =
    let same = gathered-at_once esds_early (fault_in esds esds_of) (last_of esds esds_of) (children bytes) each_child in
    shown-gives (λ b. b) result (direct_esds bytes) answers (subst (λ (x : Early). Shows x result) same shows)
