-- A fragment without runs is read without memory.
use Rattle.std.proofs.Common.{◌≡◌, ◌∙◌, ℕ, List, [], Option, Some, None, Ok, Err, ap, sym, true, false, Bool, refl}
use Rattle.std.specs.Prelude.{if◌then◌else◌}
use Rattle.mp4_codec.specs.declared.box_type.BoxType.TheVariants.{TrunBox as trun}
use Rattle.mp4_codec.specs.declared.error.Error.{Error}
use Rattle.mp4_codec.specs.Cause.{Cause, unless}
use Rattle.mp4_codec.specs.Children.{ChildBox, children, is_of, all_of, first_fault, gathered}
use Rattle.mp4_codec.specs.Early.{Early, fails, succeeds, takes_memory, Shows, at_once, ◌and_then◌, early_gathered}
use Rattle.mp4_codec.proofs.EarlyLaws.{both_succeed, none_of-succeeds}
use Rattle.mp4_moof.specs.Trun.{trun_of}
use Rattle.mp4_moof.specs.declared.traf.TrafBox.{TrafBox}
use Rattle.mp4_moof.specs.declared.traf.TrafParts.{TrafParts}
use Rattle.mp4_moof.specs.Traf.{traf_child_early, traf_early, traf_fault, traf_of, traf_taken}

takes : (own : Early) (is : Bool) → (if is then own and_then takes_memory else succeeds) ≡ succeeds → is ≡ false
takes own false e = refl
takes (fails c) true e = absurd cc
takes succeeds true e = absurd cc
takes takes_memory true e = absurd cc

is_no_run : (c : ChildBox) → traf_child_early c ≡ succeeds → is_of trun c ≡ false
unfolding traf_child_early
is_no_run c e =
    let others = both_succeed _ _ e in
    let run = both_succeed _ _ others.1 in
    takes _ (is_of trun c) run.1

-- the runs of gathered children
runs_are : (payload : List ℕ) (parts : TrafParts)
    → gathered traf_fault traf_taken (children payload) ≡ Ok parts
    → parts.truns ≡ all_of trun trun_of (children payload).0
unfolding traf_taken
runs_are payload parts e = by_fault (first_fault traf_fault (children payload).0 (children payload).1) e
  where
    by_fault : (fault : Option Cause) → unless fault (Ok (traf_taken (children payload).0)) ≡ Ok parts
        → parts.truns ≡ all_of trun trun_of (children payload).0
    by_fault None e =
        let same : traf_taken (children payload).0 ≡ parts = cc in
        ap (λ (p : TrafParts). p.truns) (sym same)
    by_fault (Some c) e = absurd cc

-- A list of runs takes memory to be shared only where it has a run, for which memory was requested before: so a refusal
-- of it comes late.
pub refused_late : (payload : List ℕ) (parts : TrafParts) (e : Error)
    → gathered traf_fault traf_taken (children payload) ≡ Ok parts
    → Shows {X = TrafParts} (early_gathered traf_child_early (children payload)) (Ok parts)
    → (parts.truns ≡ [] → ⊥)
    → Shows {X = TrafBox} (traf_early payload) (Err e)
unfolding traf_early
refused_late payload parts e gathered_is shown some =
    by_early (early_gathered traf_child_early (children payload)) refl shown
  where
    by_early : (early : Early) → early_gathered traf_child_early (children payload) ≡ early
        → Shows {X = TrafParts} early (Ok parts)
        → Shows {X = TrafBox} (early and_then at_once (traf_of payload)) (Err e)
    by_early (fails c) is shown = absurd shown
    by_early takes_memory is shown = tt
    by_early succeeds is shown =
        let none = none_of-succeeds traf_child_early trun trun_of is_no_run (children payload).0 (children payload).1
        is in
        absurd (some (runs_are payload parts gathered_is ∙ none))
