-- The headers that say ids: each track of a movie has one, and each track fragment of a movie fragment.
use Rattle.std.proofs.Common.{◌≡◌, ◌<◌, ℕ, ◌+◌, List, [], ◌∷◌, ◌++◌, length, Option, Some, None, Ok}
use Rattle.std.proofs.Common.{sym, ap, subst, ◌∙◌, arith, append_assoc}
use Rattle.std.specs.Prelude.{map}
use Rattle.mp4_codec.specs.declared.box_type.BoxType.TheVariants.{MvhdBox as mvhd, TrakBox as trak}
use Rattle.mp4_codec.specs.declared.box_type.BoxType.TheVariants.{TkhdBox as tkhd}
use Rattle.mp4_codec.specs.declared.box_type.BoxType.TheVariants.{MfhdBox as mfhd}
use Rattle.mp4_codec.specs.declared.box_type.BoxType.TheVariants.{TrafBox as traf, TfhdBox as tfhd}
use Rattle.mp4_codec.specs.Cause.{Cause}
use Rattle.mp4_codec.specs.Children.{ChildBox, children, gathered, fault_in, needed}
use Rattle.mp4_codec.specs.GatherLaws.{NoFault, gathered-taken}
use Rattle.mp4_codec.specs.Steps.{ok_is, both_steps}
use Rattle.mp4_codec.specs.WriteLaws.{or_parts}
use Rattle.mp4_moof.specs.Mfhd.{mfhd_of}
use Rattle.mp4_moof.specs.Tfhd.{tfhd_of}
use Rattle.mp4_leaf.specs.Mvhd.{mvhd_of}
use Rattle.mp4_leaf.specs.Tkhd.{tkhd_of}
use Rattle.mp4_boxes.specs.declared.moov.MoovBox.{MoovBox}
use Rattle.mp4_boxes.specs.declared.trak.TrakBox.{TrakBox}
use Rattle.mp4_boxes.specs.Moov.{moov_of, moov_fault, moov_taken}
use Rattle.mp4_boxes.specs.Trak.{trak_of, trak_fault, trak_taken}
use Rattle.mp4_moof.specs.declared.moof.MoofBox.{MoofBox}
use Rattle.mp4_moof.specs.declared.traf.TrafBox.{TrafBox}
use Rattle.mp4_moof.specs.Moof.{moof_of, moof_fault, moof_taken}
use Rattle.mp4_moof.specs.Traf.{traf_of, traf_fault, traf_taken}
use Rattle.mp4_faults.specs.Inner.{InnerBox, as_child, end_of, box_within, AreWithin}
use Rattle.mp4_faults.specs.Innermost.{count_of, names_of}
use Rattle.mp4_faults.specs.WrongId.{HasOwner}
use Rattle.mp4_faults.proofs.Looking.{within-more, map-more}
use Rattle.mp4_faults.proofs.Gathered.{all-children, some-children, gathered-whole, fault-of-part, one-of, count-all}
use Rattle.mp4_faults.proofs.Gathered.{some-needed, has-value}

-- What is taken of the children of a container.
module _ {P : Type 0} (fault : ChildBox → Option Cause) (taken : List ChildBox → P) (payload : List ℕ) (parts : P)
    (is : gathered fault taken (children payload) ≡ Ok parts) where
  -- it is taken of all, where no box is after these
  module _ (bs : List InnerBox) (end : ℕ) (are : AreWithin payload 0 bs end) (none : box_within payload end ≡ None)
    where
      all : (children payload).0 ≡ map as_child bs
      all = all-children payload bs end are none

      pub whole : NoFault fault (map as_child bs)
      whole = subst (NoFault fault) all (gathered-whole fault taken (children payload) parts is)

      pub part-is : {Q : Type 0} (view : P → Q) → view (taken (map as_child bs)) ≡ view parts
      part-is view = ap view (ap taken (sym all) ∙ gathered-taken fault taken (children payload) parts is)

  -- and each of them is without fault
  pub each : (before : List InnerBox) (place : ℕ) (b : InnerBox) → AreWithin payload 0 before place
      → box_within payload place ≡ Some b → fault (as_child b) ≡ None
  each before place b are there =
      let more = within-more payload 0 place before b are there in
      let some = some-children payload (before ++ b ∷ []) (end_of b) more in
      one-of fault (map as_child before) some.0 (as_child b)
      (subst (NoFault fault)
      (some.1 ∙ ap (λ (cs : List ChildBox). cs ++ some.0) (map-more as_child before b)
      ∙ append_assoc (map as_child before) (as_child b ∷ []) some.0)
      (gathered-whole fault taken (children payload) parts is))

-- A track of a movie fragment has a header.
traf-fault-in : (c : ChildBox) → traf_fault c ≡ None → fault_in tfhd tfhd_of c ≡ None
unfolding traf_fault
traf-fault-in c none = (or_parts (fault_in tfhd tfhd_of c) _ none).0

moof-fault-in : (c : ChildBox) → moof_fault c ≡ None → fault_in traf traf_of c ≡ None
unfolding moof_fault
moof-fault-in c none = (or_parts (fault_in mfhd mfhd_of c) (fault_in traf traf_of c) none).1

has-tfhd : (payload : List ℕ) (t : TrafBox) → traf_of payload ≡ Ok t → (bs : List InnerBox) (end : ℕ)
    → AreWithin payload 0 bs end → box_within payload end ≡ None → count_of tfhd (names_of bs) ≡ 0 → ⊥
unfolding traf_of traf_taken
has-tfhd payload t e bs end are none =
    let one = both_steps (gathered traf_fault traf_taken (children payload)) _ t e in
    let two = both_steps (needed tfhd one.0.tfhd) _ t one.2 in
    let header = part-is traf_fault traf_taken payload one.0 one.1 bs end are none (λ p. p.tfhd) in
    some-needed tfhd tfhd_of bs two.0
    (fault-of-part traf_fault (fault_in tfhd tfhd_of) (map as_child bs) traf-fault-in
    (whole traf_fault traf_taken payload one.0 one.1 bs end are none))
    (ap (needed tfhd) header ∙ two.1)

-- each track fragment of a movie fragment says its id
pub of-fragment : (payload : List ℕ) (m : MoofBox) → moof_of payload ≡ Ok m → (i : ℕ) → i < length m.trafs
    → HasOwner payload traf (i + 1) tfhd
unfolding moof_of moof_taken
of-fragment payload m e i below =
    let one = both_steps (gathered moof_fault moof_taken (children payload)) _ m e in
    let two = both_steps (needed mfhd one.0.mfhd) _ m one.2 in
    let same = ok_is (record { mfhd = two.0; trafs = one.0.trafs }) m two.2 in
    record {
      counted = omega arith;
      enough = λ bs end are none.
          let count = count-all traf traf_of bs
          (fault-of-part moof_fault (fault_in traf traf_of) (map as_child bs) moof-fault-in
          (whole moof_fault moof_taken payload one.0 one.1 bs end are none)) in
          let long = part-is moof_fault moof_taken payload one.0 one.1 bs end are none (λ p. length p.trafs) in
          let own = ap (λ (x : MoofBox). length x.trafs) same in
          omega (arith, count, long, own, below);
      headed = λ before place b are there named bs end inner none zero.
          let value = has-value traf traf_of (as_child b) named
          (moof-fault-in (as_child b) (each moof_fault moof_taken payload one.0 one.1 before place b are there)) in
          has-tfhd b.payload value.0 value.1 bs end inner none zero;
    }

-- A track of a movie has a header.
trak-fault-in : (c : ChildBox) → trak_fault c ≡ None → fault_in tkhd tkhd_of c ≡ None
unfolding trak_fault
trak-fault-in c none = (or_parts (fault_in tkhd tkhd_of c) _ none).0

moov-fault-in : (c : ChildBox) → moov_fault c ≡ None → fault_in trak trak_of c ≡ None
unfolding moov_fault
moov-fault-in c none =
    (or_parts (fault_in trak trak_of c) _ (or_parts (fault_in mvhd mvhd_of c) _ none).1).0

has-tkhd : (payload : List ℕ) (t : TrakBox) → trak_of payload ≡ Ok t → (bs : List InnerBox) (end : ℕ)
    → AreWithin payload 0 bs end → box_within payload end ≡ None → count_of tkhd (names_of bs) ≡ 0 → ⊥
unfolding trak_of trak_taken
has-tkhd payload t e bs end are none =
    let one = both_steps (gathered trak_fault trak_taken (children payload)) _ t e in
    let two = both_steps (needed tkhd one.0.tkhd) _ t one.2 in
    let header = part-is trak_fault trak_taken payload one.0 one.1 bs end are none (λ p. p.tkhd) in
    some-needed tkhd tkhd_of bs two.0
    (fault-of-part trak_fault (fault_in tkhd tkhd_of) (map as_child bs) trak-fault-in
    (whole trak_fault trak_taken payload one.0 one.1 bs end are none))
    (ap (needed tkhd) header ∙ two.1)

-- each track of a movie says its id
pub of-movie : (payload : List ℕ) (m : MoovBox) → moov_of payload ≡ Ok m → (i : ℕ) → i < length m.traks
    → HasOwner payload trak (i + 1) tkhd
unfolding moov_of moov_taken
of-movie payload m e i below =
    let one = both_steps (gathered moov_fault moov_taken (children payload)) _ m e in
    let two = both_steps (needed mvhd one.0.mvhd) _ m one.2 in
    let p = one.0 in
    let same = ok_is (record { mvhd = two.0; traks = p.traks; mvex = p.mvex; meta = p.meta; udta = p.udta }) m two.2 in
    record {
      counted = omega arith;
      enough = λ bs end are none.
          let count = count-all trak trak_of bs
          (fault-of-part moov_fault (fault_in trak trak_of) (map as_child bs) moov-fault-in
          (whole moov_fault moov_taken payload one.0 one.1 bs end are none)) in
          let long = part-is moov_fault moov_taken payload one.0 one.1 bs end are none (λ p. length p.traks) in
          let own = ap (λ (x : MoovBox). length x.traks) same in
          omega (arith, count, long, own, below);
      headed = λ before place b are there named bs end inner none zero.
          let value = has-value trak trak_of (as_child b) named
          (moov-fault-in (as_child b) (each moov_fault moov_taken payload one.0 one.1 before place b are there)) in
          has-tkhd b.payload value.0 value.1 bs end inner none zero;
    }
