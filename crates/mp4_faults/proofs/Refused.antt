-- Why a container is refused: the law, and what it says of the first refused child and of a fault of the box's own.
use Rattle.std.proofs.Common.{◌≡◌, ◌≤◌, ℕ, Bool, true, false, cond, eqb, ltb, List, [], ◌∷◌, ◌++◌, Option, Some, None}
use Rattle.std.proofs.Common.{Result, Ok, Err, refl, sym, ap, subst, ◌∙◌, length, take, drop, arith, map, append_assoc}
use Rattle.std.specs.List.{AllByRecursion}
use Rattle.std.proofs.lemmas.List.{append-nil}
use Rattle.mp4_codec.specs.declared.box_type.BoxType.{BoxType}
use Rattle.mp4_codec.specs.declared.box_type.BoxType.TheVariants.{MoovBox, TrakBox, EdtsBox, MdiaBox, MinfBox, DinfBox}
use Rattle.mp4_codec.specs.declared.box_type.BoxType.TheVariants.{DrefBox, StblBox, StsdBox, Avc1Box, Hev1Box, Vp09Box}
use Rattle.mp4_codec.specs.declared.box_type.BoxType.TheVariants.{Mp4aBox, MvexBox, MoofBox, TrafBox, UdtaBox, MetaBox}
use Rattle.mp4_codec.specs.declared.box_type.BoxType.TheVariants.{IlstBox, NameBox, DayBox, CovrBox, DescBox}
use Rattle.mp4_codec.specs.Bytes.{number_at}
use Rattle.byteorder.specs.Endian.{big_number}
use Rattle.mp4_codec.specs.Cause.{Cause, invalid_data, unsupported_version, fault_of, ◌or◌, ◌>>=◌}
use Rattle.mp4_codec.specs.Children.{ChildBox, children, first_fault}
use Rattle.mp4_codec.specs.GatherLaws.{NoFault, first_fault-none}
use Rattle.mp4_meta.specs.Meta.{meta_of, meta_body, meta_with, last_handler, names_hdlr}
use Rattle.mp4_faults.specs.declared.fault_place.PathStep.{PathStep}
use Rattle.mp4_faults.specs.ByChildren.{child_fault, container_fault, looked_at, first_only, after_children}
use Rattle.mp4_faults.specs.Containers.{before_children, before_metadata, after_first, first_alone, reads_items}
use Rattle.mp4_faults.specs.Containers.{has_items, is_of_items, handler_in, reads, reads_with, read_by, read_by_table}
use Rattle.mp4_faults.specs.Containers.{read_by_other}
use Rattle.mp4_faults.specs.Inner.{InnerBox, as_child, end_of, box_within, AreWithin, outward}
use Rattle.mp4_faults.specs.Innermost.{IsFirstRefused, NoneRefused, childless, sole, all, IsOwnFault, Leads}
use Rattle.mp4_faults.specs.Innermost.{IsInnermost}
use Rattle.mp4_faults.specs.Refusal.{payload_fault, table_fault, other_fault}
use Rattle.mp4_faults.proofs.Children.{inside-of, walks-on, walks-none}
use Rattle.mp4_faults.proofs.Looking.{within-more, leads-more}
use Rattle.mp4_faults.proofs.Readers.{moov-by, trak-by, edts-by, mdia-by, minf-by, stbl-by, mvex-by, moof-by, traf-by}
use Rattle.mp4_faults.proofs.Readers.{ilst-by}
use Rattle.mp4_faults.proofs.Entries.{dinf-by, dref-by, stsd-by, avc1-by, hev1-by, vp09-by, mp4a-by}
use Rattle.mp4_faults.proofs.Metadata.{udta-by, name-by, day-by, covr-by, desc-by, meta-from}

-- the first four bytes, as a number
abbrev first-number : List ℕ → ℕ
first-number payload = big_number 4 (take 4 payload)

-- where the children of metadata begin, they are its body
body-of : (payload : List ℕ) (start : ℕ) → before_metadata payload ≡ Some start
    → meta_body payload ≡ Ok (drop start payload)
unfolding meta_body number_at
body-of payload start e = by (ltb (length payload) 4) e
  where
    by-form : (zero hdlr : Bool) → cond zero (Some 4) (cond hdlr (Some 0) None) ≡ Some start
        → cond zero (Ok (drop 4 payload)) (cond hdlr (Ok payload)
        (number_at 1 payload >>= λ version. Err (unsupported_version MetaBox version.0))) ≡ Ok (drop start payload)
    by-form true hdlr e = let same : 4 ≡ start = cc in ap (λ (n : ℕ). Ok (drop n payload)) same
    by-form false true e = let same : 0 ≡ start = cc in ap (λ (n : ℕ). Ok (drop n payload)) same
    by-form false false e = absurd cc

    by : (few : Bool)
        → after_first (cond few (Err invalid_data) (Ok (first-number payload, drop 4 payload))) ≡ Some start
        → (◌>>=◌ {A = ℕ × List ℕ} {B = List ℕ} (cond few (Err invalid_data) (Ok (first-number payload, drop 4 payload)))
        (λ f. cond (eqb f.0 0) (Ok f.1) (cond (names_hdlr f.1) (Ok payload)
        (number_at 1 payload >>= λ version. Err (unsupported_version MetaBox version.0)))))
        ≡ Ok (drop start payload)
    by true e = absurd cc
    by false e = by-form (eqb (first-number payload) 0) (names_hdlr (drop 4 payload)) e

-- and where they begin, their handlers say whether items are looked at
items-are : (payload : List ℕ) (start : ℕ) → before_metadata payload ≡ Some start
    → reads_items MetaBox payload ≡ is_of_items (handler_in (drop start payload))
unfolding reads_items
items-are payload start e = ap (λ (o : Option ℕ). has_items o payload) e

-- metadata whose children begin nowhere is refused
no-body : (payload : List ℕ) → before_metadata payload ≡ None → fault_of (meta_body payload) ≡ None → ⊥
unfolding meta_body number_at
no-body payload e read = by (ltb (length payload) 4) e read
  where
    refuses : {A : Type 0} (B : Type 0) (r : Result A Cause) (c : A → Cause)
        → fault_of (◌>>=◌ {A = A} {B = B} r (λ x. Err (c x))) ≡ None → ⊥
    refuses B (Ok x) c f = absurd cc
    refuses B (Err d) c f = absurd cc

    by-form : (zero hdlr : Bool) → ◌≡◌ {A = Option ℕ} (cond zero (Some 4) (cond hdlr (Some 0) None)) None
        → fault_of (cond zero (Ok (drop 4 payload)) (cond hdlr (Ok payload)
        (number_at 1 payload >>= λ version. Err (unsupported_version MetaBox version.0)))) ≡ None → ⊥
    by-form true hdlr e f = absurd cc
    by-form false true e f = absurd cc
    by-form false false e f =
        refuses (List ℕ) (number_at 1 payload) (λ version. unsupported_version MetaBox version.0) f

    by : (few : Bool)
        → after_first (cond few (Err invalid_data) (Ok (first-number payload, drop 4 payload))) ≡ None
        → fault_of (◌>>=◌ {A = ℕ × List ℕ} {B = List ℕ}
        (cond few (Err invalid_data) (Ok (first-number payload, drop 4 payload)))
        (λ f. cond (eqb f.0 0) (Ok f.1) (cond (names_hdlr f.1) (Ok payload)
        (number_at 1 payload >>= λ version. Err (unsupported_version MetaBox version.0))))) ≡ None → ⊥
    by true e f = absurd cc
    by false e f = by-form (eqb (first-number payload) 0) (names_hdlr (drop 4 payload)) e f

first-step : {A B : Type 0} (r : Result A Cause) (next : A → Result B Cause) → fault_of (r >>= next) ≡ None
    → fault_of r ≡ None
first-step (Ok x) next e = refl
first-step (Err c) next e = absurd cc

-- A box that isn't refused and whose children are looked at has them from some place on; but for a sound's sample
-- entry of a version whose children aren't read.
pub begins-somewhere : (name child : BoxType) (payload : List ℕ) → reads name child ≡ true
    → payload_fault name payload ≡ None → (name ≡ Mp4aBox → ⊥) → before_children name payload ≡ None → ⊥
unfolding before_children read_by read_by_table read_by_other payload_fault table_fault other_fault meta_of
begins-somewhere MetaBox child payload read e not none =
    no-body payload none (first-step (meta_body payload) (λ body. last_handler body >>= meta_with body) e)
begins-somewhere Mp4aBox child payload read e not none = not refl
begins-somewhere other child payload read e not none = absurd cc

-- the same place
at-start : (name : BoxType) (payload : List ℕ) (k start : ℕ) → k ≡ start
    → payload_fault name payload ≡ container_fault name payload (drop k payload)
    → payload_fault name payload ≡ container_fault name payload (drop start payload)
at-start name payload k start same is = is ∙ ap (λ (n : ℕ). container_fault name payload (drop n payload)) same

some-place : (k start : ℕ) → ◌≡◌ {A = Option ℕ} (Some k) (Some start) → k ≡ start
some-place k start e = cc

-- Why a container is refused whose children begin at a place within its payload.
pub container-by : (name : BoxType) (payload : List ℕ) (start : ℕ) → before_children name payload ≡ Some start
    → start ≤ length payload → payload_fault name payload ≡ container_fault name payload (drop start payload)
unfolding before_children
container-by MoovBox payload start e inside = at-start MoovBox payload 0 start (some-place 0 start e) (moov-by payload)
container-by TrakBox payload start e inside = at-start TrakBox payload 0 start (some-place 0 start e) (trak-by payload)
container-by EdtsBox payload start e inside = at-start EdtsBox payload 0 start (some-place 0 start e) (edts-by payload)
container-by MdiaBox payload start e inside = at-start MdiaBox payload 0 start (some-place 0 start e) (mdia-by payload)
container-by MinfBox payload start e inside = at-start MinfBox payload 0 start (some-place 0 start e) (minf-by payload)
container-by DinfBox payload start e inside = at-start DinfBox payload 0 start (some-place 0 start e) (dinf-by payload)
container-by StblBox payload start e inside = at-start StblBox payload 0 start (some-place 0 start e) (stbl-by payload)
container-by MvexBox payload start e inside = at-start MvexBox payload 0 start (some-place 0 start e) (mvex-by payload)
container-by MoofBox payload start e inside = at-start MoofBox payload 0 start (some-place 0 start e) (moof-by payload)
container-by TrafBox payload start e inside = at-start TrafBox payload 0 start (some-place 0 start e) (traf-by payload)
container-by UdtaBox payload start e inside = at-start UdtaBox payload 0 start (some-place 0 start e) (udta-by payload)
container-by IlstBox payload start e inside = at-start IlstBox payload 0 start (some-place 0 start e) (ilst-by payload)
container-by NameBox payload start e inside = at-start NameBox payload 0 start (some-place 0 start e) (name-by payload)
container-by DayBox payload start e inside = at-start DayBox payload 0 start (some-place 0 start e) (day-by payload)
container-by CovrBox payload start e inside = at-start CovrBox payload 0 start (some-place 0 start e) (covr-by payload)
container-by DescBox payload start e inside = at-start DescBox payload 0 start (some-place 0 start e) (desc-by payload)
container-by DrefBox payload start e inside =
    let same = some-place 8 start e in
    at-start DrefBox payload 8 start same (dref-by payload (omega (arith, same, inside)))
container-by StsdBox payload start e inside =
    let same = some-place 8 start e in
    at-start StsdBox payload 8 start same (stsd-by payload (omega (arith, same, inside)))
container-by Avc1Box payload start e inside =
    let same = some-place 78 start e in
    at-start Avc1Box payload 78 start same (avc1-by payload (omega (arith, same, inside)))
container-by Hev1Box payload start e inside =
    let same = some-place 78 start e in
    at-start Hev1Box payload 78 start same (hev1-by payload (omega (arith, same, inside)))
container-by Vp09Box payload start e inside =
    let same = some-place 78 start e in
    at-start Vp09Box payload 78 start same (vp09-by payload (omega (arith, same, inside)))
container-by Mp4aBox payload start e inside = mp4a-by payload start e inside
container-by MetaBox payload start e inside =
    meta-from (drop start payload) payload (body-of payload start e) (items-are payload start e)
container-by other payload start e inside = absurd cc

-- THE FIRST REFUSED CHILD

first-of : (fault : ChildBox → Option Cause) (bs : List InnerBox) (b : InnerBox) (others : List ChildBox)
    (tail : List ℕ) (c : Cause) → AllByRecursion (λ x. fault (as_child x) ≡ None) bs → fault (as_child b) ≡ Some c
    → first_fault fault (map as_child (bs ++ b ∷ []) ++ others) tail ≡ Some c
unfolding first_fault
first-of fault [] b others tail c none is = rw is refl
first-of fault (x ∷ xs) b others tail c none is = rw none.0 (first-of fault xs b others tail c none.1 is)

none-of : (fault : ChildBox → Option Cause) (bs : List InnerBox) → AllByRecursion (λ x. fault (as_child x) ≡ None) bs
    → NoFault fault (map as_child bs)
none-of fault [] none = tt
none-of fault (x ∷ xs) none = (none.0, none-of fault xs none.1)

module _ (name : BoxType) (payload : List ℕ) where
  abbrev fault : ChildBox → Option Cause
  fault = child_fault name payload

  within : (bs : List InnerBox) (b : InnerBox) (place next : ℕ) → AreWithin payload place (bs ++ b ∷ []) next
      → place ≤ length payload
  unfolding AreWithin
  within [] b place next are =
      let w = inside-of payload place b are.0 in let h = w.header in let e = w.end in omega (arith, h, e)
  within (x ∷ xs) b place next are =
      let w = inside-of payload place x are.0 in let h = w.header in let e = w.end in omega (arith, h, e)

  -- the children up to a refused one, and where they begin
  pub record UpTo (start : ℕ) (bs : List InnerBox) (b : InnerBox) : Type 0 where
    pub inside : start ≤ length payload
    pub others : List ChildBox
    pub are : (children (drop start payload)).0 ≡ map as_child (bs ++ b ∷ []) ++ others

  up-to : (start place : ℕ) (bs : List InnerBox) (b : InnerBox) → AreWithin payload start bs place
      → box_within payload place ≡ Some b → UpTo start bs b
  unfolding children
  up-to start place bs b are is =
      let more = within-more payload start place bs b are is in
      let inside = within bs b start (end_of b) more in
      let w = walks-on payload (bs ++ b ∷ []) start (end_of b) (length (drop start payload)) inside (omega arith)
      more in
      record { inside = inside; others = _; are = w.is }

  only : (list : List ChildBox × List ℕ) (c : ChildBox) (others : List ChildBox) → list.0 ≡ c ∷ others
      → first_only list ≡ (c ∷ [], [])
  only list c others e = ap (λ (cs : List ChildBox). first_only (cs, list.1)) e

  only-none : (list : List ChildBox × List ℕ) → list.0 ≡ [] → first_only list ≡ ([], list.1)
  only-none list e = ap (λ (cs : List ChildBox). first_only (cs, list.1)) e

  -- A box is refused for the same cause as the first of its children that is.
  pub first-refused : (step : PathStep) (b : InnerBox) (c : Cause) → IsFirstRefused name payload step b c
      → payload_fault name payload ≡ Some c
  unfolding first_fault
  first-refused step b c first =
      let p = first.passes in
      let u = up-to p.start first.place first.before b p.are first.is in
      container-by name payload p.start p.starts u.inside
      ∙ ap (λ (o : Option Cause). o or after_children name (drop p.start payload)) (by (first_alone name) refl)
    where
      by : (alone : Bool) → first_alone name ≡ alone
          → first_fault fault
          (cond alone (first_only (children (drop first.passes.start payload)))
          (children (drop first.passes.start payload))).0
          (cond alone (first_only (children (drop first.passes.start payload)))
          (children (drop first.passes.start payload))).1
          ≡ Some c
      by false e =
          let p = first.passes in
          let u = up-to p.start first.place first.before b p.are first.is in
          ap (λ (cs : List ChildBox). first_fault fault cs (children (drop first.passes.start payload)).1) u.are
          ∙ first-of fault first.before b u.others (children (drop first.passes.start payload)).1 c p.faultless
          first.refused
      by true e =
          let p = first.passes in
          let u = up-to p.start first.place first.before b p.are first.is in
          let none : first.before ≡ [] = p.alone e in
          let are = u.are ∙ ap (λ (bs : List InnerBox). map as_child (bs ++ b ∷ []) ++ u.others) none in
          ap (λ (x : List ChildBox × List ℕ). first_fault fault x.0 x.1)
          (only (children (drop first.passes.start payload)) (as_child b) u.others are)
          ∙ rw first.refused refl

  -- THE BOX'S OWN FAULT

  same-start : (k start : ℕ) → before_children name payload ≡ Some k → before_children name payload ≡ Some start
      → k ≡ start
  same-start k start e f = some-place k start (sym e ∙ f)

  faultless : (start : ℕ) → before_children name payload ≡ Some start → start ≤ length payload
      → NoneRefused name payload → NoFault fault (looked_at name (drop start payload)).0
  unfolding children AreWithin
  faultless start e inside (childless none) = let not = sym none ∙ e in absurd cc
  faultless start e inside (sole place b passes one is none) =
      let same = same-start passes.start start passes.starts e in
      let are : AreWithin payload start [] place = passes.are ∙ same in
      let u = up-to start place [] b are is in
      let looked : looked_at name (drop start payload) ≡ (as_child b ∷ [], []) =
      ap (λ (alone : Bool). cond alone (first_only (children (drop start payload))) (children (drop start payload))) one
      ∙ only (children (drop start payload)) (as_child b) u.others u.are in
      subst (λ (x : List ChildBox × List ℕ). NoFault fault x.0) (sym looked) (none, tt)
  faultless start e inside (all before place passes ends) =
      let same = same-start passes.start start passes.starts e in
      let are : AreWithin payload start before place =
      subst (λ (n : ℕ). AreWithin payload n before place) same passes.are in
      let w = walks-on payload before start place (length (drop start payload)) inside (omega arith) are in
      let cs : (children (drop start payload)).0 ≡ map as_child before =
      w.is ∙ ap (λ (ds : List ChildBox). map as_child before ++ ds) (walks-none payload place w.steps w.inside ends)
      ∙ append-nil (map as_child before) in
      by cs passes.faultless passes.alone (first_alone name) refl
    where
      by : (children (drop start payload)).0 ≡ map as_child before
          → AllByRecursion (λ x. fault (as_child x) ≡ None) before → (first_alone name ≡ true → before ≡ [])
          → (alone : Bool) → first_alone name ≡ alone
          → NoFault fault (cond alone (first_only (children (drop start payload))) (children (drop start payload))).0
      by cs none first false f = subst (NoFault fault) (sym cs) (none-of fault before none)
      by cs none first true f =
          subst (λ (x : List ChildBox × List ℕ). NoFault fault x.0)
          (sym (only-none (children (drop start payload))
          (cs ∙ ap (λ (bs : List InnerBox). map as_child bs) (first f)))) tt

  -- where none of its children is refused, the cause is the box's own
  pub own-fault : (c : Cause) → payload_fault name payload ≡ Some c → NoneRefused name payload
      → IsOwnFault name payload c
  own-fault c refused none = record {
    none = none;
    cause = λ start e inside.
        sym (ap (λ (o : Option Cause). o or after_children name (drop start payload))
        (first_fault-none fault (looked_at name (drop start payload)).0 (looked_at name (drop start payload)).1
        (faultless start e inside none)))
        ∙ sym (container-by name payload start e inside) ∙ refused;
  }

-- a child that is refused in its container is refused as a box of its type
refused-itself : (name : BoxType) (payload : List ℕ) (step : PathStep) (b : InnerBox) (c : Cause)
    → IsFirstRefused name payload step b c → payload_fault b.name b.payload ≡ Some c
refused-itself name payload step b c first =
    by (reads_with name (reads_items name payload) b.name) (payload_fault b.name b.payload) first.refused
  where
    by : (reads : Bool) (refusal : Option Cause) → cond reads refusal None ≡ Some c → refusal ≡ Some c
    by true refusal e = e
    by false refusal e = absurd cc

-- THE WAY TO THE INNERMOST

-- a path leads from a box that is refused for this cause to another that is, and was added to the steps before it
pub record LedTo (c : Cause) (a b : InnerBox) (before steps : List PathStep) : Type 0 where
  pub path : List PathStep
  pub leads : Leads c a path b
  pub refused : payload_fault b.name b.payload ≡ Some c
  pub added : steps ≡ before ++ path

pub led-starts : (c : Cause) (a : InnerBox) (before : List PathStep) → payload_fault a.name a.payload ≡ Some c
    → LedTo c a a before before
unfolding Leads
led-starts c a before refused =
    record { path = []; leads = refl; refused = refused; added = sym (append-nil before) }

pub led-on : (c : Cause) (a b child next : InnerBox) (before steps more : List PathStep) (step : PathStep) (d : Cause)
    → LedTo c a b before steps → IsFirstRefused b.name b.payload step child d → next ≡ outward b child
    → more ≡ steps ++ step ∷ [] → LedTo c a next before more
led-on c a b child next before steps more step d led first is e =
    let alike : ◌≡◌ {A = Option Cause} (Some d) (Some c) =
    sym (first-refused b.name b.payload step child d first) ∙ led.refused in
    let same : d ≡ c = cc in
    let here = subst (λ (x : Cause). IsFirstRefused b.name b.payload step child x) same first in
    record {
      path = led.path ++ step ∷ [];
      leads = subst (λ (x : InnerBox). Leads c a (led.path ++ step ∷ []) x) (sym is)
          (leads-more c a b led.path step child led.leads here);
      refused = ap (λ (x : InnerBox). payload_fault x.name x.payload) is
          ∙ refused-itself b.name b.payload step child c here;
      added = e ∙ ap (λ (p : List PathStep). p ++ step ∷ []) led.added
          ∙ append_assoc before led.path (step ∷ []);
    }

pub led-ends : (c : Cause) (a b : InnerBox) (before steps : List PathStep) → LedTo c a b before steps
    → NoneRefused b.name b.payload
    → (path : List PathStep) × IsInnermost c a path b × (steps ≡ before ++ path)
led-ends c a b before steps led none = (
  led.path,
  record { leads = led.leads; own = own-fault b.name b.payload c led.refused none },
  led.added,
)
