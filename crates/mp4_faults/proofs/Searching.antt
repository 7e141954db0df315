-- The search for a child of a type in a payload.
use Rattle.std.proofs.Common.{◌≡◌, ◌≤◌, ◌<◌, ℕ, ◌+◌, ◌*◌, Bool, cond, List, [], ◌∷◌, ◌++◌, Option, Some}
use Rattle.std.proofs.Common.{None, Result, Ok, Err, inl, inr, drop, length, ◌-◌, ◌^◌, refl, sym, ap, subst, ◌∙◌, arith}
use Rattle.std.specs.Prelude.{count_by, ◌==◌}
use Rattle.std.proofs.lemmas.Bool.{ne_eqb, eq-eqb}
use Rattle.std.proofs.lemmas.List.{length-drop, length-take-le}
use Rattle.std.proofs.lemmas.List.Sums.{sum_by-append}
use Rattle.mp4_codec.specs.declared.box_type.BoxType.{BoxType}
use Rattle.mp4_codec.specs.BoxType.{code_of}
use Rattle.mp4_codec.specs.declared.header.BoxHeader.{BoxHeader}
use Rattle.mp4_codec.specs.declared.error.Error.{Error}
use Rattle.mp4_codec.specs.declared.error.Error.TheVariants.{OutOfMemory}
use Rattle.mp4_codec.specs.Cursor.{Cursor, header_at, here}
use Rattle.mp4_codec.specs.Steps.{ok_is}
use Rattle.mp4_source.specs.Answers.{OnMp4, RefusesRead}
use Rattle.mp4_source.specs.declared.file_error.FileError.{FileError}
use Rattle.mp4_source.specs.declared.file_error.FileError.TheVariants.{Mp4, Io}
use Rattle.mp4_media.specs.FileGrammar.{between}
use Rattle.mp4_faults.specs.declared.top_level.Payload.{Payload}
use Rattle.mp4_faults.specs.declared.wrong_id.IdPlace.{IdPlace}
use Rattle.mp4_faults.specs.declared.wrong_id.IdHeader.{IdHeader}
use Rattle.mp4_faults.specs.TopLevel.{IsUnread}
use Rattle.mp4_faults.proofs.Stepping.{IsWhole}
use Rattle.mp4_faults.specs.declared.fault_place.PathStep.{PathStep}
use Rattle.mp4_faults.specs.declared.child.PlacedBox.{PlacedBox}
use Rattle.mp4_faults.specs.Inner.{InnerBox, inner, end_of, box_within, AreWithin}
use Rattle.mp4_faults.specs.Innermost.{count_of, names_of}
use Rattle.mp4_faults.specs.WrongId.{IsStepTo, IsNthOf, IsLastOf, HasFewer, HasOwner, FindsLast}
use Rattle.mp4_faults.specs.WrongId.{FindsWithin, FindsHeader, HasHeader, IsLost, IsWithinBox}
use Rattle.mp4_faults.proofs.Looking.{within-more, names-more}

module _ (name : BoxType) where
  abbrev is_wanted : BoxType → Bool
  is_wanted t = code_of t == code_of name

  count-more : (bs : List InnerBox) (b : InnerBox)
      → count_of name (names_of (bs ++ b ∷ [])) ≡ count_of name (names_of bs) + cond (is_wanted b.name) 1 0
  count-more bs b =
      ap (count_of name) (names-more bs b)
      ∙ sum_by-append (λ t. cond (is_wanted t) 1 0) (names_of bs) (b.name ∷ [])
      ∙ omega arith

  -- boxes of another name with the same code are counted alike
  same-count : (t : BoxType) → code_of t ≡ code_of name → (names : List BoxType)
      → count_of t names ≡ count_of name names
  same-count t e names = ap (λ (c : ℕ). count_by (λ (u : BoxType). code_of u == c) names) e

  module _ (payload : List ℕ) where
    -- the children up to a place, among which so many are of the type
    pub record Searched (place count : ℕ) : Type 0 where
      pub before : List InnerBox
      pub are : AreWithin payload 0 before place
      pub count_is : count ≡ count_of name (names_of before)
      pub few : 8 * count ≤ place

    pub search-starts : Searched 0 0
    unfolding AreWithin
    search-starts = record { before = []; are = refl; count_is = refl; few = omega arith }

    module _ (place count : ℕ) (b : InnerBox) (s : Searched place count) (is : box_within payload place ≡ Some b)
        (at : b.place ≡ place) (onward : place + 8 ≤ b.from) where
      -- one that is of the type
      module _ (named : code_of b.name ≡ code_of name) where
        one : ◌≡◌ {A = ℕ} (cond (is_wanted b.name) 1 0) 1
        one = rw (named, eq-eqb (code_of name) (code_of name) refl) refl

        pub search-counts : Searched (end_of b) (count + 1)
        search-counts = record {
          before = s.before ++ b ∷ [];
          are = within-more payload 0 place s.before b s.are is;
          count_is =
              ap (λ n. n + 1) s.count_is
              ∙ sym (count-more s.before b ∙ ap (λ n. count_of name (names_of s.before) + n) one);
          few = let few = s.few in omega (arith, few, onward);
        }

        pub step-there : IsStepTo payload (record { name = b.name; number = count + 1 }) b
        step-there = record {
          before = s.before;
          place = place;
          are = s.are;
          is = is;
          step_is = ap (λ (n : ℕ).
              let step : PathStep = record { name = b.name; number = n + 1 } in step)
              (s.count_is ∙ sym (same-count b.name named (names_of s.before)));
        }

        pub search-finds : (number : ℕ) → count + 1 ≡ number
            → IsNthOf payload name number (record { name = b.name; number = number }) b
        search-finds number e = record {
          leads = rw (← e) step-there;
          named = named;
          numbered = refl;
        }

      -- one of another type
      pub search-passes : (code_of b.name ≡ code_of name → ⊥) → Searched (end_of b) count
      search-passes other =
          let none : ◌≡◌ {A = ℕ} (cond (is_wanted b.name) 1 0) 0 =
          rw (ne_eqb (code_of b.name) (code_of name) other) refl in
          record {
            before = s.before ++ b ∷ [];
            are = within-more payload 0 place s.before b s.are is;
            count_is =
                s.count_is
                ∙ sym (count-more s.before b ∙ ap (λ n. count_of name (names_of s.before) + n) none ∙ omega arith);
            few = let few = s.few in omega (arith, few, onward);
          }

    -- this box is the last of the type up to a place
    pub record IsLastSoFar (place : ℕ) (step : PathStep) (b : InnerBox) : Type 0 where
      pub leads : IsStepTo payload step b
      pub named : code_of b.name ≡ code_of name
      pub after : List InnerBox
      pub are : AreWithin payload (end_of b) after place
      pub none : count_of name (names_of after) ≡ 0

    -- what is known of the last of the type up to a place, among so many
    abbrev pub LastSoFar : ℕ → ℕ → Option (PathStep × PlacedBox) → Type 0
    LastSoFar place count None = count ≡ 0
    LastSoFar place count (Some x) = IsLastSoFar place x.0 (inner x.1)

    pub last-ends : (place : ℕ) (step : PathStep) (b : InnerBox) → IsLastSoFar place step b
        → box_within payload place ≡ None → IsLastOf payload name step b
    last-ends place step b l ends = record {
      leads = l.leads;
      named = l.named;
      after = l.after;
      end = place;
      are = l.are;
      ends = ends;
      none = l.none;
    }

    pub last-starts : (place : ℕ) (step : PathStep) (b : InnerBox) → IsStepTo payload step b
        → code_of b.name ≡ code_of name → end_of b ≡ place → IsLastSoFar place step b
    unfolding AreWithin
    last-starts place step b leads named e = record {
      leads = leads;
      named = named;
      after = [];
      are = sym e;
      none = refl;
    }

    last-passes : (place : ℕ) (step : PathStep) (l b : InnerBox) → IsLastSoFar place step l
        → box_within payload place ≡ Some b
        → (code_of b.name ≡ code_of name → ⊥) → IsLastSoFar (end_of b) step l
    last-passes place step l b s is other =
        let none : ◌≡◌ {A = ℕ} (cond (is_wanted b.name) 1 0) 0 =
        rw (ne_eqb (code_of b.name) (code_of name) other) refl in
        record {
          leads = s.leads;
          named = s.named;
          after = s.after ++ b ∷ [];
          are = within-more payload (end_of l) place s.after b s.are is;
          none = count-more s.after b ∙ rw (s.none, none) refl;
        }

    pub last-stays : (place count : ℕ) (last : Option (PathStep × PlacedBox)) (b : InnerBox)
        → LastSoFar place count last → box_within payload place ≡ Some b
        → (code_of b.name ≡ code_of name → ⊥) → LastSoFar (end_of b) count last
    last-stays place count None b s is other = s
    last-stays place count (Some x) b s is other = last-passes place x.0 (inner x.1) b s is other

    -- what is known where no box is left
    pub has-fewer : (place count number : ℕ) → Searched place count → box_within payload place ≡ None
        → (0 < number → count < number) → HasFewer payload name number
    has-fewer place count number s none few = record {
      all = s.before;
      end = place;
      are = s.are;
      ends = none;
      few = λ some. let fewer = few some in omega (arith, fewer, s.count_is);
    }

    pub last-found : (place count : ℕ) (last : Option (PathStep × PlacedBox)) → Searched place count
        → LastSoFar place count last → box_within payload place ≡ None → FindsLast payload name last
    last-found place count None s zero none = has-fewer place count 1 s none (λ _. omega (arith, zero))
    last-found place count (Some x) s l none = last-ends place x.0 (inner x.1) l none

-- a child without its header is none of a payload whose children have theirs
pub no-header : (payload : List ℕ) (name : BoxType) (number : ℕ) (header : BoxType) (step : PathStep) (b : InnerBox)
    → IsNthOf payload name number step b → HasFewer b.payload header 1 → HasOwner payload name number header → ⊥
no-header payload name number header step b n h o =
    let few = h.few (omega arith) in
    o.headed n.leads.before n.leads.place b n.leads.are n.leads.is n.named h.all h.end h.are h.ends (omega (arith, few))

-- and fewer children are none either
pub no-child : (payload : List ℕ) (name : BoxType) (number : ℕ) (header : BoxType) → HasFewer payload name number
    → HasOwner payload name number header → ⊥
no-child payload name number header h o =
    let few = h.few o.counted in
    let enough = o.enough h.all h.end h.are h.ends in
    absurd (omega (arith, few, enough))

-- THE HEADER OF AN ID

module _ (bytes : List ℕ) (id : IdPlace) (has : HasHeader bytes id) (h : BoxHeader) (from : ℕ)
    (read : header_at (here bytes id.place) ≡ Ok (h, here bytes from)) where
  abbrev header-there : BoxHeader × Cursor
  header-there = (record { name = has.name; size = has.to - has.from + 8 }, here bytes has.from)

  header-same : ◌≡◌ {A = BoxHeader × Cursor} (h, here bytes from) header-there
  header-same = ok_is (h, here bytes from) header-there (sym read ∙ has.begins)

  size-is : h.size ≡ has.to - has.from + 8
  size-is = ap (λ (x : BoxHeader × Cursor). x.0.size) header-same

  from-is : from ≡ has.from
  from-is = ap (λ (x : BoxHeader × Cursor). x.1.position) header-same

  pub large-header : 8 ≤ h.size
  large-header = let size = size-is in omega (arith, size)

  module _ (p : Payload) (after : ℕ) (whole : IsWhole h.size from bytes large-header p after)
      (small : after < 2 ^ 64)
    where
      to-is : from + (h.size - 8) ≡ has.to
      to-is = let size = size-is in let same = from-is in let order = has.order in omega (arith, size, same, order)

      payload-is : p.bytes ≡ between bytes has.from has.to
      payload-is = whole.is ∙ rw (to-is, from-is) refl

      payload-long : from + length p.bytes ≡ after
      payload-long =
          let inside = has.inside in
          let order = has.order in
          let left = length-drop has.from bytes in
          let end = whole.end in
          let to = to-is in
          let same = from-is in
          let long : length p.bytes ≡ has.to - has.from =
          ap length payload-is
          ∙ length-take-le (has.to - has.from) (drop has.from bytes) (omega (arith, inside, order, left)) in
          omega (arith, long, end, to, same, order)

      pub header-found : (can_refuse : Bool) (r : Option IdHeader) → FindsWithin p.bytes from id r
          → FindsHeader bytes id can_refuse (Ok r)
      header-found can_refuse (Some x) finds =
          let long = payload-long in
          let within = finds (omega (arith, long, small)) in
          record {
            name = has.name;
            from = has.from;
            to = has.to;
            begins = has.begins;
            within = subst (λ (bs : List ℕ). IsWithinBox bs has.from id x) payload-is
                (subst (λ (n : ℕ). IsWithinBox p.bytes n id x) from-is within);
          }
      header-found can_refuse None lacks = lacks (rw payload-is has.owner)

-- where a header is, a read isn't at fault
pub header-read : (bytes : List ℕ) (id : IdPlace) → HasHeader bytes id → (can_refuse : Bool) (refusal : FileError)
    (r : Result (Option IdHeader) FileError) → IsLost refusal r
    → RefusesRead can_refuse refusal (header_at (here bytes id.place)) → FindsHeader bytes id can_refuse r
header-read bytes id has can_refuse refusal (Ok found) lost refused = absurd (not-lost refusal lost.1 refused)
  where
    not-lost : (u : FileError) → ((e : Error) × (u ≡ Mp4 e) × (e ≡ OutOfMemory → ⊥))
        → RefusesRead can_refuse u (header_at (here bytes id.place)) → ⊥
    not-lost (Mp4 x) bad (inl memory) = let same : x ≡ bad.0 = cc in bad.2 (sym same ∙ memory)
    not-lost (Mp4 x) bad (inr fault) = let not = sym has.begins ∙ fault in absurd cc
    not-lost (Io x) bad refused = absurd cc
header-read bytes id has can_refuse refusal (Err u) lost refused = by refusal lost refused
  where
    by : (v : FileError) → (u ≡ v) × OnMp4 v (λ e. e ≡ OutOfMemory)
        → RefusesRead can_refuse v (header_at (here bytes id.place)) → IsUnread can_refuse u
    by (Mp4 x) lost refused = rw lost.0 lost.1
    by (Io x) lost refused = rw lost.0 refused
