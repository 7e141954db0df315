-- The children of a payload are the boxes within it.
use Rattle.std.proofs.Common.{◌≡◌, ◌⊎◌, inl, inr, ◌≤◌, ◌<◌, ℕ, zero, suc, ◌+◌, ◌-◌, Bool, true, false, cond, ltb, eqb}
use Rattle.std.proofs.Common.{List, [], ◌∷◌, ◌++◌}
use Rattle.std.proofs.Common.{length, take, drop, Option, Some, None, Result, Ok, Err, refl, sym, ap, subst, ◌∙◌, arith}
use Rattle.std.specs.Prelude.{map}
use Rattle.std.specs.Option.{option_map}
use Rattle.std.proofs.lemmas.List.{length-drop, length-take-le, drop-drop}
use Rattle.std.proofs.lemmas.Bool.{le-ltb, lt-ltb, ltb-false, ltb-true, cases_lt}
use Rattle.byteorder.specs.Endian.{big_number}
use Rattle.mp4_codec.specs.declared.box_type.BoxType.{BoxType}
use Rattle.mp4_codec.specs.declared.header.BoxHeader.{BoxHeader}
use Rattle.mp4_codec.specs.BoxType.{box_type}
use Rattle.mp4_codec.specs.Cause.{Cause, end_of_data, invalid_data, ◌>>=◌}
use Rattle.mp4_codec.specs.Cursor.{Cursor, Head, here, left, moved, take_at, head_with, head_after, head_at, header_at}
use Rattle.mp4_codec.specs.Cursor.{reported}
use Rattle.mp4_codec.specs.Children.{ChildBox, child_at, begun, cut, walk}
use Rattle.mp4_codec.specs.Steps.{ok_is, both_steps}
use Rattle.mp4_codec.proofs.HeadLaws.{head_read, header_read}
use Rattle.mp4_codec.specs.ChildrenLaws.{Begins, walk-begins, walk-ends, walk-breaks}
use Rattle.mp4_faults.specs.Inner.{InnerBox, as_child, end_of, box_within, with_header, with_part, AreWithin}

-- READ FROM A PLACE ON

-- Where bytes are read from a place on, as their own: what is read is the same, and the places count from there.
module _ (bytes : List ℕ) (p : ℕ) (inside : p ≤ length bytes) where
  rest : List ℕ
  rest = drop p bytes

  abbrev shifted : {X : Type 0} → Result (X × Cursor) Cause → Result (X × Cursor) Cause
  shifted r = r >>= λ x. Ok (x.0, here bytes (p + x.1.position))

  same-test : (q n : ℕ) → ltb (length bytes) (p + q + n) ≡ ltb (length (drop p bytes)) (q + n)
  same-test q n = rw (length-drop p bytes) (by (ltb (length bytes - p) (q + n)) refl)
    where
      by : (b : Bool) → ltb (length bytes - p) (q + n) ≡ b → ltb (length bytes) (p + q + n) ≡ b
      by true e =
          let lt = ltb-true (length bytes - p) (q + n) e in
          lt-ltb (length bytes) (p + q + n) (omega (arith, lt, inside))
      by false e =
          let le = ltb-false (length bytes - p) (q + n) e in
          le-ltb (length bytes) (p + q + n) (omega (arith, le, inside))

  take-there : (q n : ℕ) → take_at n (here bytes (p + q)) ≡ shifted (take_at n (here (drop p bytes) q))
  take-there q n = rw (same-test q n, ← drop-drop q p bytes) (by (ltb (length (drop p bytes)) (q + n)))
    where
      by : (b : Bool)
          → cond b (Err end_of_data) (Ok (take n (drop q (drop p bytes)), here bytes (p + q + n)))
          ≡ shifted (cond b (Err end_of_data) (Ok (take n (drop q (drop p bytes)), here (drop p bytes) (q + n))))
      by true = refl
      by false = ap (λ (k : ℕ). Ok (take n (drop q (drop p bytes)), here bytes k)) (omega arith)

  abbrev and-cursor : Cursor → Head → Result (Head × Cursor) Cause
  and-cursor c head = Ok (head, c)

  with-there : (r : Result Head Cause) (q : ℕ)
      → (r >>= and-cursor (here bytes (p + q))) ≡ shifted (r >>= and-cursor (here (drop p bytes) q))
  with-there (Ok head) q = refl
  with-there (Err c) q = refl

  abbrev part-or-end : Bool → List ℕ → Cursor → Result (List ℕ × Cursor) Cause
  part-or-end past part next = cond past (Err end_of_data) (Ok (part, next))

  abbrev large-head : BoxType → List ℕ × Cursor → Result (Head × Cursor) Cause
  large-head name x = head_with name 16 (big_number 8 x.0) >>= and-cursor x.1

  head-after-there : (name : BoxType) (size q : ℕ)
      → head_after name size (here bytes (p + q)) ≡ shifted (head_after name size (here (drop p bytes) q))
  head-after-there name size q = by (eqb size 1)
    where
      part : List ℕ
      part = take 8 (drop q (drop p bytes))

      large : (b : Bool)
          → (part-or-end b part (here bytes (p + q + 8)) >>= large-head name)
          ≡ shifted (part-or-end b part (here (drop p bytes) (q + 8)) >>= large-head name)
      large true = refl
      large false =
          ap (λ (k : ℕ). head_with name 16 (big_number 8 part) >>= and-cursor (here bytes k)) (omega arith)
          ∙ with-there (head_with name 16 (big_number 8 part)) (q + 8)

      by : (b : Bool)
          → cond b (take_at 8 (here bytes (p + q)) >>= large-head name)
          (head_with name 8 size >>= and-cursor (here bytes (p + q)))
          ≡ shifted (cond b (take_at 8 (here (drop p bytes) q) >>= large-head name)
          (head_with name 8 size >>= and-cursor (here (drop p bytes) q)))
      by true = rw (same-test q 8, ← drop-drop q p bytes) (large (ltb (length (drop p bytes)) (q + 8)))
      by false = with-there (head_with name 8 size) q

  abbrev first-head : List ℕ × Cursor → Result (Head × Cursor) Cause
  first-head x = head_after (box_type (big_number 4 (drop 4 x.0))) (big_number 4 x.0) x.1

  head-there : (q : ℕ) → head_at (here bytes (p + q)) ≡ shifted (head_at (here (drop p bytes) q))
  unfolding head_at
  head-there q = rw (same-test q 8, ← drop-drop q p bytes) (by (ltb (length (drop p bytes)) (q + 8)))
    where
      part : List ℕ
      part = take 8 (drop q (drop p bytes))

      by : (b : Bool)
          → (part-or-end b part (here bytes (p + q + 8)) >>= first-head)
          ≡ shifted (part-or-end b part (here (drop p bytes) (q + 8)) >>= first-head)
      by true = refl
      by false =
          ap (λ (k : ℕ). head_after (box_type (big_number 4 (drop 4 part))) (big_number 4 part) (here bytes k))
          (omega arith)
          ∙ head-after-there (box_type (big_number 4 (drop 4 part))) (big_number 4 part) (q + 8)

  report-there : (r : Result (Head × Cursor) Cause)
      → (shifted r >>= λ x. Ok (reported x.0, x.1)) ≡ shifted (r >>= λ x. Ok (reported x.0, x.1))
  report-there (Ok x) = refl
  report-there (Err c) = refl

  header-there : (q : ℕ) → header_at (here bytes (p + q)) ≡ shifted (header_at (here (drop p bytes) q))
  header-there q =
      ap (λ (r : Result (Head × Cursor) Cause). r >>= λ x. Ok (reported x.0, x.1)) (head-there q)
      ∙ report-there (head_at (here (drop p bytes) q))

-- THE CHILDREN

module _ (bytes : List ℕ) (p : ℕ) (inside : p ≤ length bytes) where
  abbrev child-of : Option InnerBox → Option (ChildBox × List ℕ)
  child-of o = option_map (λ (b : InnerBox). (as_child b, drop (end_of b) bytes)) o

  cut-there : (name : BoxType) (n q : ℕ)
      → cut name (take_at n (here (drop p bytes) q))
      ≡ child-of (with_part name p (p + q) (take_at n (here bytes (p + q))))
  cut-there name n q =
      rw (same-test bytes p inside q n, ← drop-drop q p bytes) (by (ltb (length (drop p bytes)) (q + n)) refl)
    where
      by : (b : Bool) → ltb (length (drop p bytes)) (q + n) ≡ b
          → cut name (cond b (Err end_of_data) (Ok (take n (drop q (drop p bytes)), here (drop p bytes) (q + n))))
          ≡ child-of (with_part name p (p + q)
          (cond b (Err end_of_data) (Ok (take n (drop q (drop p bytes)), here bytes (p + q + n)))))
      by true e = refl
      by false e =
          let le = ltb-false (length (drop p bytes)) (q + n) e in
          let all = length-drop p bytes in
          let long : n ≤ length (drop q (drop p bytes)) = rw (length-drop q (drop p bytes)) (omega (arith, le)) in
          let size : length (take n (drop q (drop p bytes))) ≡ n = length-take-le n (drop q (drop p bytes)) long in
          rw (drop-drop (q + n) p bytes, size)
          (ap (λ (k : ℕ). Some ((name, take n (drop q (drop p bytes))), drop k bytes)) (omega arith))

  -- the child that begins the bytes from a place on is the box there
  pub child-there : child_at (drop p bytes) ≡ child-of (box_within bytes p)
  unfolding child_at box_within
  child-there =
      ap (λ (k : ℕ). begun (header_at (here (drop k bytes) 0))) (omega arith)
      ∙ by (header_at (here (drop p bytes) 0)) refl
      ∙ ap (λ (r : Result (BoxHeader × Cursor) Cause). child-of (with_header p r))
      (sym (header-there bytes p inside 0) ∙ ap (λ (k : ℕ). header_at (here bytes k)) (omega arith))
    where
      sized : (name : BoxType) (size : ℕ) (q : ℕ) (b : Bool)
          → cond b None (cut name (take_at (size - 8) (here (drop p bytes) q)))
          ≡ child-of (cond b None (with_part name p (p + q) (take_at (size - 8) (here bytes (p + q)))))
      sized name size q true = refl
      sized name size q false = cut-there name (size - 8) q

      by : (r : Result (BoxHeader × Cursor) Cause) → header_at (here (drop p bytes) 0) ≡ r
          → begun r ≡ child-of (with_header p (shifted bytes p inside r))
      by (Err c) e = refl
      by (Ok x) e =
          let h = x.0 in
          let same : x.1 ≡ here (drop p bytes) x.1.position = next-is x.0 x.1 e in
          rw same (sized h.name h.size x.1.position (eqb h.size 0))
        where
          next-is : (h : BoxHeader) (next : Cursor) → header_at (here (drop p bytes) 0) ≡ Ok (h, next)
              → next ≡ here (drop p bytes) next.position
          next-is h next e =
              let one = both_steps (head_at (here (drop p bytes) 0)) (λ (y : Head × Cursor). Ok (reported y.0, y.1))
              (h, next) e in
              let same = ok_is (reported one.0.0, one.0.1) (h, next) one.2 in
              let r = head_read (here (drop p bytes) 0) one.0.0 one.0.1 one.1 in
              let after : one.0.1 ≡ next = ap (λ (y : BoxHeader × Cursor). y.1) same in
              rw (← after, r.after) refl

-- where a box is that is within bytes
pub record IsInside (bytes : List ℕ) (place : ℕ) (b : InnerBox) : Type 0 where
  pub header : place + 8 ≤ b.from
  pub end : end_of b ≤ length bytes

module _ (bytes : List ℕ) (place : ℕ) (b : InnerBox) where
  module _ (h : BoxHeader) (next : Cursor) (read : header_at (here bytes place) ≡ Ok (h, next)) where
    next-bytes : next.bytes ≡ bytes
    next-bytes =
        let one = both_steps (head_at (here bytes place)) (λ (y : Head × Cursor). Ok (reported y.0, y.1))
        (h, next) read in
        let same = ok_is (reported one.0.0, one.0.1) (h, next) one.2 in
        let r = head_read (here bytes place) one.0.0 one.0.1 one.1 in
        let after : one.0.1 ≡ next = ap (λ (y : BoxHeader × Cursor). y.1) same in
        ap (λ (c : Cursor). c.bytes) (sym after) ∙ ap (λ (c : Cursor). c.bytes) r.after

    by-part : (past : Bool) → ltb (length next.bytes) (next.position + (h.size - 8)) ≡ past
        → with_part h.name place next.position (cond past (Err end_of_data)
        (Ok (take (h.size - 8) (left next), moved (h.size - 8) next))) ≡ Some b → IsInside bytes place b
    by-part true past e = absurd cc
    by-part false past e =
        let moves = (header_read (here bytes place) h next read).moves in
        let same = ap (λ (bs : List ℕ). length bs) next-bytes in
        let within = ltb-false (length next.bytes) (next.position + (h.size - 8)) past in
        let part = take (h.size - 8) (left next) in
        let rest-length = length-drop next.position next.bytes in
        let size : length part ≡ h.size - 8 =
        length-take-le (h.size - 8) (left next) (omega (arith, within, rest-length)) in
        let whole : InnerBox = record { name = h.name; place = place; from = next.position; payload = part } in
        let is : whole ≡ b = cc in
        subst (IsInside bytes place) is (record { header = moves; end = omega (arith, size, within, same) })

    by-size : (no_end : Bool)
        → cond no_end None (with_part h.name place next.position (take_at (h.size - 8) next)) ≡ Some b
        → IsInside bytes place b
    by-size true e = absurd cc
    by-size false e = by-part (ltb (length next.bytes) (next.position + (h.size - 8))) refl e

  pub inside-of : box_within bytes place ≡ Some b → IsInside bytes place b
  unfolding box_within
  inside-of e = by (header_at (here bytes place)) refl e
    where
      by : (r : Result (BoxHeader × Cursor) Cause) → header_at (here bytes place) ≡ r → with_header place r ≡ Some b
          → IsInside bytes place b
      by (Err c) is e = absurd cc
      by (Ok x) is e = by-size x.0 x.1 is (eqb x.0.size 0) e

-- A walk over the boxes that are within bytes.
module _ (bytes : List ℕ) where
  -- the children from a place on are these, and then those of a walk from another place on
  pub record WalksOn (place n : ℕ) (bs : List InnerBox) (next : ℕ) : Type 0 where
    pub steps : ℕ
    pub enough : length (drop next bytes) ≤ steps
    pub inside : next ≤ length bytes
    pub is : (walk n (drop place bytes)).0 ≡ map as_child bs ++ (walk steps (drop next bytes)).0

  pub walks-on : (bs : List InnerBox) (place next n : ℕ) → place ≤ length bytes → length (drop place bytes) ≤ n
      → AreWithin bytes place bs next → WalksOn place n bs next
  unfolding AreWithin
  walks-on [] place next n inside enough are = record {
    steps = n;
    enough = rw are enough;
    inside = omega (arith, inside, are);
    is = rw are refl;
  }
  walks-on (b ∷ bs) place next zero inside enough are =
      let w = inside-of bytes place b are.0 in
      let h = w.header in
      let e = w.end in
      absurd (omega (arith, length-drop place bytes, enough, h, e))
  walks-on (b ∷ bs) place next (suc n) inside enough are =
      let w = inside-of bytes place b are.0 in
      let h = w.header in
      let e = w.end in
      let here-length = length-drop place bytes in
      let there-length = length-drop (end_of b) bytes in
      let begins : Begins (drop place bytes) (as_child b) (drop (end_of b) bytes) = record {
        long = omega (arith, here-length, h, e);
        is = child-there bytes place inside ∙ rw are.0 refl;
      } in
      let others = walks-on bs (end_of b) next n e (omega (arith, there-length, here-length, enough, h, e)) are.1 in
      record {
        steps = others.steps;
        enough = others.enough;
        inside = others.inside;
        is =
            ap (λ (x : List ChildBox × List ℕ). x.0)
            (walk-begins n (drop place bytes) (as_child b) (drop (end_of b) bytes) begins)
            ∙ ap (λ (cs : List ChildBox). as_child b ∷ cs) others.is;
      }

  -- no child is left where no box is
  pub walks-none : (place n : ℕ) → place ≤ length bytes → box_within bytes place ≡ None
      → (walk n (drop place bytes)).0 ≡ []
  walks-none place n inside none = by (cases_lt (length (drop place bytes)) 8)
    where
      by : (length (drop place bytes) < 8) ⊎ (8 ≤ length (drop place bytes)) → (walk n (drop place bytes)).0 ≡ []
      by (inl few) = ap (λ (x : List ChildBox × List ℕ). x.0) (walk-ends n (drop place bytes) few)
      by (inr long) =
          ap (λ (x : List ChildBox × List ℕ). x.0) (walk-breaks n (drop place bytes) invalid_data (record {
            long = long;
            none = child-there bytes place inside ∙ rw none refl;
            cause = refl;
          }))
