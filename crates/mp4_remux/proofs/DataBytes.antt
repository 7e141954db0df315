-- The bytes of the samples of tracks, as they are gathered.
use Rattle.std.proofs.Common.{◌≡◌, ◌∙◌, ◌⊎◌, inl, inr, ℕ, zero, suc, ◌+◌, ◌≤◌, ◌<◌, ◌||◌, Bool, true, false, nat_lt}
use Rattle.std.proofs.Common.{List, [], ◌∷◌, ◌++◌, length, None, Some, Ok, refl, sym, ap, subst, arith}
use Rattle.std.specs.Prelude.{IsTrue, slice_get}
use Rattle.std.proofs.lemmas.Bool.{ltb-true, ltb-false}
use Rattle.std.proofs.lemmas.List.Folds.{list_any-append}
use Rattle.mp4_codec.specs.Cause.{cause_of}
use Rattle.mp4_codec.specs.declared.error.Error.{Error}
use Rattle.mp4_codec.specs.declared.error.Error.TheVariants.{OutOfMemory}
use Rattle.mp4_samples.specs.declared.sample.Place.{Place}
use Rattle.mp4_media.specs.FileBoxes.{OpenedFile}
use Rattle.mp4_remux.specs.Data.{AddsBytes, AreApartFrom, AreDataOf, IsDataByte, IsTrackByte, has_byte, have_byte}
use Rattle.mp4_remux.specs.Headers.{HasNoSamples}
use Rattle.mp4_remux.specs.Reads.{place_in}
use Rattle.mp4_remux.specs.Refused.{IsUnreadable, SaysDiffers, SaysWhy}
use Rattle.mp4_remux.specs.RefusedRebuilt.{IsCutSample}
use Rattle.mp4_remux.specs.Why.{HasSample, HasSamples}
use Rattle.mp4_remux.specs.declared.data.Extent.{Extent}
use Rattle.mp4_remux.specs.declared.error.RemuxError.{RemuxError}
use Rattle.mp4_remux.proofs.DataOnce.{in_extent, of_extent}
use Rattle.mp4_remux.proofs.Numbered.{got_within}
use Rattle.mp4_remux.proofs.Refusing.{says_why_too}

-- BYTES OF EXTENTS

or_left : (a b : Bool) → a ≡ true → (a || b) ≡ true
or_left a b is = rw is refl

or_right : (a b : Bool) → b ≡ true → (a || (b || false)) ≡ true
or_right true b is = refl
or_right false b is = rw is refl

or_either : (a b : Bool) → (a || (b || false)) ≡ true → (a ≡ true) ⊎ (b ≡ true)
or_either true b is = inl refl
or_either false true is = inr refl
or_either false false is = absurd cc

abbrev pub IsIn : Extent → ℕ → Type 0
IsIn e byte = (e.place ≤ byte) × (byte < e.end)

-- an extent more
pub adds_extent : (old new : List Extent) (e : Extent)
    → ((byte : ℕ) → have_byte byte new ≡ have_byte byte (old ++ e ∷ [])) → AddsBytes (IsIn e) old new
adds_extent old new e more = record {
  stay = λ byte has. more byte ∙ split byte ∙ or_left (have_byte byte old) (has_byte byte e || false) has;
  all = λ byte is.
      more byte ∙ split byte
      ∙ or_right (have_byte byte old) (has_byte byte e) (in_extent byte e is.0 is.1);
  only = λ byte has. of_either byte
      (or_either (have_byte byte old) (has_byte byte e) (sym (split byte) ∙ sym (more byte) ∙ has));
}
  where
    split : (byte : ℕ) → have_byte byte (old ++ e ∷ []) ≡ (have_byte byte old || (has_byte byte e || false))
    split byte = list_any-append (has_byte byte) old (e ∷ [])

    of_either : (byte : ℕ) → (have_byte byte old ≡ true) ⊎ (has_byte byte e ≡ true)
        → IsTrue (have_byte byte old) ⊎ IsIn e byte
    of_either byte (inl has) = inl has
    of_either byte (inr has) = inr (of_extent byte e has)

-- some bytes, and then others
pub adds_then : (First Then Both : ℕ → Type 0) (old mid new : List Extent) → AddsBytes First old mid
    → AddsBytes Then mid new → ((byte : ℕ) → First byte → Both byte) → ((byte : ℕ) → Then byte → Both byte)
    → ((byte : ℕ) → Both byte → First byte ⊎ Then byte) → AddsBytes Both old new
adds_then First Then Both old mid new one two first second either = record {
  stay = λ byte has. two.stay byte (one.stay byte has);
  all = λ byte is. of_both byte (either byte is);
  only = λ byte has. of_new byte (two.only byte has);
}
  where
    of_both : (byte : ℕ) → First byte ⊎ Then byte → IsTrue (have_byte byte new)
    of_both byte (inl is) = two.stay byte (one.all byte is)
    of_both byte (inr is) = two.all byte is

    of_mid : (byte : ℕ) → IsTrue (have_byte byte old) ⊎ First byte → IsTrue (have_byte byte old) ⊎ Both byte
    of_mid byte (inl has) = inl has
    of_mid byte (inr is) = inr (first byte is)

    of_new : (byte : ℕ) → IsTrue (have_byte byte mid) ⊎ Then byte → IsTrue (have_byte byte old) ⊎ Both byte
    of_new byte (inl has) = of_mid byte (one.only byte has)
    of_new byte (inr is) = inr (second byte is)

-- THE BYTES OF A TRACK

-- one of the first n samples of a track has this byte
pub record IsFirstByte (opened : OpenedFile) (id n byte : ℕ) : Type 0 where
  pub has : IsTrackByte opened id byte
  pub first : has.k ≤ n

module _ (opened : OpenedFile) (id : ℕ) where
  pub none_first : (old : List Extent) → AddsBytes (IsFirstByte opened id 0) old old
  none_first old = record {
    stay = λ byte has. has;
    all = λ byte is. absurd (omega (arith, is.first, is.has.counts));
    only = λ byte has. inl has;
  }

  pub first_more : (k : ℕ) (p : Place) (e : Extent) (old mid new : List Extent)
      → ((j : ℕ) → 1 ≤ j → j ≤ k → HasSample opened id j) → place_in opened id (k + 1) ≡ Ok (Some p)
      → e.place ≡ p.offset → e.end ≡ p.offset + p.size → AddsBytes (IsFirstByte opened id k) old mid
      → ((byte : ℕ) → have_byte byte new ≡ have_byte byte (mid ++ e ∷ []))
      → AddsBytes (IsFirstByte opened id (k + 1)) old new
  first_more k p e old mid new each there from to upto more =
      adds_then (IsFirstByte opened id k) (IsIn e) (IsFirstByte opened id (k + 1)) old mid new upto
      (adds_extent mid new e more)
      (λ byte is. record { has = is.has; first = omega (arith, is.first) })
      (λ byte is. record {
        has = record {
          k = k + 1;
          sample = p;
          counts = omega arith;
          each = λ j low lt. each j low (omega (arith, lt));
          there = there;
          from = omega (arith, is.0, from);
          to = omega (arith, is.1, to);
        };
        first = omega arith;
      })
      (λ byte is. by byte is (nat_lt k is.has.k) refl)
    where
      by : (byte : ℕ) (is : IsFirstByte opened id (k + 1) byte) (b : Bool) → nat_lt k is.has.k ≡ b
          → IsFirstByte opened id k byte ⊎ IsIn e byte
      by byte is false le = inl (record { has = is.has; first = ltb-false k is.has.k le })
      by byte is true lt =
          let last : is.has.k ≡ k + 1 = omega (arith, ltb-true k is.has.k lt, is.first) in
          let here = subst (λ n. place_in opened id n ≡ Ok (Some is.has.sample)) last is.has.there in
          let same : is.has.sample ≡ p = cc in
          let low : p.offset ≤ byte = subst (λ (q : Place). q.offset ≤ byte) same is.has.from in
          let high : byte < p.offset + p.size = subst (λ (q : Place). byte < q.offset + q.size) same is.has.to in
          inr (omega (arith, low, from), omega (arith, high, to))

  -- there is one at each number so far, and at one more
  pub each_more : (k : ℕ) → ((j : ℕ) → 1 ≤ j → j ≤ k → HasSample opened id j) → HasSample opened id (k + 1)
      → (j : ℕ) → 1 ≤ j → j ≤ k + 1 → HasSample opened id j
  each_more k each this j low le = by (nat_lt k j) refl
    where
      by : (b : Bool) → nat_lt k j ≡ b → HasSample opened id j
      by false before = each j low (ltb-false k j before)
      by true last =
          let same : k + 1 ≡ j = omega (arith, ltb-true k j last, le) in subst (λ n. HasSample opened id n) same this

  pub have_all : (k : ℕ) → ((j : ℕ) → 1 ≤ j → j ≤ k → HasSample opened id j) → HasSamples opened id k
  have_all k each = by (nat_lt 0 k) refl
    where
      by : (b : Bool) → nat_lt 0 k ≡ b → HasSamples opened id k
      by false none = inl (omega (arith, ltb-false 0 k none))
      by true some = inr (each k (omega (arith, ltb-true 0 k some)) (omega arith))

  -- no sample is at the number after them
  none_there : (k : ℕ) → ((k + 1 ≡ 1) × HasNoSamples opened id) ⊎ (place_in opened id (k + 1) ≡ Ok None)
      → HasSample opened id (k + 1) → ⊥
  none_there k (inl none) some =
      let here = subst (λ n. place_in opened id n ≡ Ok (Some some.0)) none.0 some.1 in none.1.1 some.0 here
  none_there k (inr none) some = let both = sym none ∙ some.1 in absurd cc

  -- so they are all
  pub all_first : (k : ℕ) (old new : List Extent)
      → ((k + 1 ≡ 1) × HasNoSamples opened id) ⊎ (place_in opened id (k + 1) ≡ Ok None)
      → AddsBytes (IsFirstByte opened id k) old new → AddsBytes (IsTrackByte opened id) old new
  all_first k old new none adds = record {
    stay = adds.stay;
    all = λ byte is. adds.all byte (record { has = is; first = few byte is (nat_lt k is.k) refl });
    only = λ byte has. of_first byte (adds.only byte has);
  }
    where
      few : (byte : ℕ) (is : IsTrackByte opened id byte) (b : Bool) → nat_lt k is.k ≡ b → is.k ≤ k
      few byte is false le = ltb-false k is.k le
      few byte is true lt = absurd (none_there k none (by (nat_lt (k + 1) is.k) refl))
        where
          by : (b : Bool) → nat_lt (k + 1) is.k ≡ b → HasSample opened id (k + 1)
          by true before = is.each (k + 1) (omega arith) (ltb-true (k + 1) is.k before)
          by false last =
              let same : is.k ≡ k + 1 = omega (arith, ltb-true k is.k lt, ltb-false (k + 1) is.k last) in
              (is.sample, subst (λ n. place_in opened id n ≡ Ok (Some is.sample)) same is.there)

      of_first : (byte : ℕ) → IsTrue (have_byte byte old) ⊎ IsFirstByte opened id k byte
          → IsTrue (have_byte byte old) ⊎ IsTrackByte opened id byte
      of_first byte (inl has) = inl has
      of_first byte (inr is) = inr is.has

-- THE BYTES OF SEVERAL TRACKS

-- one of the first n of these tracks has this byte
pub record IsFirstDataByte (opened : OpenedFile) (ids : List ℕ) (n byte : ℕ) : Type 0 where
  pub has : IsDataByte opened ids byte
  pub first : has.number < n

module _ (opened : OpenedFile) (ids : List ℕ) where
  pub no_data : (new : List Extent) → new ≡ [] → AddsBytes (IsFirstDataByte opened ids 0) [] new
  no_data new none = record {
    stay = λ byte has. absurd cc;
    all = λ byte is. absurd (omega (arith, is.first));
    only = λ byte has. inl (sym (ap (have_byte byte) none) ∙ has);
  }

  pub data_more : (i id : ℕ) (mid new : List Extent) → slice_get ids i ≡ Some id
      → AddsBytes (IsFirstDataByte opened ids i) [] mid → AddsBytes (IsTrackByte opened id) mid new
      → AddsBytes (IsFirstDataByte opened ids (i + 1)) [] new
  data_more i id mid new at upto more =
      adds_then (IsFirstDataByte opened ids i) (IsTrackByte opened id) (IsFirstDataByte opened ids (i + 1)) [] mid new
      upto more
      (λ byte is. record { has = is.has; first = omega (arith, is.first) })
      (λ byte is. record {
        has = record { id = id; number = i; is = at; has = is };
        first = omega arith;
      })
      (λ byte is. by byte is (nat_lt is.has.number i) refl)
    where
      by : (byte : ℕ) (is : IsFirstDataByte opened ids (i + 1) byte) (b : Bool) → nat_lt is.has.number i ≡ b
          → IsFirstDataByte opened ids i byte ⊎ IsTrackByte opened id byte
      by byte is true lt = inl (record { has = is.has; first = ltb-true is.has.number i lt })
      by byte is false ge =
          let last : is.has.number ≡ i = omega (arith, ltb-false is.has.number i ge, is.first) in
          let here = subst (λ n. slice_get ids n ≡ Some is.has.id) last is.has.is in
          let same : is.has.id ≡ id = cc in
          inr (subst (λ t. IsTrackByte opened t byte) same is.has.has)

  -- so the bytes of all, in order, are the data
  pub data_is : (found extents : List Extent) → AddsBytes (IsFirstDataByte opened ids (length ids)) [] found
      → ((byte : ℕ) → have_byte byte extents ≡ have_byte byte found) → AreApartFrom 0 extents
      → AreDataOf opened ids extents
  data_is found extents adds same apart = record {
    apart = apart;
    all = λ byte is.
        same byte
        ∙ adds.all byte (record { has = is; first = got_within ids is.number is.id is.is });
    only = λ byte has. of_found byte (adds.only byte (sym (same byte) ∙ has));
  }
    where
      of_found : (byte : ℕ) → IsTrue (have_byte byte []) ⊎ IsFirstDataByte opened ids (length ids) byte
          → IsDataByte opened ids byte
      of_found byte (inl has) = absurd cc
      of_found byte (inr is) = is.has

-- WHY THEY AREN'T FOUND

abbrev pub IsWhyUnread : OpenedFile → List ℕ → ℕ → RemuxError → Type 0
IsWhyUnread opened ids len =
    SaysWhy (λ error. (error ≡ OutOfMemory) ⊎ IsUnreadable opened ids (cause_of error)) ⊥ (IsCutSample len ids opened)

module _ (t i len : ℕ) (ids : List ℕ) (opened : OpenedFile) (at : slice_get ids i ≡ Some t) where
  one_of : (id n : ℕ) → slice_get (t ∷ []) n ≡ Some id → slice_get ids i ≡ Some id
  one_of id n is = at ∙ by n is
    where
      by : (n : ℕ) → slice_get (t ∷ []) n ≡ Some id → Some t ≡ Some id
      by zero is = is
      by (suc n) is = absurd cc

  unread_one : (e : Error) → (e ≡ OutOfMemory) ⊎ IsUnreadable opened (t ∷ []) (cause_of e)
      → (e ≡ OutOfMemory) ⊎ IsUnreadable opened ids (cause_of e)
  unread_one e (inl memory) = inl memory
  unread_one e (inr u) =
      inr (record { id = u.id; number = i; is = one_of u.id u.number u.is; refused = u.refused })

  pub unread_of_one : (e : RemuxError) → IsWhyUnread opened (t ∷ []) len e → IsWhyUnread opened ids len e
  unread_of_one e why =
      says_why_too _ _ ⊥ ⊥ (IsCutSample len (t ∷ []) opened) (IsCutSample len ids opened) unread_one (λ never. never)
      (λ id k cut. record {
        number = i;
        is = one_of id cut.number cut.is;
        place = cut.place;
        there = cut.there;
        cut = cut.cut;
      }) e why

-- what is said of a sample
pub unread_differs : (opened : OpenedFile) (ids : List ℕ) (len : ℕ) (e : RemuxError) → IsWhyUnread opened ids len e
    → SaysDiffers (IsCutSample len ids opened) e
unread_differs opened ids len e why =
    says_why_too _ _ ⊥ _ (IsCutSample len ids opened) (IsCutSample len ids opened) (λ x y. tt) (λ never. absurd never)
    (λ id k cut. cut) e why
