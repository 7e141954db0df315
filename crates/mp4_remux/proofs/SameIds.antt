-- Two tracks of a movie have one id, where fewer are known by their ids than there are boxes of tracks.
use Rattle.std.proofs.Common.{◌≡◌, ◌∙◌, ℕ, zero, suc, ◌<◌, ◌==◌, Bool, true, false, cond, List, [], ◌∷◌, length, map}
use Rattle.std.proofs.Common.{Option, None, Some, IsSome, inl, inr, refl, sym, ap, arith, nat_eq, option_map}
use Rattle.std.proofs.lemmas.Bool.{eqb-true, eqb-false}
use Rattle.std.proofs.lemmas.List.{length-map}
use Rattle.std.proofs.lemmas.Map.Steps.{length-le_from_keys}
use Rattle.std.specs.Cmp.{nat_eq_equiv}
use Rattle.std.specs.HashMap.{hash_map_len}
use Rattle.std.specs.List.{AllByRecursion, IsDistinct, filter, list_any}
use Rattle.std.specs.Prelude.{◌⊎◌, slice_get}
use Rattle.mp4_boxes.specs.declared.trak.TrakBox.{TrakBox}
use Rattle.mp4_codec.specs.Children.{last}
use Rattle.mp4_lookup.specs.declared.track.Mp4Track.{Mp4Track}
use Rattle.mp4_media.specs.declared.movie.Movie.{Movie}
use Rattle.mp4_media.specs.FileBoxes.{opened_movie}
use Rattle.mp4_media.specs.MovieTracks.{AreTracks, at_id, opened_track, track_at, trak_with_id, with_fragments}
use Rattle.mp4_remux.specs.Remuxed.{ids_of}
use Rattle.mp4_remux.specs.Why.{HasSameIds}

-- a number is at two places of a list
record IsTwice (xs : List ℕ) : Type 0 where
  i : ℕ
  j : ℕ
  n : ℕ
  order : i < j
  first : slice_get xs i ≡ Some n
  second : slice_get xs j ≡ Some n

again_or_not : (x : ℕ) (xs : List ℕ)
    → ((j : ℕ) × (slice_get xs j ≡ Some x)) ⊎ AllByRecursion (λ y. nat_eq x y ≡ false) xs
again_or_not x [] = inr tt
again_or_not x (y ∷ ys) = by (nat_eq x y) refl (again_or_not x ys)
  where
    by : (b : Bool) → nat_eq x y ≡ b
        → ((j : ℕ) × (slice_get ys j ≡ Some x)) ⊎ AllByRecursion (λ y. nat_eq x y ≡ false) ys
        → ((j : ℕ) × (slice_get (y ∷ ys) j ≡ Some x)) ⊎ AllByRecursion (λ y. nat_eq x y ≡ false) (y ∷ ys)
    by true e rest = inl (0, ap (λ n. Some n) (sym (eqb-true x y e)))
    by false e (inl there) = inl (suc there.0, there.1)
    by false e (inr none) = inr (e, none)

-- one is, or all are distinct
twice_or_distinct : (xs : List ℕ) → IsTwice xs ⊎ IsDistinct nat_eq xs
unfolding IsDistinct
twice_or_distinct [] = inr tt
twice_or_distinct (x ∷ xs) = by (again_or_not x xs) (twice_or_distinct xs)
  where
    by : ((j : ℕ) × (slice_get xs j ≡ Some x)) ⊎ AllByRecursion (λ y. nat_eq x y ≡ false) xs
        → IsTwice xs ⊎ IsDistinct nat_eq xs → IsTwice (x ∷ xs) ⊎ IsDistinct nat_eq (x ∷ xs)
    by (inl again) rest = inl (record {
      i = 0;
      j = suc again.0;
      n = x;
      order = omega arith;
      first = refl;
      second = again.1;
    })
    by (inr none) (inl two) = inl (record {
      i = suc two.i;
      j = suc two.j;
      n = two.n;
      order = omega (arith, two.order);
      first = two.first;
      second = two.second;
    })
    by (inr none) (inr distinct) = inr (none, distinct)

-- TRACKS

last_some : {X : Type 0} (x : X) (xs : List X) → (y : X) × (last (x ∷ xs) ≡ Some y)
last_some x [] = (x, refl)
last_some x (y ∷ ys) = last_some y ys

abbrev id_of : TrakBox → ℕ
id_of t = t.tkhd.track_id

-- a box is found by the id of any
found : (q : ℕ) (ts : List TrakBox) → list_any (nat_eq q) (map id_of ts) ≡ true
    → (y : TrakBox) × (trak_with_id ts q ≡ Some y)
found q [] any = absurd cc
found q (t ∷ ts) any = by (id_of t == q) refl (found q ts)
  where
    no : id_of t == q ≡ false → nat_eq q (id_of t) ≡ false
    no isnt = other (nat_eq q (id_of t)) refl
      where
        other : (b : Bool) → nat_eq q (id_of t) ≡ b → b ≡ false
        other false e = refl
        other true e = absurd (eqb-false (id_of t) q isnt (sym (eqb-true q (id_of t) e)))

    by : (b : Bool) → (id_of t == q) ≡ b
        → (list_any (nat_eq q) (map id_of ts) ≡ true → (y : TrakBox) × (trak_with_id ts q ≡ Some y))
        → (y : TrakBox) × (last (cond b (t ∷ filter (λ (t : TrakBox). id_of t == q) ts)
        (filter (λ (t : TrakBox). id_of t == q) ts)) ≡ Some y)
    by true is more = last_some t (filter (λ (t : TrakBox). id_of t == q) ts)
    by false isnt more = more (rw (no isnt) at any)

box_of : (ts : List TrakBox) (i n : ℕ) → slice_get (map id_of ts) i ≡ Some n
    → (t : TrakBox) × ((slice_get ts i ≡ Some t) × (id_of t ≡ n))
box_of [] i n e = absurd cc
box_of (t ∷ ts) zero n e = (t, (refl, cc))
box_of (t ∷ ts) (suc i) n e = box_of ts i n e

-- the track of any box is known by its id
known : (m : Movie) → AreTracks m.moov m.moofs m.moof_places m.tracks → (q : ℕ)
    → list_any (nat_eq q) (ids_of m.moov) ≡ true → IsSome (at_id m.tracks q)
unfolding track_at
known m are q any =
    let box = found q m.moov.traks any in
    by (at_id m.tracks q) (are q ∙ ap (option_map (with_fragments m.moov m.moofs m.moof_places)) box.1)
  where
    by : (o : Option Mp4Track)
        → option_map opened_track o
        ≡ Some (with_fragments m.moov m.moofs m.moof_places (found q m.moov.traks any).0) → IsSome o
    by None e = absurd cc
    by (Some t) e = refl

pub have_same_ids : (m : Movie) → AreTracks m.moov m.moofs m.moof_places m.tracks
    → hash_map_len m.tracks < length m.moov.traks → HasSameIds (opened_movie m)
have_same_ids m are fewer = by (twice_or_distinct (ids_of m.moov))
  where
    by : IsTwice (ids_of m.moov) ⊎ IsDistinct nat_eq (ids_of m.moov) → HasSameIds (opened_movie m)
    by (inl two) =
        let one = box_of m.moov.traks two.i two.n two.first in
        let other = box_of m.moov.traks two.j two.n two.second in
        record {
          i = two.i;
          j = two.j;
          one = one.0;
          other = other.0;
          order = two.order;
          first = one.1.0;
          second = other.1.0;
          same = one.1.1 ∙ sym other.1.1;
        }
    by (inr distinct) =
        let most = length-le_from_keys nat_eq_equiv (ids_of m.moov) m.tracks.entries distinct (known m are) in
        absurd (omega (arith, most, fewer, length-map m.moov.traks id_of))
