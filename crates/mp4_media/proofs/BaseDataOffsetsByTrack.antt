-- The base data offsets of each track's fragments, as they are gathered.
use Rattle.std.proofs.Common.{◌≡◌, ℕ, ◌+◌, ◌<◌, ◌≤◌, suc, Bool, true, false, cond, eqb, List, [], ◌∷◌, ◌++◌, length}
use Rattle.std.proofs.Common.{drop}
use Rattle.std.proofs.Common.{get_or, Option, Some, refl, sym, ap, ap₂, ◌∙◌, arith, length-append, append_assoc}
use Rattle.std.specs.Prelude.{None, map, not, slice_get, zip, nat_eq}
use Rattle.std.specs.List.{filter}
use Rattle.std.specs.HashMap.{HashMap}
use Rattle.std.proofs.lemmas.Bool.{eqb-true}
use Rattle.std.proofs.lemmas.List.{append-nil, drop_all, drop_more}
use Rattle.std.proofs.lemmas.List.Elements.{filter-append}
use Rattle.mp4_moof.specs.declared.moof.MoofBox.{MoofBox}
use Rattle.mp4_moof.specs.declared.traf.TrafBox.{TrafBox}
use Rattle.mp4_fragments.specs.declared.defaults.SampleDefaults.{SampleDefaults}
use Rattle.mp4_moof.specs.Optional.{is_set}
use Rattle.mp4_fragments.specs.BaseDataOffsets.{base_data_offset_of, base_data_offset_or, base_data_offsets_from}
use Rattle.mp4_fragments.specs.BaseDataOffsets.{base_data_offsets_of, counts_from, counts_from_data_before, traf_ends}
use Rattle.mp4_media.specs.MovieTracks.{base_data_offsets_at, own_base_data_offsets, track_base_data_offsets, trafs_in}
use Rattle.mp4_media.specs.MovieTracks.{trafs_of}

-- one base data offset for each part
length-base_data_offsets_from : (defaults : ℕ → SampleDefaults) (moof : ℕ) (before : Option ℕ) (trafs : List TrafBox)
    → length (base_data_offsets_from defaults moof before trafs) ≡ length trafs
unfolding base_data_offsets_from
length-base_data_offsets_from defaults moof before [] = refl
length-base_data_offsets_from defaults moof before (f ∷ fs) =
    let offset : Option ℕ = base_data_offset_of f moof before in
    ap suc (length-base_data_offsets_from defaults moof (traf_ends (defaults f.tfhd.track_id) offset f) fs)

-- one base data offset for each part of the track
length-own_base_data_offsets : (id : ℕ) (trafs : List TrafBox) (offsets : List (Option ℕ))
    → length offsets ≡ length trafs
    → length (own_base_data_offsets id trafs offsets) ≡ length (trafs_of trafs id)
unfolding own_base_data_offsets
length-own_base_data_offsets id [] offsets e = refl
length-own_base_data_offsets id (f ∷ fs) [] e = absurd cc
length-own_base_data_offsets id (f ∷ fs) (b ∷ bs) e =
    by (length-own_base_data_offsets id fs bs (omega arith)) (eqb f.tfhd.track_id id)
  where
    others : List (TrafBox × Option ℕ)
    others = filter (λ (x : TrafBox × Option ℕ). eqb x.0.tfhd.track_id id) (zip fs bs)

    by : length (map (λ (x : TrafBox × Option ℕ). x.1) others) ≡ length (trafs_of fs id) → (own : Bool)
        → length (map (λ (x : TrafBox × Option ℕ). x.1) (cond own ((f, b) ∷ others) others))
        ≡ length (cond own (f ∷ trafs_of fs id) (trafs_of fs id))
    by rest true = ap suc rest
    by rest false = rest

pub length-track_base_data_offsets : (defaults : ℕ → SampleDefaults) (moofs : List MoofBox) (places : List ℕ) (id : ℕ)
    → length places ≡ length moofs
    → length (track_base_data_offsets defaults moofs places id) ≡ length (trafs_of (trafs_in moofs) id)
unfolding track_base_data_offsets
length-track_base_data_offsets defaults [] places id e = refl
length-track_base_data_offsets defaults (m ∷ ms) [] id e = absurd cc
length-track_base_data_offsets defaults (m ∷ ms) (p ∷ ps) id e =
    let offsets : List (Option ℕ) = base_data_offsets_of defaults p m.trafs in
    let here = length-own_base_data_offsets id m.trafs offsets
    (length-base_data_offsets_from defaults p (Some p) m.trafs) in
    let later = length-track_base_data_offsets defaults ms ps id (omega arith) in
    length-append (own_base_data_offsets id m.trafs offsets) (track_base_data_offsets defaults ms ps id)
    ∙ ap₂ (λ (m n : ℕ). m + n) here later
    ∙ sym (length-append (trafs_of m.trafs id) (trafs_of (trafs_in ms) id))
    ∙ sym (ap length (filter-append (λ (f : TrafBox). eqb f.tfhd.track_id id) m.trafs (trafs_in ms)))

-- where the first of these doesn't count from the data before it, or there is none, that data ends anywhere
pub end_anywhere : (defaults : ℕ → SampleDefaults) (moof : ℕ) (a b : Option ℕ) (fs : List TrafBox)
    → None ≡ slice_get fs 0 → base_data_offsets_from defaults moof a fs ≡ base_data_offsets_from defaults moof b fs
unfolding base_data_offsets_from
end_anywhere defaults moof a b [] none = refl
end_anywhere defaults moof a b (f ∷ fs) none = absurd cc

pub end_elsewhere : (defaults : ℕ → SampleDefaults) (moof : ℕ) (a b : Option ℕ) (fs : List TrafBox) (f : TrafBox)
    → Some f ≡ slice_get fs 0 → counts_from_data_before f ≡ false
    → base_data_offsets_from defaults moof a fs ≡ base_data_offsets_from defaults moof b fs
unfolding base_data_offsets_from
end_elsewhere defaults moof a b [] f first elsewhere = absurd cc
end_elsewhere defaults moof a b (g ∷ gs) f first elsewhere =
    let same : f ≡ g = cc in
    ap (λ offset. offset ∷ base_data_offsets_from defaults moof (traf_ends (defaults g.tfhd.track_id) offset g) gs)
    (by g.tfhd.base_data_offset g.tfhd.flags (ap counts_from_data_before (sym same) ∙ elsewhere))
  where
    by_flag : (set : Bool) → not set ≡ false → cond set (Some moof) a ≡ cond set (Some moof) b
    by_flag true e = refl
    by_flag false e = absurd cc

    by : (own : Option ℕ) (flags : ℕ) → counts_from own flags ≡ false
        → base_data_offset_or own flags moof a ≡ base_data_offset_or own flags moof b
    by (Some offset) flags e = refl
    by None flags e = by_flag (is_set flags 0x20000) e

-- the base data offsets of one fragment, and those of the fragments after it
pub more_base_data_offsets : (defaults : ℕ → SampleDefaults) (moofs : List MoofBox) (places : List ℕ) (i : ℕ)
    (m : MoofBox) (place id : ℕ) → i < length moofs → length places ≡ length moofs → m ≡ get_or moofs i m
    → track_base_data_offsets defaults (drop i moofs) (drop i places) id
    ≡ own_base_data_offsets id m.trafs (base_data_offsets_of defaults (get_or places i place) m.trafs)
    ++ track_base_data_offsets defaults (drop (i + 1) moofs) (drop (i + 1) places) id
unfolding track_base_data_offsets
more_base_data_offsets defaults moofs places i m place id lt same is =
    rw (drop_more moofs i m lt, drop_more places i place (omega arith), ← is) refl

-- after the last fragment there are none
pub no_more_base_data_offsets : (defaults : ℕ → SampleDefaults) (moofs : List MoofBox) (places : List ℕ) (i id : ℕ)
    → length moofs ≤ i → track_base_data_offsets defaults (drop i moofs) places id ≡ []
unfolding track_base_data_offsets
no_more_base_data_offsets defaults moofs places i id past = rw (drop_all i moofs past) refl

-- Defaults that are the same for each track give the same base data offsets.
same_base_data_offsets : (these those : ℕ → SampleDefaults) → ((id : ℕ) → these id ≡ those id)
    → (moof : ℕ) (before : Option ℕ) (trafs : List TrafBox)
    → base_data_offsets_from these moof before trafs ≡ base_data_offsets_from those moof before trafs
unfolding base_data_offsets_from
same_base_data_offsets these those same moof before [] = refl
same_base_data_offsets these those same moof before (f ∷ fs) =
    let offset : Option ℕ = base_data_offset_of f moof before in
    rw (same f.tfhd.track_id)
    (ap (λ bs. offset ∷ bs)
    (same_base_data_offsets these those same moof (traf_ends (those f.tfhd.track_id) offset f) fs))

pub same_track_base_data_offsets : (these those : ℕ → SampleDefaults) → ((id : ℕ) → these id ≡ those id)
    → (moofs : List MoofBox) (places : List ℕ) (id : ℕ)
    → track_base_data_offsets these moofs places id ≡ track_base_data_offsets those moofs places id
unfolding track_base_data_offsets
same_track_base_data_offsets these those same [] places id = refl
same_track_base_data_offsets these those same (m ∷ ms) [] id = refl
same_track_base_data_offsets these those same (m ∷ ms) (p ∷ ps) id =
    ap₂ (λ (xs ys : List (Option ℕ)). xs ++ ys)
    (ap (own_base_data_offsets id m.trafs) (same_base_data_offsets these those same p (Some p) m.trafs))
    (same_track_base_data_offsets these those same ms ps id)

-- the base data offsets of one part more
own_base_data_offsets-cons : (id : ℕ) (f : TrafBox) (fs : List TrafBox) (b : Option ℕ) (bs : List (Option ℕ))
    → own_base_data_offsets id (f ∷ fs) (b ∷ bs)
    ≡ cond (eqb f.tfhd.track_id id) (b ∷ own_base_data_offsets id fs bs) (own_base_data_offsets id fs bs)
unfolding own_base_data_offsets
own_base_data_offsets-cons id f fs b bs = by (eqb f.tfhd.track_id id)
  where
    others : List (TrafBox × Option ℕ)
    others = filter (λ (x : TrafBox × Option ℕ). eqb x.0.tfhd.track_id id) (zip fs bs)

    seconds : List (TrafBox × Option ℕ) → List (Option ℕ)
    seconds xs = map (λ (x : TrafBox × Option ℕ). x.1) xs

    by : (own : Bool) → seconds (cond own ((f, b) ∷ others) others) ≡ cond own (b ∷ seconds others) (seconds others)
    by true = refl
    by false = refl

module _ {S : Type 0} (defaults : ℕ → SampleDefaults) (moof : ℕ) where
  -- what is kept, and the base data offsets that are still to come
  abbrev pub and_to_come : HashMap ℕ (List (Option ℕ)) S → Option ℕ → List TrafBox → ℕ → List (Option ℕ)
  and_to_come kept before trafs id =
      base_data_offsets_at kept id ++ own_base_data_offsets id trafs (base_data_offsets_from defaults moof before trafs)

  -- it is the same when the base data offset of the next part is kept
  pub base_data_offset_kept : (old new : HashMap ℕ (List (Option ℕ)) S) (before : Option ℕ) (f : TrafBox)
      (fs : List TrafBox)
      → ((id : ℕ) → base_data_offsets_at new id ≡ cond (nat_eq f.tfhd.track_id id)
      (base_data_offsets_at old f.tfhd.track_id ++ base_data_offset_of f moof before ∷ [])
      (base_data_offsets_at old id))
      → (id : ℕ) → and_to_come new (traf_ends (defaults f.tfhd.track_id) (base_data_offset_of f moof before) f) fs id
      ≡ and_to_come old before (f ∷ fs) id
  unfolding base_data_offsets_from
  base_data_offset_kept old new before f fs now id =
      let offset : Option ℕ = base_data_offset_of f moof before in
      let rest : List (Option ℕ) =
      base_data_offsets_from defaults moof (traf_ends (defaults f.tfhd.track_id) offset f) fs in
      ap (λ (xs : List (Option ℕ)). xs ++ own_base_data_offsets id fs rest) (now id)
      ∙ by offset (own_base_data_offsets id fs rest) (eqb f.tfhd.track_id id) refl
      ∙ ap (λ (xs : List (Option ℕ)). base_data_offsets_at old id ++ xs)
      (sym (own_base_data_offsets-cons id f fs offset rest))
    where
      by : (offset : Option ℕ) (rest : List (Option ℕ)) (own : Bool) → eqb f.tfhd.track_id id ≡ own
          → cond own (base_data_offsets_at old f.tfhd.track_id ++ offset ∷ []) (base_data_offsets_at old id) ++ rest
          ≡ base_data_offsets_at old id ++ cond own (offset ∷ rest) rest
      by offset rest true is =
          append_assoc (base_data_offsets_at old f.tfhd.track_id) (offset ∷ []) rest
          ∙ ap (λ n. base_data_offsets_at old n ++ offset ∷ rest) (eqb-true f.tfhd.track_id id is)
      by offset rest false is = refl

  -- after the last part there are none
  pub none_to_come : (kept : HashMap ℕ (List (Option ℕ)) S) (before : Option ℕ) (id : ℕ)
      → and_to_come kept before [] id ≡ base_data_offsets_at kept id
  unfolding own_base_data_offsets
  none_to_come kept before id = append-nil (base_data_offsets_at kept id)
