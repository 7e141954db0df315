-- Tracks, fragments and defaults as they are gathered, each at the id of its track.
use Rattle.std.proofs.Common.{◌≡◌, ℕ, ◌+◌, ◌-◌, ◌<◌, ◌≤◌, Bool, true, false, cond, eqb, List, [], ◌∷◌, ◌++◌, length}
use Rattle.std.proofs.Common.{take, drop}
use Rattle.std.proofs.Common.{get_or, Option, Some, None, refl, sym, ap, ap₂, ◌∙◌, arith}
use Rattle.std.specs.Prelude.{nat_eq, option_map, is_some}
use Rattle.std.specs.List.{filter}
use Rattle.std.specs.HashMap.{HashMap}
use Rattle.std.proofs.lemmas.Bool.{eqb-true}
use Rattle.std.proofs.lemmas.List.{take_more, drop_more, append-nil}
use Rattle.std.proofs.lemmas.List.Elements.{filter-append}
use Rattle.mp4_codec.specs.Cause.{Cause, trak_not_found, ◌or◌}
use Rattle.mp4_codec.specs.Boxes.{all_refusal}
use Rattle.mp4_codec.specs.Children.{last}
use Rattle.mp4_codec.specs.GatherLaws.{last-push}
use Rattle.mp4_moof.specs.declared.trex.TrexBox.{TrexBox}
use Rattle.mp4_boxes.specs.declared.moov.MoovBox.{MoovBox}
use Rattle.mp4_boxes.specs.declared.trak.TrakBox.{TrakBox}
use Rattle.mp4_moof.specs.declared.moof.MoofBox.{MoofBox}
use Rattle.mp4_moof.specs.declared.traf.TrafBox.{TrafBox}
use Rattle.mp4_fragments.specs.declared.defaults.SampleDefaults.{SampleDefaults}
use Rattle.mp4_fragments.specs.Defaults.{defaults_of_trex}
use Rattle.mp4_fragments.specs.Fragments.{placed_runs, fragment_samples}
use Rattle.mp4_lookup.specs.declared.track.Mp4Track.{Mp4Track}
use Rattle.mp4_lookup.specs.TrackRuns.{track_runs}
use Rattle.mp4_lookup.specs.Tracks.{movie_end}
use Rattle.mp4_media.specs.FileBoxes.{later}
use Rattle.mp4_media.specs.MovieTracks.{trak_with_id, trafs_in, trafs_of, defaults_with_id, with_fragments}
use Rattle.mp4_media.specs.MovieTracks.{opened_track}
use Rattle.mp4_media.specs.MovieTracks.{track_at, at_id, has_id, fragments_at, AreTracks, default_duration}
use Rattle.mp4_media.specs.MovieTracks.{movie_defaults, track_base_data_offsets}
use Rattle.mp4_media.specs.MovieTracks.{zero_id, unknown_id, unknown_ids, id_fault}

-- the last that passes a test, with one more at the end
last-more : {A : Type 0} (p : A → Bool) (xs : List A) (x : A)
    → last (filter p (xs ++ x ∷ [])) ≡ cond (p x) (Some x) (last (filter p xs))
last-more {A} p xs x = ap last (filter-append p xs (x ∷ [])) ∙ by (p x)
  where
    by : (b : Bool) → last (filter p xs ++ cond b (x ∷ []) []) ≡ cond b (Some x) (last (filter p xs))
    by true = last-push (filter p xs) x
    by false = ap last (append-nil (filter p xs))

-- and with one more at the beginning
last-first : {A : Type 0} (b : Bool) (x : A) (xs : List A)
    → last (cond b (x ∷ xs) xs) ≡ later (last xs) (cond b (Some x) None)
last-first true x [] = refl
last-first {A} true x (y ∷ ys) = some (y ∷ ys) (λ e. absurd cc)
  where
    some : (zs : List A) → (zs ≡ [] → ⊥) → last zs ≡ later (last zs) (Some x)
    some [] h = absurd (h refl)
    some (z ∷ []) h = refl
    some (z ∷ w ∷ ws) h = some (w ∷ ws) (λ e. absurd cc)
last-first {A} false x xs = by (last xs)
  where
    by : (o : Option A) → o ≡ later o None
    by (Some y) = refl
    by None = refl

-- the defaults of a track, with one more
defaults-more : (id : ℕ) (trexs : List TrexBox) (i : ℕ) (d : TrexBox) → i < length trexs
    → defaults_with_id (take (i + 1) trexs) id
    ≡ cond (eqb (get_or trexs i d).track_id id) (Some (defaults_of_trex (get_or trexs i d)))
    (defaults_with_id (take i trexs) id)
defaults-more id trexs i d lt =
    let x = get_or trexs i d in
    ap (λ xs. defaults_with_id xs id) (take_more trexs i d lt)
    ∙ ap (option_map defaults_of_trex) (last-more (λ (x : TrexBox). eqb x.track_id id) (take i trexs) x)
    ∙ by (eqb x.track_id id) x (last (filter (λ (x : TrexBox). eqb x.track_id id) (take i trexs)))
  where
    by : (b : Bool) (x : TrexBox) (o : Option TrexBox)
        → option_map defaults_of_trex (cond b (Some x) o)
        ≡ cond b (Some (defaults_of_trex x)) (option_map defaults_of_trex o)
    by true x o = refl
    by false x o = refl

module _ {S : Type 0} where
  -- the defaults of one more are kept for the id of a track
  pub defaults_kept : (before after : HashMap ℕ SampleDefaults S) (trexs : List TrexBox) (i : ℕ) (d : TrexBox)
      (kept : SampleDefaults) → i < length trexs → kept ≡ defaults_of_trex (get_or trexs i d)
      → ((id : ℕ) → at_id after id ≡ cond (nat_eq (get_or trexs i d).track_id id) (Some kept) (at_id before id))
      → ((id : ℕ) → at_id before id ≡ defaults_with_id (take i trexs) id)
      → (id : ℕ) → at_id after id ≡ defaults_with_id (take (i + 1) trexs) id
  defaults_kept before after trexs i d kept lt is now then id =
      now id
      ∙ ap₂ (λ (k : SampleDefaults) (o : Option SampleDefaults). cond (eqb (get_or trexs i d).track_id id) (Some k) o)
      is (then id)
      ∙ sym (defaults-more id trexs i d lt)

-- The tracks that are made of the last so many boxes of a movie, of equal ids the last; and the fragments of all
-- others, which are still kept.
pub record Made {S T : Type 0} (moov : MoovBox) (moofs : List MoofBox) (places : List ℕ) (traks : List TrakBox)
    (tracks : HashMap ℕ Mp4Track S) (fragments : HashMap ℕ (List TrafBox) T) : Type 0 where
  pub made : (id : ℕ) → option_map opened_track (at_id tracks id)
      ≡ option_map (with_fragments moov moofs places) (trak_with_id traks id)
  pub left : (id : ℕ) → trak_with_id traks id ≡ None → fragments_at fragments id ≡ trafs_of (trafs_in moofs) id

pub made-none : {S T : Type 0} (moov : MoovBox) (moofs : List MoofBox) (places : List ℕ) (tracks : HashMap ℕ Mp4Track S)
    (fragments : HashMap ℕ (List TrafBox) T) → tracks.entries ≡ []
    → ((id : ℕ) → fragments_at fragments id ≡ trafs_of (trafs_in moofs) id) → Made moov moofs places [] tracks fragments
made-none moov moofs places tracks fragments empty all = record { made = λ id. rw empty refl; left = λ id none. all id }

-- all tracks are made
pub made-all : {S T : Type 0} (moov : MoovBox) (moofs : List MoofBox) (places : List ℕ) (traks : List TrakBox)
    (tracks : HashMap ℕ Mp4Track S) (fragments : HashMap ℕ (List TrafBox) T)
    → Made moov moofs places traks tracks fragments → traks ≡ moov.traks → AreTracks moov moofs places tracks
unfolding track_at
made-all moov moofs places traks tracks fragments w all id =
    w.made id ∙ ap (λ ts. option_map (with_fragments moov moofs places) (trak_with_id ts id)) all

-- the box before those that were looked at
pub box_before : (traks : List TrakBox) (i : ℕ) (t : TrakBox) → 0 < i → i ≤ length traks → t ≡ get_or traks (i - 1) t
    → drop (i - 1) traks ≡ t ∷ drop i traks
box_before traks i t some within is =
    drop_more traks (i - 1) t (omega arith)
    ∙ ap₂ (λ (x : TrakBox) (j : ℕ). x ∷ drop j traks) (sym is) (omega arith)

-- the track with an id, with one box more at the beginning
pub with_first : (t : TrakBox) (traks : List TrakBox) (id : ℕ)
    → trak_with_id (t ∷ traks) id ≡ later (trak_with_id traks id) (cond (eqb t.tkhd.track_id id) (Some t) None)
with_first t traks id = last-first (eqb t.tkhd.track_id id) t (filter (λ (x : TrakBox). eqb x.tkhd.track_id id) traks)

module _ {S T : Type 0} (moov : MoovBox) (moofs : List MoofBox) (places : List ℕ) (t : TrakBox) (traks : List TrakBox)
    (tracks : HashMap ℕ Mp4Track S) (fragments : HashMap ℕ (List TrafBox) T)
    (w : Made moov moofs places traks tracks fragments)
  where
    -- a box whose id is that of a later box
    pub made-passes : is_some (at_id tracks t.tkhd.track_id) ≡ true
        → Made moov moofs places (t ∷ traks) tracks fragments
    made-passes known = record {
      made = λ id. w.made id ∙ ap (option_map (with_fragments moov moofs places)) (sym (same id));
      left = λ id none. w.left id (sym (same id) ∙ none);
    }
      where
        there : (o : Option Mp4Track) (p : Option TrakBox) → is_some o ≡ true
            → option_map opened_track o ≡ option_map (with_fragments moov moofs places) p → (x : TrakBox) × (p ≡ Some x)
        there (Some y) (Some x) k e = (x, refl)
        there (Some y) None k e = absurd cc
        there None p k e = absurd cc

        same : (id : ℕ) → trak_with_id (t ∷ traks) id ≡ trak_with_id traks id
        same id = with_first t traks id ∙ by (eqb t.tkhd.track_id id) refl
          where
            none : (o : Option TrakBox) → later o None ≡ o
            none (Some x) = refl
            none None = refl

            by : (b : Bool) → eqb t.tkhd.track_id id ≡ b
                → later (trak_with_id traks id) (cond b (Some t) None) ≡ trak_with_id traks id
            by true is =
                let x = there (at_id tracks t.tkhd.track_id) (trak_with_id traks t.tkhd.track_id) known
                (w.made t.tkhd.track_id) in
                let found : trak_with_id traks id ≡ Some x.0 =
                ap (trak_with_id traks) (sym (eqb-true t.tkhd.track_id id is)) ∙ x.1 in
                rw found refl
            by false is = none (trak_with_id traks id)

    -- a box whose id no later box has
    box_unknown : is_some (at_id tracks t.tkhd.track_id) ≡ false → trak_with_id traks t.tkhd.track_id ≡ None
    box_unknown fresh =
        by (at_id tracks t.tkhd.track_id) (trak_with_id traks t.tkhd.track_id) fresh (w.made t.tkhd.track_id)
      where
        by : (o : Option Mp4Track) (p : Option TrakBox) → is_some o ≡ false
            → option_map opened_track o ≡ option_map (with_fragments moov moofs places) p → p ≡ None
        by (Some y) p none e = absurd cc
        by None (Some x) none e = absurd cc
        by None None none e = refl

    -- its fragments are still kept
    pub own_fragments : is_some (at_id tracks t.tkhd.track_id) ≡ false
        → fragments_at fragments t.tkhd.track_id ≡ trafs_of (trafs_in moofs) t.tkhd.track_id
    own_fragments fresh = w.left t.tkhd.track_id (box_unknown fresh)

    module _ {U : Type 0} (track : Mp4Track) (after : HashMap ℕ Mp4Track S) (rest : HashMap ℕ (List TrafBox) U)
        (fresh : is_some (at_id tracks t.tkhd.track_id) ≡ false) (trak_is : track.trak ≡ t)
        (trafs_is : track.trafs ≡ fragments_at fragments t.tkhd.track_id)
        (defaults : SampleDefaults) (defaults_is : defaults ≡ movie_defaults moov t.tkhd.track_id)
        (offsets : List (Option ℕ))
        (offsets_is : offsets ≡ track_base_data_offsets (movie_defaults moov) moofs places t.tkhd.track_id)
        (duration_is : track.default_sample_duration ≡ default_duration track.trafs defaults)
        (runs_is : track_runs track ≡ placed_runs defaults (movie_end t) track.trafs offsets)
        (now : (id : ℕ) → at_id after id ≡ cond (nat_eq t.tkhd.track_id id) (Some track) (at_id tracks id))
        (taken : (id : ℕ) → at_id rest id ≡ cond (nat_eq t.tkhd.track_id id) None (at_id fragments id)) where
      unknown : trak_with_id traks t.tkhd.track_id ≡ None
      unknown = box_unknown fresh

      same_trafs : track.trafs ≡ trafs_of (trafs_in moofs) t.tkhd.track_id
      same_trafs = trafs_is ∙ own_fragments fresh

      is : opened_track track ≡ with_fragments moov moofs places t
      unfolding fragment_samples
      is = rw (runs_is, duration_is, defaults_is, offsets_is, trak_is, same_trafs) refl

      -- its track is made
      pub made-takes : Made moov moofs places (t ∷ traks) after rest
      made-takes = record {
        made = λ id. by id (eqb t.tkhd.track_id id) refl;
        left = λ id none. others id (eqb t.tkhd.track_id id) refl none;
      }
        where
          by : (id : ℕ) (b : Bool) → eqb t.tkhd.track_id id ≡ b → option_map opened_track (at_id after id)
              ≡ option_map (with_fragments moov moofs places) (trak_with_id (t ∷ traks) id)
          by id true this =
              let none : trak_with_id traks id ≡ None =
              ap (trak_with_id traks) (sym (eqb-true t.tkhd.track_id id this)) ∙ unknown in
              rw (now id, with_first t traks id, this, none) (ap Some is)
          by id false this = rw (now id, with_first t traks id, this) (w.made id ∙ more (trak_with_id traks id))
            where
              more : (o : Option TrakBox)
                  → option_map (with_fragments moov moofs places) o
                  ≡ option_map (with_fragments moov moofs places) (later o None)
              more (Some x) = refl
              more None = refl

          others : (id : ℕ) (b : Bool) → eqb t.tkhd.track_id id ≡ b → trak_with_id (t ∷ traks) id ≡ None
              → fragments_at rest id ≡ trafs_of (trafs_in moofs) id
          others id true this none =
              let not = sym (with_first t traks id) ∙ none in
              let last_is : later (trak_with_id traks id) (Some t) ≡ None = rw this at not in
              absurd (some (trak_with_id traks id) last_is)
            where
              some : (o : Option TrakBox) → later o (Some t) ≡ None → ⊥
              some (Some x) e = cc
              some None e = cc
          others id false this none =
              let kept : fragments_at rest id ≡ fragments_at fragments id = rw (taken id, this) refl in
              kept ∙ w.left id (alone (trak_with_id traks id) (rw this at (sym (with_first t traks id) ∙ none)))
            where
              alone : (o : Option TrakBox) → later o None ≡ None → o ≡ None
              alone (Some x) e = e
              alone None e = refl

-- the ids that are known are those of the movie's tracks
known_ids : {S : Type 0} (moov : MoovBox) (moofs : List MoofBox) (places : List ℕ) (tracks : HashMap ℕ Mp4Track S)
    → AreTracks moov moofs places tracks → (id : ℕ) → has_id tracks id ≡ is_some (trak_with_id moov.traks id)
unfolding track_at
known_ids moov moofs places tracks h id = by (at_id tracks id) (trak_with_id moov.traks id) (h id)
  where
    by : (o : Option Mp4Track) (p : Option TrakBox)
        → option_map opened_track o ≡ option_map (with_fragments moov moofs places) p → is_some o ≡ is_some p
    by (Some y) (Some x) e = refl
    by (Some y) None e = absurd cc
    by None (Some x) e = absurd cc
    by None None e = refl

same_refusal : {B : Type 0} (f g : B → Option Cause) → ((x : B) → f x ≡ g x) → (xs : List B)
    → all_refusal f xs ≡ all_refusal g xs
same_refusal f g h [] = refl
same_refusal f g h (x ∷ xs) = ap₂ (λ (c d : Option Cause). c or d) (h x) (same_refusal f g h xs)

-- where no id of a track is 0, the fault of the ids is that of the fragments
pub id_fault-is : {S : Type 0} (moov : MoovBox) (moofs : List MoofBox) (places : List ℕ) (tracks : HashMap ℕ Mp4Track S)
    → AreTracks moov moofs places tracks → all_refusal zero_id moov.traks ≡ None
    → id_fault moov moofs ≡ unknown_ids (has_id tracks) moofs
unfolding id_fault
id_fault-is moov moofs places tracks h none =
    let known : ℕ → Bool = λ id. is_some (trak_with_id moov.traks id) in
    rw none
    (same_refusal (λ (m : MoofBox). all_refusal (unknown_id known) m.trafs)
    (λ (m : MoofBox). all_refusal (unknown_id (has_id tracks)) m.trafs)
    (λ m. same_refusal (unknown_id known) (unknown_id (has_id tracks))
    (λ f. ap (λ (b : Bool). cond b None (Some (trak_not_found f.tfhd.track_id)))
    (sym (known_ids moov moofs places tracks h f.tfhd.track_id))) m.trafs) moofs)
