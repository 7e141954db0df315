-- Headers that were looked at, one after the other.
use Rattle.std.proofs.Common.{◌≡◌, ◌∙◌, ◌⊎◌, inl, inr, ℕ, suc, ◌+◌, ◌*◌, ◌≤◌, ◌<◌, List, [], ◌∷◌, length, drop}
use Rattle.std.proofs.Common.{Option, None, Some, Ok, Err, option_map, refl, sym, ap, subst, arith, max}
use Rattle.std.proofs.Common.{Bool, true, false, ◌==◌}
use Rattle.std.proofs.lemmas.Bool.{cases_lt, eqb-false, eqb-true}
use Rattle.std.specs.Prelude.{slice_get, slice_index_or}
use Rattle.mp4_codec.specs.Cause.{Cause, trak_not_found}
use Rattle.mp4_leaf.specs.declared.elst.ElstEntry.{ElstEntry}
use Rattle.mp4_boxes.specs.declared.trak.TrakBox.{TrakBox}
use Rattle.mp4_lookup.specs.declared.track.Mp4Track.{Mp4Track}
use Rattle.mp4_media.specs.declared.movie.Movie.{Movie}
use Rattle.mp4_media.specs.FileBoxes.{OpenedFile}
use Rattle.mp4_media.specs.MovieTracks.{AreTracks, OpenedTrack, at_id, opened_track, track_at}
use Rattle.mp4_media.specs.Reading.{needed_track, track_or}
use Rattle.mp4_remux.specs.declared.made.Made.{Made}
use Rattle.mp4_remux.specs.declared.made.Made.TheVariants.{Offsets, Tracks, Tables}
use Rattle.mp4_remux.specs.Headers.{DurationsOf, IsAsLong, IsShownUntil, IsTrackTime, KeepsTrack, edits_time, longest}
use Rattle.mp4_remux.specs.Headers.{IsEditAt, IsRoundedUp, IsTimeOf, edit_like}
use Rattle.mp4_remux.proofs.Numbered.{at_index, drop_next, drop_all}
use Rattle.mp4_remux.proofs.Sameness.{got}

-- EDITS

-- the edits from a number on begin with what is there
times_from : (es : List ElstEntry) (i n : ℕ) (d : ElstEntry) → i < length es → n ≡ suc i
    → edits_time (drop i es) ≡ (slice_index_or es i d).segment_duration + edits_time (drop n es)
unfolding edits_time
times_from es i n d lt is = ap edits_time (drop_next es i n d lt is)

no_time : (es : List ElstEntry) (i : ℕ) → length es ≤ i → edits_time (drop i es) ≡ 0
unfolding edits_time
no_time es i le = ap edits_time (drop_all es i le)

-- one edit more
pub time_more : (es : List ElstEntry) (i time next : ℕ) (d : ElstEntry) → i < length es
    → time + edits_time (drop i es) ≡ edits_time es → next ≡ time + (slice_index_or es i d).segment_duration
    → next + edits_time (drop (i + 1) es) ≡ edits_time es
time_more es i time next d lt upto is =
    omega (arith, upto, is, times_from es i (i + 1) d lt (omega arith))

-- those that are left are as long as the next one, or longer
pub time_past : (es : List ElstEntry) (i time most : ℕ) (d : ElstEntry) → i < length es
    → time + edits_time (drop i es) ≡ edits_time es → (time + (slice_index_or es i d).segment_duration < most → ⊥)
    → most ≤ edits_time es
time_past es i time most d lt upto past =
    by (cases_lt (time + (slice_index_or es i d).segment_duration) most)
  where
    by : (time + (slice_index_or es i d).segment_duration < most)
        ⊎ (most ≤ time + (slice_index_or es i d).segment_duration) → most ≤ edits_time es
    by (inl less) = absurd (past less)
    by (inr more) = omega (arith, upto, more, times_from es i (i + 1) d lt (omega arith))

-- all edits
pub time_of_all : (es : List ElstEntry) (i time : ℕ) → length es ≤ i
    → time + edits_time (drop i es) ≡ edits_time es → time ≡ edits_time es
time_of_all es i time le upto = omega (arith, upto, no_time es i le)

-- a track without edits
pub time_without : (t : TrakBox) (clock : ℕ) (es : List ElstEntry) → length es ≡ 0
    → IsRoundedUp t.mdia.mdhd.duration t.mdia.mdhd.timescale clock t.tkhd.duration → IsTimeOf t clock es
time_without t clock [] none is = is
time_without t clock (e ∷ es) none is = absurd (omega (arith, none))

-- one with edits
pub time_with : (t : TrakBox) (clock : ℕ) (es : List ElstEntry) → (length es ≡ 0 → ⊥)
    → t.tkhd.duration ≡ edits_time es → IsTimeOf t clock es
time_with t clock [] some is = absurd (some refl)
time_with t clock (e ∷ es) some is = is

-- the same of what its header says
pub without_time : (t : TrakBox) (clock : ℕ) (es : List ElstEntry) → length es ≡ 0 → IsTimeOf t clock es
    → IsRoundedUp t.mdia.mdhd.duration t.mdia.mdhd.timescale clock t.tkhd.duration
without_time t clock [] none is = is
without_time t clock (e ∷ es) none is = absurd (omega (arith, none))

pub with_time : (t : TrakBox) (clock : ℕ) (es : List ElstEntry) → (length es ≡ 0 → ⊥) → IsTimeOf t clock es
    → t.tkhd.duration ≡ edits_time es
with_time t clock [] some is = absurd (some refl)
with_time t clock (e ∷ es) some is = is

-- a clock without ticks
pub no_clock : (duration clock other shown : ℕ) → clock ≡ 0 → IsRoundedUp duration clock other shown → shown ≡ 0
no_clock duration clock other shown none (inl is) = is.1
no_clock duration clock other shown none (inr is) = absurd (omega (arith, none, is.0, is.1))

-- and one with ticks
pub some_clock : (duration clock other shown : ℕ) → (clock ≡ 0 → ⊥) → IsRoundedUp duration clock other shown
    → (duration * other ≤ shown * clock) × (shown * clock < duration * other + clock)
some_clock duration clock other shown some (inl is) = absurd (some is.0)
some_clock duration clock other shown some (inr is) = is

-- THE LONGEST TRACK

-- the tracks from a number on begin with what is there
longest_from : (ts : List TrakBox) (i n : ℕ) (d : TrakBox) → i < length ts → n ≡ suc i
    → longest (drop i ts) ≡ max (slice_index_or ts i d).tkhd.duration (longest (drop n ts))
unfolding longest
longest_from ts i n d lt is = ap longest (drop_next ts i n d lt is)

no_track : (ts : List TrakBox) (i : ℕ) → length ts ≤ i → longest (drop i ts) ≡ 0
unfolding longest
no_track ts i le = ap longest (drop_all ts i le)

-- one track more
pub longest_more : (ts : List TrakBox) (i most next : ℕ) (d : TrakBox) → i < length ts
    → max most (longest (drop i ts)) ≡ longest ts → next ≡ max (slice_index_or ts i d).tkhd.duration most
    → max next (longest (drop (i + 1) ts)) ≡ longest ts
longest_more ts i most next d lt upto is =
    omega (arith, upto, is, longest_from ts i (i + 1) d lt (omega arith))

-- all tracks
pub longest_of_all : (ts : List TrakBox) (i most : ℕ) → length ts ≤ i → max most (longest (drop i ts)) ≡ longest ts
    → most ≡ longest ts
longest_of_all ts i most le upto = omega (arith, upto, no_track ts i le)

-- WHAT STAYS

-- an edit that is as it was, at its number
pub edit_at : (was is : List ElstEntry) (i : ℕ) (d e : ElstEntry) → i < length was
    → slice_index_or is i e ≡ edit_like (slice_index_or was i d) (slice_index_or is i e)
    → ((i + 1 == length was) ≡ false → slice_index_or is i e ≡ slice_index_or was i d)
    → IsEditAt was i (slice_index_or is i e)
edit_at was is i d e lt like same = record {
  edit = slice_index_or was i d;
  there = at_index was i d lt;
  like = like;
  same = λ before. same (by (i + 1 == length was) refl before);
}
  where
    by : (c : Bool) → (i + 1 == length was) ≡ c → i + 1 < length was → (i + 1 == length was) ≡ false
    by true last before = absurd (omega (arith, eqb-true (i + 1) (length was) last, before))
    by false other before = other

-- an edit that isn't as it was, at its number
pub edit_is : (was is : List ElstEntry) (i : ℕ) (d e : ElstEntry) → i < length was
    → IsEditAt was i (slice_index_or is i e)
    → (slice_index_or is i e ≡ edit_like (slice_index_or was i d) (slice_index_or is i e))
    × ((i + 1 == length was) ≡ false → slice_index_or is i e ≡ slice_index_or was i d)
edit_is was is i d e lt at =
    let edit : at.edit ≡ slice_index_or was i d = sym (got was i at.edit d at.there) in (
      at.like ∙ ap (λ x. edit_like x (slice_index_or is i e)) edit,
      λ before.
          let last = eqb-false (i + 1) (length was) before in
          at.same (omega (arith, lt, last)) ∙ edit,
    )

-- a track that was found
found : {T : Type 0} (id : ℕ) (o : Option T) (t : T) → track_or id o ≡ Ok t → o ≡ Some t
found id None t is = absurd cc
found id (Some u) t is = cc

-- a track that was found is one of the file
pub track_there : (m : Movie) (are : AreTracks m.moov m.moofs m.moof_places m.tracks) (id : ℕ) (t : Mp4Track)
    → needed_track m.tracks id ≡ Ok t
    → (o : OpenedTrack) × (track_at m.moov m.moofs m.moof_places id ≡ Some o)
track_there m are id t is = (
  opened_track t,
  sym (are id) ∙ ap (λ (o : Option Mp4Track). option_map opened_track o) (found id (at_id m.tracks id) t is),
)

-- one that wasn't is none of the file
pub track_missing : (m : Movie) (are : AreTracks m.moov m.moofs m.moof_places m.tracks) (id : ℕ) (c : Cause)
    → needed_track m.tracks id ≡ Err c
    → (track_at m.moov m.moofs m.moof_places id ≡ None) × (trak_not_found id ≡ c)
track_missing m are id c is = by (at_id m.tracks id) refl is
  where
    by : (o : Option Mp4Track) → at_id m.tracks id ≡ o → track_or id o ≡ Err c
        → (track_at m.moov m.moofs m.moof_places id ≡ None) × (trak_not_found id ≡ c)
    by None at is = (sym (are id) ∙ ap (λ (o : Option Mp4Track). option_map opened_track o) at, cc)
    by (Some t) at is = absurd cc

pub keeps_more : (m : Movie) (are : AreTracks m.moov m.moofs m.moof_places m.tracks) (t : TrakBox) (was : Mp4Track)
    → needed_track m.tracks t.tkhd.track_id ≡ Ok was → KeepsTrack was.trak t
    → (o : OpenedTrack) × ((track_at m.moov m.moofs m.moof_places t.tkhd.track_id ≡ Some o) × KeepsTrack o.trak t)
keeps_more m are t was is keeps = (
  opened_track was,
  (
    sym (are t.tkhd.track_id)
        ∙ ap (λ (o : Option Mp4Track). option_map opened_track o)
        (found t.tkhd.track_id (at_id m.tracks t.tkhd.track_id) was is),
    keeps,
  ),
)

-- what is kept of a track is kept of the one that was found
pub kept_there : (m : Movie) (are : AreTracks m.moov m.moofs m.moof_places m.tracks) (t : TrakBox) (was : Mp4Track)
    → needed_track m.tracks t.tkhd.track_id ≡ Ok was
    → (o : OpenedTrack) × ((track_at m.moov m.moofs m.moof_places t.tkhd.track_id ≡ Some o) × KeepsTrack o.trak t)
    → KeepsTrack was.trak t
kept_there m are t was is kept =
    let there = sym (are t.tkhd.track_id)
    ∙ ap (λ (o : Option Mp4Track). option_map opened_track o)
    (found t.tkhd.track_id (at_id m.tracks t.tkhd.track_id) was is) in
    subst (λ (o : OpenedTrack). KeepsTrack o.trak t) (same kept.0 (opened_track was) (sym kept.1.0 ∙ there)) kept.1.1
  where
    same : (o p : OpenedTrack) → Some o ≡ Some p → o ≡ p
    same o p e = cc

-- and of none where none was found
pub none_kept : (m : Movie) (are : AreTracks m.moov m.moofs m.moof_places m.tracks) (t : TrakBox) (c : Cause)
    → needed_track m.tracks t.tkhd.track_id ≡ Err c
    → (o : OpenedTrack) × ((track_at m.moov m.moofs m.moof_places t.tkhd.track_id ≡ Some o) × KeepsTrack o.trak t) → ⊥
none_kept m are t c is kept =
    let none = sym (track_missing m are t.tkhd.track_id c is).0 ∙ kept.1.0 in absurd cc

-- the durations of what was made
pub durations_of : (made : Made) (opened : OpenedFile) → ((made ≡ Offsets → ⊥) → IsAsLong opened)
    → (made ≡ Tables → (t : TrakBox) (i : ℕ) → slice_get opened.moov.traks i ≡ Some t
    → IsTrackTime t opened.moov.mvhd.timescale)
    → (made ≡ Tables → (t : TrakBox) (i : ℕ) → slice_get opened.moov.traks i ≡ Some t
    → IsShownUntil opened t.tkhd.track_id t.mdia.mdhd.duration)
    → DurationsOf made opened
durations_of Offsets opened movie tracks media = tt
durations_of Tracks opened movie tracks media = movie (λ is. absurd cc)
durations_of Tables opened movie tracks media =
    record { movie = movie (λ is. absurd cc); tracks = tracks refl; media = media refl }
