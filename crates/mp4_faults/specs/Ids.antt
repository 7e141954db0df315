-- The first wrong id of a movie and its fragments (ISO/IEC 14496-12, 8.3.2 and 8.8.7).
use Rattle.std.specs.Prelude.{◌≡◌, ◌<◌, ℕ, ◌^◌, nat_eq, Bool, List, ◌∷◌, ◌++◌, length, Option, Some, None, ◌==◌}
use Rattle.std.specs.Prelude.{Result, Ok, Err}
use Rattle.std.specs.List.{list_any}
use Rattle.std.specs.HashSet.{HashSet, contains}
use Rattle.mp4_codec.specs.declared.error.Error.{Error}
use Rattle.mp4_codec.specs.declared.error.Error.TheVariants.{OutOfMemory}
use Rattle.mp4_codec.specs.Cause.{Cause, invalid_data, trak_not_found}
use Rattle.mp4_codec.specs.Boxes.{all_refusal}
use Rattle.mp4_boxes.specs.declared.moov.MoovBox.{MoovBox}
use Rattle.mp4_boxes.specs.declared.trak.TrakBox.{TrakBox}
use Rattle.mp4_moof.specs.declared.moof.MoofBox.{MoofBox}
use Rattle.mp4_moof.specs.declared.traf.TrafBox.{TrafBox}
use Rattle.mp4_media.specs.MovieTracks.{zero_id, unknown_id, unknown_ids, id_fault}
use Rattle.mp4_faults.specs.declared.ids.IdFault.{IdFault}
use Rattle.mp4_faults.specs.declared.ids.IdFault.TheVariants.{Track, Fragment}

-- the first of a list that is refused, for this cause; so many are before it
pub record IsFirstIn {A : Type 0} (refusal : A → Option Cause) (xs : List A) (index : ℕ) (x : A) (c : Cause)
    : Type 0 where
  pub before : List A
  pub after : List A
  pub is : xs ≡ before ++ x ∷ after
  pub count : length before ≡ index
  pub faultless : all_refusal refusal before ≡ None
  pub refused : refusal x ≡ Some c

-- whether one of these tracks has an id
abbrev pub known_in : List TrakBox → ℕ → Bool
known_in traks id = list_any (λ (t : TrakBox). t.tkhd.track_id == id) traks

module _ {S : Type 0} where
  -- whether an id is in a set of ids
  abbrev pub has_id : HashSet ℕ S → ℕ → Bool
  has_id ids id = contains nat_eq ids id

-- why the track fragments of a movie fragment are refused
abbrev pub moof_refusal : (ℕ → Bool) → MoofBox → Option Cause
moof_refusal known moof = all_refusal (unknown_id known) moof.trafs

-- What a call says of tracks: none has the id 0, or this is the index of the first that has.
abbrev pub FindsZero : List TrakBox → Option ℕ → Type 0
FindsZero traks None = all_refusal zero_id traks ≡ None
FindsZero traks (Some index) = (t : TrakBox) × IsFirstIn zero_id traks index t invalid_data

-- The same of track fragments of tracks that aren't known.
abbrev pub FindsUnknown : (ℕ → Bool) → List TrafBox → Option (ℕ × ℕ) → Type 0
FindsUnknown known trafs None = all_refusal (unknown_id known) trafs ≡ None
FindsUnknown known trafs (Some x) = (t : TrafBox) × IsFirstIn (unknown_id known) trafs x.0 t (trak_not_found x.1)

-- a track fragment is the first of an unknown track: that at an index of the movie fragment at another
pub record IsFirstUnknown (known : ℕ → Bool) (moofs : List MoofBox) (moof traf id : ℕ) : Type 0 where
  pub m : MoofBox
  pub first_moof : IsFirstIn (moof_refusal known) moofs moof m (trak_not_found id)
  pub t : TrafBox
  pub first_traf : IsFirstIn (unknown_id known) m.trafs traf t (trak_not_found id)

abbrev pub FindsUnknownIn : (ℕ → Bool) → List MoofBox → Option (ℕ × ℕ × ℕ) → Type 0
FindsUnknownIn known moofs None = unknown_ids known moofs ≡ None
FindsUnknownIn known moofs (Some x) = IsFirstUnknown known moofs x.0 x.1 x.2

-- a wrong id is the first: that of a track, or where no track's is wrong that of a fragment
abbrev pub IsFirstId : MoovBox → List MoofBox → IdFault → Type 0
IsFirstId moov moofs (Track index) = (t : TrakBox) × IsFirstIn zero_id moov.traks index t invalid_data
IsFirstId moov moofs (Fragment moof traf id) =
    (all_refusal zero_id moov.traks ≡ None) × IsFirstUnknown (known_in moov.traks) moofs moof traf id

-- its indices are below those that a list can have
abbrev pub IsFew : IdFault → Type 0
IsFew (Track index) = index < 2 ^ 63
IsFew (Fragment moof traf id) = (moof < 2 ^ 63) × (traf < 2 ^ 63)

-- the cause of a wrong id
abbrev pub cause_of_id : IdFault → Cause
cause_of_id (Track index) = invalid_data
cause_of_id (Fragment moof traf id) = trak_not_found id

-- What a call says of the ids of a movie and its fragments.
abbrev pub TellsIds : MoovBox → List MoofBox → Option IdFault → Type 0
TellsIds moov moofs None = id_fault moov moofs ≡ None
TellsIds moov moofs (Some wrong) =
    (id_fault moov moofs ≡ Some (cause_of_id wrong)) × IsFirstId moov moofs wrong

-- the same of a call that may run out of memory
abbrev pub AnswersIds : MoovBox → List MoofBox → Result (Option IdFault) Error → Type 0
AnswersIds moov moofs (Ok told) = TellsIds moov moofs told
AnswersIds moov moofs (Err e) = e ≡ OutOfMemory
