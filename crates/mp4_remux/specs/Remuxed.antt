-- A movie rewritten: every sample of every track is read as before.
use Rattle.std.specs.Prelude.{◌≡◌, ◌+◌, ◌≤◌, ◌==◌, ℕ, Bool, true, false, if◌then◌else◌, ◌⊎◌, Option, Some, None}
use Rattle.std.specs.Prelude.{List, [], ◌∷◌, length, map, slice_get}
use Rattle.std.specs.List.{list_any}
use Rattle.std.specs.Prelude.{IfSome, Ok}
use Rattle.mp4_codec.specs.Cursor.{here}
use Rattle.mp4_boxes.specs.declared.trak.TrakBox.{TrakBox}
use Rattle.mp4_boxes.specs.declared.moov.MoovBox.{MoovBox}
use Rattle.mp4_samples.specs.Samples.{TimedSample}
use Rattle.mp4_source.specs.Sink.{IsAppended}
use Rattle.mp4_media.specs.FileBoxes.{OpenedFile}
use Rattle.mp4_media.specs.FileGrammar.{IsFile}
use Rattle.mp4_remux.specs.declared.made.Made.{Made}
use Rattle.mp4_remux.specs.Headers.{DurationsOf, KeepsHeaders}
use Rattle.mp4_remux.specs.Reads.{count_of, read_of}

-- where the bytes are known, they are the file that is opened so, and no other
abbrev pub IsOnlyFile : Option (List ℕ) → OpenedFile → Type 0
IsOnlyFile known opened = IfSome known (λ xs. (o : OpenedFile) → IsFile (length xs) (here xs 0) o → opened ≡ o)

-- where the bytes are known, they are no file
abbrev pub IsNoFile : Option (List ℕ) → Type 0
IsNoFile known = IfSome known (λ xs. (o : OpenedFile) → IsFile (length xs) (here xs 0) o → ⊥)

-- the ids of a movie's tracks, in the order of their boxes (ISO/IEC 14496-12, 8.3.2)
abbrev pub ids_of : MoovBox → List ℕ
ids_of moov = map (λ (t : TrakBox). t.tkhd.track_id) moov.traks

-- at number k both files have this sample, or neither has one
abbrev pub IsSameNumber : List ℕ → List ℕ → OpenedFile → OpenedFile → ℕ → ℕ → Bool → Type 0
IsSameNumber before after opened rewritten id k true =
    (s : TimedSample) × ((read_of before opened id k ≡ Ok (Some s)) × (read_of after rewritten id k ≡ Ok (Some s)))
IsSameNumber before after opened rewritten id k false =
    (read_of before opened id k ≡ Ok None) × (read_of after rewritten id k ≡ Ok None)

-- The track with this id is read from one file as from the other: the same samples at the numbers from 1 on, with their
-- bytes, times and marks, and then none, or there are none as the track says; and both have equally many.
pub record IsSameTrack (before after : List ℕ) (opened rewritten : OpenedFile) (id : ℕ) : Type 0 where
  pub count : ℕ
  pub same : (k : ℕ) → 1 ≤ k → k ≤ count → IsSameNumber before after opened rewritten id k true
  pub none : ((count ≡ 0) × (count_of opened id ≡ Ok 0))
      ⊎ IsSameNumber before after opened rewritten id (count + 1) false
  pub counted : count_of rewritten id ≡ count_of opened id

-- of a list those that are among others, in its order
unfoldable pub kept_of : List ℕ → List ℕ → List ℕ
kept_of ids [] = []
kept_of ids (x ∷ xs) = if list_any (λ y. y == x) ids then x ∷ kept_of ids xs else kept_of ids xs

-- The one file is the other rewritten: both are files, the tracks of the rewritten one have these ids, it has no
-- fragments, its headers say what they did, but for durations, and each of its tracks is read from it as from the
-- other.
pub record IsRemuxed (before after : List ℕ) (opened rewritten : OpenedFile) (kept : List ℕ) : Type 0 where
  pub opens : IsFile (length before) (here before 0) opened
  pub opens_after : IsFile (length after) (here after 0) rewritten
  pub ids : ids_of rewritten.moov ≡ kept
  pub unfragmented : rewritten.moofs ≡ []
  pub headers : KeepsHeaders opened rewritten
  pub tracks : (t : TrakBox) (i : ℕ) → slice_get rewritten.moov.traks i ≡ Some t
      → IsSameTrack before after opened rewritten t.tkhd.track_id

-- After the bytes that a sink had come these, which are those of the file rewritten, with the durations of what was
-- made.
abbrev pub WritesRemuxed : List ℕ → List ℕ → OpenedFile → Made → List ℕ → Option (List ℕ) → Option (List ℕ) → Type 0
WritesRemuxed before after opened made kept had has = IsAppended had has after
    × ((rewritten : OpenedFile) × (IsRemuxed before after opened rewritten kept × DurationsOf made rewritten))

-- Both are files, and the tracks with these ids are read from the one as from the other, which has no more.
pub record IsChecked (before after ids : List ℕ) : Type 0 where
  pub opened : OpenedFile
  pub rewritten : OpenedFile
  pub opens : IsFile (length before) (here before 0) opened
  pub opens_after : IsFile (length after) (here after 0) rewritten
  pub as_many : length rewritten.moov.traks ≡ length ids
  pub tracks : (id i : ℕ) → slice_get ids i ≡ Some id → IsSameTrack before after opened rewritten id

-- where the bytes of both are known, the tracks with these ids aren't read from the one as from the other, or it has
-- more, or one is no file
abbrev pub AreOthers : Option (List ℕ) → Option (List ℕ) → List ℕ → Type 0
AreOthers known known_after ids = IfSome known (λ xs. IfSome known_after (λ ys. IsChecked xs ys ids → ⊥))
