-- How a movie box is edited, box by box.
use Rattle.std.specs.Prelude.{◌≡◌, ◌⊎◌, ◌<◌, ◌++◌, ⊤, ℕ, List, length, Option, None, IfSome}
use Rattle.std.specs.List.Sorted.{IsSorted}
use Rattle.std.specs.Ordering.{nat_cmp}
use Rattle.mp4_codec.specs.declared.error.Error.{Error}
use Rattle.mp4_codec.specs.declared.error.Error.TheVariants.{OutOfMemory, TooLarge}
use Rattle.mp4_codec.specs.declared.error.Limit.TheVariants.{BoxSize, TrackDuration}
use Rattle.mp4_remux.specs.Edit.{Change, IsEditedAt, entered, kept, left_out, moved, referring, shown, tabled, timed}
use Rattle.mp4_remux.specs.Moved.{HasRoom, IsWhyNotMoved, size_of, sized}
use Rattle.mp4_remux.specs.declared.movie_box.MovieEdit.{MovieEdit}
use Rattle.mp4_remux.specs.declared.movie_box.Step.{Step}
use Rattle.mp4_remux.specs.declared.movie_box.Step.TheVariants.{Drop, Edits, Enter, Header, Keep, Offsets, References}
use Rattle.mp4_remux.specs.declared.movie_box.Step.TheVariants.{Tables, TrackHeader}

-- the bytes are so many, as many as a header has
abbrev pub IsHeader : List ℕ → ℕ → Type 0
IsHeader header n = (length header ≡ n) × ((n ≡ 8) ⊎ (n ≡ 16))

-- the new bytes are those of a box with its size
abbrev pub IsSized : (header payload new : List ℕ) → Type 0
IsSized header payload new = HasRoom header (length payload) × (new ≡ sized header (length payload) ++ payload)

-- the same where others are before it
abbrev pub EndsSized : (before header payload new : List ℕ) → Type 0
EndsSized before header payload new =
    HasRoom header (length payload) × (new ≡ before ++ (sized header (length payload) ++ payload))

-- what becomes of a box at a step
abbrev pub change_in : Step → Change
change_in Keep = kept
change_in Drop = left_out
change_in Enter = entered
change_in (Offsets width) = moved (size_of width)
change_in (Header duration) = timed 4 duration
change_in (TrackHeader duration) = timed 8 duration
change_in (Edits last) = shown last
change_in (References ids) = referring ids.now
change_in (Tables tables) = tabled tables.now

-- boxes are entered at levels 0 to 4 alone
abbrev pub EntersAt : ℕ → Step → Type 0
EntersAt level Enter = level < 5
EntersAt level _ = ⊤

-- why a box at such a step isn't added
abbrev pub IsWhyNotAdded : Step → List ℕ → Error → Type 0
IsWhyNotAdded (Offsets width) before e = IsWhyNotMoved before e
IsWhyNotAdded Keep before e = IsWhyNotMoved before e
IsWhyNotAdded _ before e = ⊤

-- Why there are no such bytes: out of memory; or a size or a duration in them is too large to be said.
abbrev pub IsWhyNone : Option (List ℕ) → Error → Type 0
IsWhyNone made e = (e ≡ OutOfMemory) ⊎ (((e ≡ TooLarge BoxSize) ⊎ (e ≡ TooLarge TrackDuration)) × (made ≡ None))

-- the ids of references that stay are sorted, the lowest first
abbrev pub HasSorted : Step → Type 0
HasSorted (References ids) = IsSorted nat_cmp ids.now
HasSorted _ = ⊤

-- the ids of an edit are sorted, the lowest first
abbrev pub HasSortedIds : MovieEdit → Type 0
HasSortedIds edit = IfSome edit.ids (λ ids. IsSorted nat_cmp ids.items)

-- the new bytes are the old ones and what bytes at a level become
pub record AddsEdited (edit : MovieEdit) (to : ℕ → ℕ) (base level track : ℕ) (bytes old new : List ℕ) : Type 0 where
  pub after : List ℕ
  pub is : new ≡ old ++ after
  pub edited : IsEditedAt edit to base level track bytes after
