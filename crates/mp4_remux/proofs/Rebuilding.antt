-- What is written of a movie whose tracks are chosen, or whose fragments are gathered.
use Rattle.std.proofs.Common.{◌≡◌, ◌∙◌, ℕ, List, [], ◌++◌, length, take, Option, None, Some, Result, Ok, Err, IfSome}
use Rattle.std.proofs.Common.{IfOk, OnOk, refl, sym, ap, subst, arith, ◌∷◌, ◌-◌, append_assoc}
use Rattle.mp4_codec.specs.Cursor.{here}
use Rattle.mp4_source.specs.Sink.{IsAppended}
use Rattle.mp4_media.specs.FileBoxes.{OpenedFile}
use Rattle.mp4_media.specs.FileGrammar.{IsFile, between}
use Rattle.mp4_remux.specs.declared.error.RemuxError.{RemuxError}
use Rattle.mp4_remux.specs.declared.layout.Layout.{Layout}
use Rattle.mp4_remux.specs.declared.piece.Piece.{Piece}
use Rattle.mp4_remux.specs.declared.top_level.TopBox.{TopBox}
use Rattle.mp4_remux.specs.Gathered.{IsFrameOf, BeginsWith, IsRebuilt, WritesRebuilt, WritesGathered, WritesChosen}
use Rattle.mp4_remux.specs.Gathered.{HasMoreThanTables, as_it_is, gathered}
use Rattle.mp4_remux.specs.declared.made.Made.{Made}
use Rattle.mp4_remux.specs.declared.made.Made.TheVariants.{Tables, Tracks}
use Rattle.mp4_remux.specs.Headers.{DurationsOf, changed_by, made_of}
use Rattle.mp4_remux.specs.Kept.{IsKept, tracks}
use Rattle.mp4_remux.specs.Reads.{AreThere}
use Rattle.mp4_remux.specs.References.{AreLeftOut, KeepsReferences, leaves_some, references_in, stays}
use Rattle.mp4_remux.specs.declared.reference.Reference.{Reference}
use Rattle.std.specs.List.{filter}
use Rattle.mp4_remux.specs.Remuxed.{IsOnlyFile, IsRemuxed, WritesRemuxed, ids_of, kept_of}
use Rattle.mp4_remux.specs.Splice.{spliced}

-- a piece was added to what was more
pub then_more : (first before after : List Piece) (bytes : List ℕ → List ℕ → List ℕ)
    → ((source made : List ℕ) → (more : List ℕ) × (spliced source made before ≡ spliced source made first ++ more))
    → ((source made : List ℕ) → spliced source made after ≡ spliced source made before ++ bytes source made)
    → (source made : List ℕ) → (more : List ℕ) × (spliced source made after ≡ spliced source made first ++ more)
then_more first before after bytes upto then source made =
    let m = upto source made in (
      m.0 ++ bytes source made,
      then source made ∙ ap (λ (xs : List ℕ). xs ++ bytes source made) m.1
          ∙ append_assoc (spliced source made first) m.0 (bytes source made),
    )

-- the first of two lists
pub front_of : (xs ys : List ℕ) → take (length xs) (xs ++ ys) ≡ xs
front_of [] ys = refl
front_of (x ∷ xs) ys = ap (λ (zs : List ℕ). x ∷ zs) (front_of xs ys)

-- a layout of such pieces begins with a movie box that is as it was
pub begins_with : (what : Made) (ids : List ℕ) (references : List Reference) (file_type : TopBox)
    (movie_bytes made header movie : List ℕ) (pieces : List Piece)
    (len : ℕ) → made ≡ movie ++ header → length movie ≡ len → IsKept (changed_by what) tracks movie_bytes movie
    → references_in movie ids ≡ references
    → ((source made : List ℕ) → (rest : List ℕ) × (spliced source made pieces
    ≡ between source file_type.place file_type.end ++ (between made 0 len ++ rest)))
    → BeginsWith what ids references file_type movie_bytes made pieces
begins_with what ids references file_type movie_bytes made header movie pieces len is long kept referring all =
    record {
      movie = movie;
      kept = kept;
      referring = referring;
      bytes = λ source.
          let a = all source made in
          let first : take (len - 0) made ≡ movie =
          ap (λ n. take n made) (omega (arith, long)) ∙ ap (λ (xs : List ℕ). take (length movie) xs) is
          ∙ front_of movie header in
          (a.0, a.1 ∙ ap (λ (m : List ℕ). between source file_type.place file_type.end ++ (m ++ a.0)) first);
    }

-- a layout that begins with the file type and the movie box is that of a file which is rebuilt
pub is_rebuilt : (xs : List ℕ) (l : Layout) (opened : OpenedFile) (all ids : List ℕ)
    (staying left_out : List Reference) (file_type movie : TopBox) (movie_bytes : List ℕ)
    → IsFrameOf xs file_type movie movie_bytes
    → BeginsWith (made_of opened) ids staying file_type movie_bytes l.made.items l.pieces.items
    → staying ≡ filter (stays (leaves_some all ids) ids) (references_in movie_bytes all)
    → AreLeftOut movie_bytes all ids left_out
    → IsRebuilt (made_of opened) xs (spliced xs l.made.items l.pieces.items) all ids left_out
is_rebuilt xs l opened all ids staying left_out file_type movie movie_bytes f b kept gone = record {
  file_type = file_type;
  movie = movie;
  made = b.movie;
  rest = (b.bytes xs).0;
  has_file_type = f.has_file_type;
  has_movie = f.has_movie;
  kept = subst (λ (bytes : List ℕ). IsKept (changed_by (made_of opened)) tracks bytes b.movie) f.movie_is b.kept;
  referring = subst (λ (bytes : List ℕ). KeepsReferences bytes b.movie all ids) f.movie_is (b.referring ∙ kept);
  gone = subst (λ (bytes : List ℕ). AreLeftOut bytes all ids left_out) f.movie_is gone;
  bytes = (b.bytes xs).1;
}

-- a layout that begins with the file type and the movie box is written
pub writes_rebuilt : (known had has : Option (List ℕ)) (r : Result (Unit {0}) RemuxError) (l : Layout)
    (opened : OpenedFile) (all ids : List ℕ) (staying left_out : List Reference) (file_type movie : TopBox)
    (movie_bytes : List ℕ)
    → OnOk r (IfSome known (λ xs. WritesRemuxed xs (spliced xs l.made.items l.pieces.items) opened (made_of opened) ids
    had has))
    → IfSome known (λ xs. IsFrameOf xs file_type movie movie_bytes)
    → BeginsWith (made_of opened) ids staying file_type movie_bytes l.made.items l.pieces.items
    → staying ≡ filter (stays (leaves_some all ids) ids) (references_in movie_bytes all)
    → AreLeftOut movie_bytes all ids left_out
    → OnOk r (IfSome known (λ xs. WritesRebuilt xs opened all ids left_out had has))
writes_rebuilt known had has (Err e) l opened all ids staying left_out file_type movie movie_bytes w f b kept gone = tt
writes_rebuilt None had has (Ok u) l opened all ids staying left_out file_type movie movie_bytes w f b kept gone = tt
writes_rebuilt (Some xs) had has (Ok u) l opened all ids staying left_out file_type movie movie_bytes w f b kept gone
    = (
      spliced xs l.made.items l.pieces.items,
      (
        w.0,
        (
          is_rebuilt xs l opened all ids staying left_out file_type movie movie_bytes f b kept gone,
          w.1,
        ),
      ),
    )

-- a file that isn't opened has no tables alone
pub not_alone : (known : Option (List ℕ)) → IfSome known (λ xs. (o : OpenedFile) → IsFile (length xs) (here xs 0) o → ⊥)
    → HasMoreThanTables known
not_alone None none = tt
not_alone (Some xs) none = λ o alone. none o alone.opens

tables_or_tracks : Tables ≡ Tracks → ⊥
tables_or_tracks e = absurd cc

-- nor has one of which tables are made
pub made_not_alone : (known : Option (List ℕ)) (opened : OpenedFile) → made_of opened ≡ Tables
    → IsOnlyFile known opened → HasMoreThanTables known
made_not_alone None opened made only = tt
made_not_alone (Some xs) opened made only = λ o alone.
    tables_or_tracks (sym made ∙ ap made_of (only o alone.opens) ∙ rw (alone.unfragmented, alone.no_more) refl)

-- a file without fragments is written as it is
pub writes_as_it_is : (known had has : Option (List ℕ)) (r : Result (Unit {0}) RemuxError) (opened : OpenedFile)
    → OnOk r (IfSome known (λ xs. IsAppended had has xs))
    → IfSome known (λ xs. IsFile (length xs) (here xs 0) opened) → opened.moofs ≡ [] → opened.moov.mvex ≡ None
    → OnOk r (IfSome known (λ xs. WritesGathered xs had has))
writes_as_it_is known had has (Err e) opened a f none no_more = tt
writes_as_it_is None had has (Ok u) opened a f none no_more = tt
writes_as_it_is (Some xs) had has (Ok u) opened a f none no_more = (
  xs,
  (a, as_it_is opened (record { opens = f; unfragmented = none; no_more = no_more }) refl),
)

-- a file with all its tracks is one whose fragments are gathered
pub writes_gathered : (known had has : Option (List ℕ)) (opened : OpenedFile) (all ids : List ℕ)
    (left_out : List Reference) → IfSome known (λ xs. WritesRebuilt xs opened all ids left_out had has)
    → all ≡ ids_of opened.moov → ids ≡ ids_of opened.moov → made_of opened ≡ Tables
    → IfSome known (λ xs. WritesGathered xs had has)
writes_gathered None had has opened all ids left_out w are is tables = tt
writes_gathered (Some xs) had has opened all ids left_out w are is tables = (
  w.0,
  (
    w.1.0,
    gathered opened w.1.1.1.0 left_out
        (subst (λ made. IsRebuilt made xs w.0 (ids_of opened.moov) (ids_of opened.moov) left_out) tables
        (subst (λ (list : List ℕ). IsRebuilt (made_of opened) xs w.0 (ids_of opened.moov) list left_out) is
        (subst (λ (list : List ℕ). IsRebuilt (made_of opened) xs w.0 list ids left_out) are w.1.1.0)))
        (subst (λ (kept : List ℕ). IsRemuxed xs w.0 opened w.1.1.1.0 kept) is w.1.1.1.1.0)
        (subst (λ made. DurationsOf made w.1.1.1.0) tables w.1.1.1.1.1),
  ),
)

-- a file with the tracks of these ids is one of them
pub writes_chosen : {A : Type 0} (left_out : A → List Reference) (known had has : Option (List ℕ))
    (r : Result A RemuxError) (opened : OpenedFile) (all kept ids : List ℕ)
    → IfOk r (λ x. IfSome known (λ xs. WritesRebuilt xs opened all kept (left_out x) had has))
    → all ≡ ids_of opened.moov → kept ≡ kept_of ids all → AreThere opened ids
    → IfOk r (λ x. IfSome known (λ xs. WritesChosen xs ids (left_out x) had has))
writes_chosen left_out known had has (Err e) opened all kept ids w are is there = tt
writes_chosen left_out None had has (Ok x) opened all kept ids w are is there = tt
writes_chosen left_out (Some xs) had has (Ok x) opened all kept ids w are is there =
    let kept_is : kept ≡ kept_of ids (ids_of opened.moov) = is ∙ ap (kept_of ids) are in (
      w.0,
      (
        w.1.0,
        record {
          opened = opened;
          rewritten = w.1.1.1.0;
          there = there;
          rebuilt =
              subst (λ (list : List ℕ). IsRebuilt (made_of opened) xs w.0 (ids_of opened.moov) list
              (left_out x)) kept_is
              (subst (λ (list : List ℕ). IsRebuilt (made_of opened) xs w.0 list kept (left_out x)) are w.1.1.0);
          durations = w.1.1.1.1.1;
          remuxed = subst (λ (list : List ℕ). IsRemuxed xs w.0 opened w.1.1.1.0 list) kept_is w.1.1.1.1.0;
        },
      ),
    )
