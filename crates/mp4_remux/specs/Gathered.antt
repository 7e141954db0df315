-- A movie whose fragments are gathered, and one of some of its tracks (ISO/IEC 14496-12, 8.8).
use Rattle.std.specs.Prelude.{◌≡◌, ◌++◌, ℕ, List, [], length, Option, None, IfSome}
use Rattle.mp4_codec.specs.declared.box_type.BoxType.TheVariants.{FtypBox as ftyp, MoovBox as moov}
use Rattle.mp4_codec.specs.Cursor.{here}
use Rattle.mp4_source.specs.Sink.{IsAppended}
use Rattle.mp4_media.specs.FileBoxes.{OpenedFile}
use Rattle.mp4_media.specs.FileGrammar.{IsFile, between}
use Rattle.mp4_remux.specs.declared.piece.Piece.{Piece}
use Rattle.mp4_remux.specs.declared.reference.Reference.{Reference}
use Rattle.mp4_remux.specs.declared.top_level.TopBox.{TopBox}
use Rattle.mp4_remux.specs.Front.{IsBoxOf}
use Rattle.mp4_remux.specs.declared.made.Made.{Made}
use Rattle.mp4_remux.specs.declared.made.Made.TheVariants.{Tables}
use Rattle.mp4_remux.specs.Headers.{DurationsOf, HasDurations, changed_by, made_of}
use Rattle.mp4_remux.specs.Kept.{IsKept, tracks}
use Rattle.mp4_remux.specs.Reads.{AreThere}
use Rattle.mp4_remux.specs.References.{AreLeftOut, KeepsReferences, references_in}
use Rattle.mp4_remux.specs.Remuxed.{IsRemuxed, ids_of, kept_of}
use Rattle.mp4_remux.specs.Splice.{spliced}

-- a file has a file type there, and a movie box of these bytes
pub record IsFrameOf (bytes : List ℕ) (file_type movie : TopBox) (movie_bytes : List ℕ) : Type 0 where
  pub has_file_type : IsBoxOf bytes ftyp file_type
  pub has_movie : IsBoxOf bytes moov movie
  pub movie_is : movie_bytes ≡ between bytes movie.place movie.end

-- a layout begins with a file type, and a movie box next that is as this one but for what is made anew, and whose
-- tracks have these ids and these references
pub record BeginsWith (what : Made) (ids : List ℕ) (references : List Reference) (file_type : TopBox)
    (movie_bytes made : List ℕ) (pieces : List Piece) : Type 0
  where
    pub movie : List ℕ
    pub kept : IsKept (changed_by what) tracks movie_bytes movie
    pub referring : references_in movie ids ≡ references
    pub bytes : (source : List ℕ) → (rest : List ℕ) × (spliced source made pieces
        ≡ between source file_type.place file_type.end ++ (movie ++ rest))

-- The one file begins as the other, with its file type and its movie box next: in this box the boxes that are made anew
-- may be others, and of its tracks these are kept, with their references to each other, where the others are left out,
-- with the references to them; all else of it is there.
pub record IsRebuilt (what : Made) (before after all kept_ids : List ℕ) (left_out : List Reference) : Type 0 where
  pub file_type : TopBox
  pub movie : TopBox
  pub made : List ℕ
  pub rest : List ℕ
  pub has_file_type : IsBoxOf before ftyp file_type
  pub has_movie : IsBoxOf before moov movie
  pub kept : IsKept (changed_by what) tracks (between before movie.place movie.end) made
  pub referring : KeepsReferences (between before movie.place movie.end) made all kept_ids
  pub gone : AreLeftOut (between before movie.place movie.end) all kept_ids left_out
  pub bytes : after ≡ between before file_type.place file_type.end ++ (made ++ rest)

-- After the bytes that a sink had come those of a file that was opened so, rebuilt with those of its tracks that have
-- these ids, where these references are left out.
abbrev pub WritesRebuilt : List ℕ → OpenedFile → List ℕ → List ℕ → List Reference → Option (List ℕ)
    → Option (List ℕ) → Type 0
WritesRebuilt before opened all kept left_out had has = (after : List ℕ) × (IsAppended had has after
    × (IsRebuilt (made_of opened) before after all kept left_out × ((rewritten : OpenedFile)
    × (IsRemuxed before after opened rewritten kept × DurationsOf (made_of opened) rewritten))))

-- The one file is the other with these of its tracks, which are all there, in the order of their boxes, and without
-- fragments: each sample of them is read as before, and the movie is as long as the longest of them. Their
-- references to other tracks are left out, and are these. Tables are made anew where the file has fragments.
pub record IsChosen (before after ids : List ℕ) (left_out : List Reference) : Type 0 where
  pub opened : OpenedFile
  pub rewritten : OpenedFile
  pub there : AreThere opened ids
  pub rebuilt : IsRebuilt (made_of opened) before after (ids_of opened.moov) (kept_of ids (ids_of opened.moov)) left_out
  pub durations : DurationsOf (made_of opened) rewritten
  pub remuxed : IsRemuxed before after opened rewritten (kept_of ids (ids_of opened.moov))

-- a file whose samples are all in its tables, which says that none may follow in fragments
pub record HasTablesAlone (bytes : List ℕ) (opened : OpenedFile) : Type 0 where
  pub opens : IsFile (length bytes) (here bytes 0) opened
  pub unfragmented : opened.moofs ≡ []
  pub no_more : opened.moov.mvex ≡ None

-- The one file is the other as it is, which has no fragments and says that none may follow; or with all its tracks, and
-- without fragments, where each sample is read as before, and the durations are those of the samples and the edits.
pub data IsGathered (before after : List ℕ) : Type 0 where
  as_it_is : (opened : OpenedFile) → HasTablesAlone before opened → after ≡ before → IsGathered before after
  gathered : (opened rewritten : OpenedFile) (left_out : List Reference)
      → IsRebuilt Tables before after (ids_of opened.moov) (ids_of opened.moov) left_out
      → IsRemuxed before after opened rewritten (ids_of opened.moov) → HasDurations rewritten
      → IsGathered before after

-- After the bytes that a sink had come those of a file with its fragments gathered.
abbrev pub WritesGathered : List ℕ → Option (List ℕ) → Option (List ℕ) → Type 0
WritesGathered before had has = (after : List ℕ) × (IsAppended had has after × IsGathered before after)

-- After the bytes that a sink had come those of a file of these tracks, where these references are left out.
abbrev pub WritesChosen : List ℕ → List ℕ → List Reference → Option (List ℕ) → Option (List ℕ) → Type 0
WritesChosen before ids left_out had has = (after : List ℕ) × (IsAppended had has after
    × IsChosen before after ids left_out)

-- Where the bytes are known, the samples of their file aren't all in its tables.
abbrev pub HasMoreThanTables : Option (List ℕ) → Type 0
HasMoreThanTables known = IfSome known (λ xs. (opened : OpenedFile) → HasTablesAlone xs opened → ⊥)
