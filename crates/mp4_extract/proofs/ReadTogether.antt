-- Samples that lie one after the other, and what is read of them.
use Rattle.std.proofs.Common.{◌≡◌, ◌∙◌, ℕ, zero, suc, ◌+◌, ◌-◌, ◌≤◌, List, [], ◌∷◌, take, drop, length}
use Rattle.std.proofs.Common.{Option, Some, None, Result, Ok, Err, refl, sym, ap, add-one, arith, drop-drop}
use Rattle.std.proofs.Common.{Bool, true, false}
use Rattle.std.proofs.Math.ListN.{take-append-drop}
use Rattle.std.proofs.lemmas.Bool.{le-ltb}
use Rattle.std.proofs.lemmas.List.{drop-take, length-drop, length-take-le, nil_from_length, take-take}
use Rattle.std.specs.Prelude.{IfSome, nat_lt, if◌then◌else◌}
use Rattle.std.specs.HashMap.{HashMap}
use Rattle.mp4_codec.specs.Cause.{Cause, end_of_data}
use Rattle.mp4_source.specs.Answers.{IsLength}
use Rattle.mp4_samples.specs.declared.sample.Place.{Place}
use Rattle.mp4_samples.specs.Samples.{TimedSample, read_at, read_in}
use Rattle.mp4_lookup.specs.declared.track.Mp4Track.{Mp4Track}
use Rattle.mp4_lookup.specs.InOrder.{and_others, answers_from}
use Rattle.mp4_lookup.specs.Tracks.{answer_at}
use Rattle.mp4_lookup.specs.TrackRuns.{track_runs}
use Rattle.mp4_media.specs.MovieTracks.{at_id}
use Rattle.mp4_media.specs.Reading.{located_in, placed_in, sample_with}
use Rattle.mp4_media.proofs.FoundBoxes.{of_known, of_known_by}
use Rattle.mp4_media.proofs.Placed.{sample_in-located}
use Rattle.mp4_extract.specs.declared.form.SampleForm.{SampleForm}
use Rattle.mp4_extract.specs.declared.form.SampleForm.TheVariants.{AsStored}
use Rattle.mp4_extract.specs.Extracting.{AreSamplesIn, IsReadIn}
use Rattle.mp4_extract.specs.Neighbours.{AreNeighbours}
use Rattle.mp4_extract.proofs.Refused.{of_bytes}

-- where a track's lookups lead
abbrev pub places_of : Mp4Track → ℕ → Result (Option Place) Cause
places_of t k = answer_at t.trak t.trafs (track_runs t) k

first_given : (r : Result (Option Place) Cause) (others rest : List (Result Place Cause)) (p : Place)
    → and_others r others ≡ Ok p ∷ rest → (r ≡ Ok (Some p)) × (rest ≡ others)
first_given (Ok (Some q)) others rest p e = (cc, cc)
first_given (Ok None) others rest p e = absurd cc
first_given (Err c) others rest p e = absurd cc

-- the first answer of a walk is that of its number, where it is a place, and the others are those from the next on
pub first_of : (t : Mp4Track) (n k : ℕ) (p : Place) (rest : List (Result Place Cause))
    → answers_from n t k ≡ Ok p ∷ rest → (places_of t k ≡ Ok (Some p)) × (rest ≡ answers_from (n - 1) t (k + 1))
unfolding answers_from
first_of t zero k p rest e = absurd cc
first_of t (suc n) k p rest e =
    let first = first_given (places_of t k) (answers_from n t (k + 1)) rest p e in
    let same : n ≡ suc n - 1 = omega arith in
    (first.0, first.1 ∙ ap (λ m. answers_from m t (k + 1)) same)

module _ (places : ℕ → Result (Option Place) Cause) (k : ℕ) where
  pub one_there : (p : Place) → places k ≡ Ok (Some p) → AreNeighbours places k p.offset 1 p.size
  one_there p here =
      let same : k + 0 ≡ k = omega arith in
      (0, p, refl, ap places same ∙ here, omega arith, omega arith)

  pub one_more_there : (offset n size sum : ℕ) (p : Place) → AreNeighbours places k offset n size
      → places (k + n) ≡ Ok (Some p) → p.offset ≡ offset + size → sum ≡ size + p.size
      → AreNeighbours places k offset (n + 1) sum
  one_more_there offset n size sum p before here begins is = rw add-one (size, p, before, here, begins, is)

-- the same by other lookups that answer the same
pub there_too : (places others : ℕ → Result (Option Place) Cause) → ((j : ℕ) → places j ≡ others j)
    → (k offset n size : ℕ) → AreNeighbours places k offset n size → AreNeighbours others k offset n size
there_too places others same k offset zero size there = there
there_too places others same k offset (suc n) size there = (
  there.0,
  there.1,
  there_too places others same k offset n there.0 there.2,
  sym (same (k + n)) ∙ there.3,
  there.4,
  there.5,
)

module _ {S : Type 0} (tracks : HashMap ℕ Mp4Track S) (id : ℕ) (t : Mp4Track) (there : at_id tracks id ≡ Some t) where
  pub located : (j : ℕ) → places_of t j ≡ located_in tracks id j
  unfolding located_in
  located j = rw there refl

-- bytes of a source, and those after them
cut : (before last size offset next : ℕ) (buffer source : List ℕ) → size ≡ before + last → next ≡ offset + before
    → buffer ≡ take size (drop offset source)
    → (take before buffer ≡ take before (drop offset source)) × (drop before buffer ≡ take last (drop next source))
cut before last size offset next buffer source all after is =
    let whole : buffer ≡ take (before + last) (drop offset source) =
    is ∙ ap (λ m. take m (drop offset source)) all in (
      ap (take before) whole ∙ take-take before (before + last) (drop offset source) (omega arith),
      ap (drop before) whole ∙ drop-take before last (drop offset source)
          ∙ ap (take last) (drop-drop before offset source ∙ ap (λ m. drop m source) (sym after)),
    )

module _ {S : Type 0} (known : Option (List ℕ)) (len : ℕ) (measured : IsLength known len)
    (tracks : HashMap ℕ Mp4Track S) (id : ℕ) where
  -- the last of these bytes are a sample that was read
  last_there : (j : ℕ) (p : Place) (bytes : List ℕ) → located_in tracks id j ≡ Ok (Some p) → p.offset + p.size ≤ len
      → length bytes ≡ p.size → IfSome known (λ source. bytes ≡ take p.size (drop p.offset source))
      → IsReadIn known len tracks id j (Ok (Some (sample_with bytes p)))
  last_there j p bytes here ends is held =
      let placed : placed_in len tracks id j ≡ Ok (Some p) = rw (here, le-ltb len (p.offset + p.size) ends) refl in
      of_bytes len tracks id j known p bytes placed is
      (of_known_by known _ _ _ measured held
      (λ source measured held. rw (sample_in-located source tracks id j, ← measured, placed, held) refl))

  -- the bytes of neighbours that lie within the file are those of its samples, joined
  pub samples_there : (k offset n size : ℕ) (buffer : List ℕ) → AreNeighbours (located_in tracks id) k offset n size
      → offset + size ≤ len → length buffer ≡ size → IfSome known (λ source. buffer ≡ take size (drop offset source))
      → AreSamplesIn AsStored (IsReadIn known len tracks id) k n buffer
  samples_there k offset zero size buffer there ends is held = nil_from_length buffer (is ∙ there)
  samples_there k offset (suc n) size buffer there ends is held =
      let before = there.0 in
      let last = there.1 in
      let parts = of_known known _ (λ source. (take before buffer ≡ take before (drop offset source))
      × (drop before buffer ≡ take last.size (drop last.offset source))) held
      (λ source held. cut before last.size size offset last.offset buffer source there.5 there.4 held) in (
        take before buffer,
        drop before buffer,
        samples_there k offset n before (take before buffer) there.2 (omega (arith, ends, there.5))
            (length-take-le before buffer (omega (arith, is, there.5)))
            (of_known known _ _ parts (λ source both. both.0)),
        (
          sample_with (drop before buffer) last,
          last_there (k + n) last (drop before buffer) there.3 (omega (arith, ends, there.4, there.5))
              (omega (arith, length-drop before buffer, is, there.5))
              (of_known known _ _ parts (λ source both. both.1)),
          refl,
        ),
        sym (take-append-drop before buffer),
      )

-- what was read at a place has its bytes
bytes_of : Result (Option TimedSample) Cause → List ℕ
bytes_of (Ok (Some s)) = s.sample.bytes
bytes_of (Ok None) = []
bytes_of (Err c) = []

held_is : (source buffer : List ℕ) (p : Place) → read_in source (Some p) ≡ Ok (Some (sample_with buffer p))
    → buffer ≡ take p.size (drop p.offset source)
unfolding bytes_of
held_is source buffer p e = by (nat_lt (length source) (p.offset + p.size)) e
  where
    by : (b : Bool)
        → (if b then Err end_of_data else Ok (Some (read_at source p))) ≡ Ok (Some (sample_with buffer p))
        → buffer ≡ take p.size (drop p.offset source)
    by true e = absurd cc
    by false e = sym (ap bytes_of e)

-- neighbours that were read are samples
pub neighbours_read : {S : Type 0} (known : Option (List ℕ)) (len : ℕ) → IsLength known len
    → (tracks : HashMap ℕ Mp4Track S) (id : ℕ) (form : SampleForm) (k offset n size : ℕ) (p : Place) (buffer : List ℕ)
    → form ≡ AsStored → AreNeighbours (located_in tracks id) k offset n size → p.offset ≡ offset → p.size ≡ size
    → p.offset + p.size ≤ len → length buffer ≡ p.size
    → IfSome known (λ source. read_in source (Some p) ≡ Ok (Some (sample_with buffer p)))
    → AreSamplesIn form (IsReadIn known len tracks id) k n buffer
neighbours_read known len measured tracks id form k offset n size p buffer stored there begins has ends is read =
    rw stored (samples_there known len measured tracks id k offset n size buffer there (rw (begins, has) at ends)
    (is ∙ has) (rw (begins, has) at (of_known known _ _ read (λ source e. held_is source buffer p e))))
