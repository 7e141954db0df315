-- What is read of samples, what sinks hold after a refusal, and why samples are refused.
use Rattle.std.proofs.Common.{◌≡◌, ◌∙◌, ◌⊎◌, inl, inr, ℕ, zero, suc, ◌+◌, ◌<◌, ◌≤◌, Bool, true, false, List, []}
use Rattle.std.proofs.Common.{Option, Some, None, Result, Ok, Err, refl, sym, ap, arith, length, take, drop, replicate}
use Rattle.std.proofs.KnownBytes.{Appends-trans}
use Rattle.std.proofs.lemmas.Bool.{ltb-false}
use Rattle.std.proofs.lemmas.List.{length-drop, length-replicate, length-take-le}
use Rattle.std.specs.Prelude.{IfSome, nat_lt, option_map, if◌then◌else◌}
use Rattle.std.specs.HashMap.{HashMap}
use Rattle.mp4_codec.specs.Cause.{Cause, cause_of, end_of_data, ◌>>=◌}
use Rattle.mp4_codec.specs.declared.error.Error.{Error}
use Rattle.mp4_codec.specs.declared.error.Error.TheVariants.{OutOfMemory as no_memory}
use Rattle.mp4_source.specs.declared.file_error.FileError.{FileError}
use Rattle.mp4_source.specs.declared.file_error.FileError.TheVariants.{Mp4, Io}
use Rattle.mp4_source.specs.Answers.{IsLength, RefusesRead}
use Rattle.mp4_samples.specs.Places.{place_of}
use Rattle.mp4_samples.specs.Samples.{TimedSample}
use Rattle.mp4_samples.specs.declared.sample.Place.{Place}
use Rattle.mp4_samples.specs.declared.sample.SamplePlace.{SamplePlace}
use Rattle.mp4_lookup.specs.declared.track.Mp4Track.{Mp4Track}
use Rattle.mp4_media.specs.Reading.{AnswersPlaced, IsPlaced, IsPlacedPast, located_in, placed_at, placed_in}
use Rattle.mp4_media.specs.Reading.{sample_in, sample_there, sample_with, within}
use Rattle.mp4_media.proofs.FoundBoxes.{of_known}
use Rattle.mp4_media.proofs.Placed.{sample_in-located}
use Rattle.mp4_extract.specs.declared.error.ExtractError.{ExtractError}
use Rattle.mp4_extract.specs.declared.error.ExtractError.TheVariants.{OutOfMemory, Track, WrongFormat, NoSuchSample}
use Rattle.mp4_extract.specs.declared.error.ExtractError.TheVariants.{OtherDescription, Sample, Read, Write}
use Rattle.mp4_extract.specs.declared.form.SampleForm.{SampleForm}
use Rattle.mp4_extract.specs.Errors.{of_file}
use Rattle.mp4_extract.specs.Extracting.{AreSamplesIn, AreWritten, HasFront, HoldsAfter, HoldsStored, IsReadIn}
use Rattle.mp4_extract.specs.Extracting.{IsThere, IsWriteOf, MayRefuse, Reading, RefusesNumber, RefusesOneFrom}
use Rattle.mp4_extract.specs.Extracting.{RefusesOne, RefusesStored, WantsRoom, WantsRoomFor, offset_in, offset_of}
use Rattle.mp4_extract.specs.Forms.{IsInForm}
use Rattle.mp4_extract.proofs.Joined.{others_more}

module _ (form : SampleForm) (readings : ℕ → Reading) (k : ℕ) where
  -- the bytes of one sample
  one_sample : (s : TimedSample) (bytes : List ℕ) → readings k (Ok (Some s)) → IsInForm form s.sample.bytes bytes
      → AreSamplesIn form readings (k + 0) 1 bytes
  one_sample s bytes there is =
      let same : k + 0 ≡ k = omega arith in
      rw same ([], bytes, refl, (s, rw same there, is), refl)

  -- a sink after a sample that was read
  pub stored_holds : (s : TimedSample) (old new : Option (List ℕ)) (e : ExtractError) → readings k (Ok (Some s))
      → HoldsStored form s.sample.bytes old new e → HoldsAfter form readings k 1 0 old new e
  stored_holds s old new (Write number e) there held = (
    [],
    refl,
    1,
    omega arith,
    held.0,
    one_sample s held.0 there held.1,
    held.2.0,
    held.2.1,
    held.2.2,
  )
  stored_holds s old new OutOfMemory there held = ([], refl, held)
  stored_holds s old new (Sample number place e) there held = ([], refl, held)
  stored_holds s old new (Read number e) there held = ([], refl, held)
  stored_holds s old new (Track e) there held = ([], refl, held)
  stored_holds s old new (WrongFormat id format) there held = ([], refl, held)
  stored_holds s old new (NoSuchSample id number count) there held = ([], refl, held)
  stored_holds s old new (OtherDescription number description format) there held = ([], refl, held)

  -- nothing after samples
  none_more : (old mid new : Option (List ℕ)) (n : ℕ) → AreWritten form readings k old mid n
      → AreWritten form readings (k + n) mid new 0 → AreWritten form readings k old new n
  none_more old mid new n first second =
      let same : n + 0 ≡ n = omega arith in
      rw same at (others_more form readings k old mid new n 0 first second)

  -- a sink after samples and a refusal
  pub holds_later : (old mid new : Option (List ℕ)) (n less most : ℕ) (e : ExtractError) → n + less ≤ most
      → AreWritten form readings k old mid n → HoldsAfter form readings (k + n) less 0 mid new e
      → HoldsAfter form readings k most n old new e
  holds_later old mid new n less most (Write number e) few first held =
      let same : k + n + 0 ≡ k + n = omega arith in (
        first.0,
        first.1,
        held.2,
        omega (arith, few, held.3),
        held.4,
        rw same at held.5,
        held.6,
        held.7,
        Appends-trans old mid new first.0 held.6 first.2 (rw held.1 at held.8),
      )
  holds_later old mid new n less most OutOfMemory few first held = none_more old mid new n first held
  holds_later old mid new n less most (Sample number place e) few first held = none_more old mid new n first held
  holds_later old mid new n less most (Read number e) few first held = none_more old mid new n first held
  holds_later old mid new n less most (Track e) few first held = none_more old mid new n first held
  holds_later old mid new n less most (WrongFormat id format) few first held = none_more old mid new n first held
  holds_later old mid new n less most (NoSuchSample id number count) few first held = none_more old mid new n first held
  holds_later old mid new n less most (OtherDescription number description format) few first held =
      none_more old mid new n first held

  -- the first of some samples is there
  first_there : (n : ℕ) (bytes : List ℕ) → AreSamplesIn form readings k (suc n) bytes → IsThere (readings k)
  first_there zero bytes are =
      let same : k + 0 ≡ k = omega arith in
      (are.3.0, rw same at are.3.1)
  first_there (suc n) bytes are = first_there n are.0 are.2

  pub some_there : (n : ℕ) (bytes : List ℕ) → 1 ≤ n → AreSamplesIn form readings k n bytes → IsThere (readings k)
  some_there zero bytes some are = absurd (omega (arith, some))
  some_there (suc n) bytes some are = first_there n bytes are

  -- samples of which a front was written
  pub part_holds : (n most : ℕ) (bytes : List ℕ) (old new : Option (List ℕ)) (e : ExtractError) → n ≤ most
      → AreSamplesIn form readings k n bytes → HasFront bytes old new → IsWriteOf k e
      → HoldsAfter form readings k most 0 old new e
  part_holds n most bytes old new (Write number e) few are front is =
      let same : k + 0 ≡ k = omega arith in
      ([], refl, n, omega (arith, few), bytes, rw same are, front.0, front.1, front.2)
  part_holds n most bytes old new OutOfMemory few are front is = absurd is
  part_holds n most bytes old new (Sample number place e) few are front is = absurd is
  part_holds n most bytes old new (Read number e) few are front is = absurd is
  part_holds n most bytes old new (Track e) few are front is = absurd is
  part_holds n most bytes old new (WrongFormat id format) few are front is = absurd is
  part_holds n most bytes old new (NoSuchSample id number count) few are front is = absurd is
  part_holds n most bytes old new (OtherDescription number description format) few are front is = absurd is

  -- one of some samples is refused, after those before it
  pub one_refused : (offsets : ℕ → Option ℕ) (most n less number : ℕ) (may_refuse : Type 0)
      (old mid new : Option (List ℕ)) (e : ExtractError) → number ≡ k + n → n < most → n + less ≤ most
      → AreWritten form readings k old mid n
      → RefusesNumber form (readings number) (offsets number) number may_refuse e
      → HoldsAfter form readings number less 0 mid new e
      → RefusesOneFrom form readings offsets k most may_refuse old new e
  one_refused offsets most n less number may_refuse old mid new e is few room before refused holds = (
    n,
    few,
    rw is at refused,
    holds_later old mid new n less most e room before (rw is at holds),
  )

module _ (form : SampleForm) (reading : Reading) (offset : Option ℕ) (k : ℕ) (may_refuse : Type 0) where
  -- the sink refused a sample that is there
  pub write_refused : (e : ExtractError) → IsWriteOf k e → IsThere reading
      → RefusesNumber form reading offset k may_refuse e
  write_refused (Write number e) is there = (is, there)
  write_refused OutOfMemory is there = absurd is
  write_refused (Sample number place e) is there = absurd is
  write_refused (Read number e) is there = absurd is
  write_refused (Track e) is there = absurd is
  write_refused (WrongFormat id format) is there = absurd is
  write_refused (NoSuchSample id number count) is there = absurd is
  write_refused (OtherDescription number description format) is there = absurd is

  -- a sample that was read is refused
  pub stored_refused : (s : TimedSample) (turned place : ℕ) (e : ExtractError) → reading (Ok (Some s))
      → offset ≡ Some place → RefusesStored form turned s.sample.bytes k place e
      → RefusesNumber form reading offset k may_refuse e
  stored_refused s turned place OutOfMemory there lies refused = (s, there)
  stored_refused s turned place (Sample number at e) there lies refused =
      (refused.0, refused.1 ∙ sym lies, inr (s, there, refused.2))
  stored_refused s turned place (Write number e) there lies refused = (refused, (s, there))
  stored_refused s turned place (Read number e) there lies refused = absurd refused
  stored_refused s turned place (Track e) there lies refused = absurd refused
  stored_refused s turned place (WrongFormat id format) there lies refused = absurd refused
  stored_refused s turned place (NoSuchSample id number count) there lies refused = absurd refused
  stored_refused s turned place (OtherDescription number description format) there lies refused = absurd refused

-- memory is wanted for a sample that was read
pub stored_wants : (form : SampleForm) (reading : Reading) (k stored turned place : ℕ) (s : TimedSample)
    (e : ExtractError) → reading (Ok (Some s)) → RefusesStored form turned s.sample.bytes k place e → e ≡ OutOfMemory
    → WantsRoom form stored turned reading
stored_wants form reading k stored turned place s OutOfMemory there refused is = (s, there, inr refused)
stored_wants form reading k stored turned place s (Sample number at e) there refused is = absurd cc
stored_wants form reading k stored turned place s (Write number e) there refused is = absurd cc
stored_wants form reading k stored turned place s (Read number e) there refused is = absurd cc
stored_wants form reading k stored turned place s (Track e) there refused is = absurd cc
stored_wants form reading k stored turned place s (WrongFormat id format) there refused is = absurd cc
stored_wants form reading k stored turned place s (NoSuchSample id number count) there refused is = absurd cc
stored_wants form reading k stored turned place s (OtherDescription number description format) there refused is =
    absurd cc

-- a place that was found lies within
within_is : (len : ℕ) (p q : Place) (b : Bool) → b ≡ nat_lt len (p.offset + p.size)
    → (let r : Result (Option Place) Cause = if b then Err end_of_data else Ok (Some p) in r) ≡ Ok (Some q)
    → (p ≡ q) × (p.offset + p.size ≤ len)
within_is len p q true is e = absurd cc
within_is len p q false is e = (cc, ltb-false len (p.offset + p.size) (sym is))

-- so was it before
placed_is : (len : ℕ) (r : Result (Option Place) Cause) (q : Place) → (r >>= within len) ≡ Ok (Some q)
    → (r ≡ Ok (Some q)) × (q.offset + q.size ≤ len)
placed_is len (Ok (Some p)) q e =
    let is = within_is len p q (nat_lt len (p.offset + p.size)) refl e in
    (ap (λ (x : Place). let r : Result (Option Place) Cause = Ok (Some x) in r) is.0, rw is.0 at is.1)
placed_is len (Ok None) q e = absurd cc
placed_is len (Err c) q e = absurd cc

-- the place of a sample with as many bytes
same_place : (p : Place) (bytes : List ℕ) → length bytes ≡ p.size → placed_at p.offset (sample_with bytes p) ≡ p
same_place p bytes is = rw is refl

module _ {S : Type 0} (len : ℕ) (tracks : HashMap ℕ Mp4Track S) (id k : ℕ) where
  -- the bytes of a sample that lies in the file, with a place of its own
  pub of_bytes : (known : Option (List ℕ)) (p : Place) (bytes : List ℕ) → placed_in len tracks id k ≡ Ok (Some p)
      → length bytes ≡ p.size → IfSome known (λ source. sample_in source tracks id k ≡ Ok (Some (sample_with bytes p)))
      → IsReadIn known len tracks id k (Ok (Some (sample_with bytes p)))
  of_bytes known p bytes placed is answer = (
    (p.offset, rw (same_place p bytes is) placed),
    answer,
  )

  -- the sample that was read into a buffer
  pub read_is : (known : Option (List ℕ)) (p : SamplePlace) (buffer : List ℕ)
      → placed_in len tracks id k ≡ Ok (Some (place_of p)) → length buffer ≡ p.size
      → IfSome known (λ source. sample_in source tracks id k ≡ Ok (Some (sample_there buffer p)))
      → IsReadIn known len tracks id k (Ok (Some (sample_there buffer p)))
  read_is known p buffer placed is answer = of_bytes known (place_of p) buffer placed is answer

  -- it lies there
  pub offset_is : (p : Place) → placed_in len tracks id k ≡ Ok (Some p) → offset_in tracks id k ≡ Some p.offset
  offset_is p placed = ap offset_of (placed_is len (located_in tracks id k) p placed).0

  -- a sample that lies in the file is there
  sample_at : (known : Option (List ℕ)) → IsLength known len → (p : Place)
      → placed_in len tracks id k ≡ Ok (Some p)
      → (s : TimedSample) × (IsReadIn known len tracks id k (Ok (Some s))) × (length s.sample.bytes ≡ p.size)
  sample_at None measured p placed =
      let bytes = replicate p.size 0 in
      let is : length bytes ≡ p.size = length-replicate p.size 0 in
      (sample_with bytes p, of_bytes None p bytes placed is tt, is)
  sample_at (Some source) measured p placed =
      let ends = (placed_is len (located_in tracks id k) p placed).1 in
      let bytes = take p.size (drop p.offset source) in
      let is : length bytes ≡ p.size =
      length-take-le p.size (drop p.offset source) (omega (arith, ends, measured, length-drop p.offset source)) in (
        sample_with bytes p,
        of_bytes (Some source) p bytes placed is
            (rw (sample_in-located source tracks id k, ← measured, placed) refl),
        is,
      )

  placed_there : (known : Option (List ℕ)) → IsLength known len → IsPlaced (placed_in len tracks id k)
      → IsThere (IsReadIn known len tracks id k)
  placed_there known measured placed =
      let found = sample_at known measured placed.0 placed.1 in
      (found.0, found.1)

  -- memory is wanted for a sample that is larger than its buffer
  large_wants : (known : Option (List ℕ)) → IsLength known len → (wants : TimedSample → Type 0) (stored : ℕ)
      → (p : Place) → placed_in len tracks id k ≡ Ok (Some p) → stored < p.size
      → WantsRoomFor wants stored (IsReadIn known len tracks id k)
  large_wants known measured wants stored p placed large =
      let found = sample_at known measured p placed in
      (found.0, found.1, inl (rw found.2 large))

  -- what is known of an error that isn't "out of memory"
  named : {A : Type 0} (e : Error) → (e ≡ no_memory → ⊥) → (e ≡ no_memory) ⊎ A → A
  named e other (inl memory) = absurd (other memory)
  named e other (inr a) = a

  fault_read : (known : Option (List ℕ)) (e : Error) → (e ≡ no_memory → ⊥)
      → (e ≡ no_memory) ⊎ (placed_in len tracks id k ≡ Err (cause_of e))
      → IfSome known (λ source. (e ≡ no_memory) ⊎ (sample_in source tracks id k ≡ Err (cause_of e)))
      → IsReadIn known len tracks id k (Err (cause_of e))
  fault_read known e other placed refused = (
    named e other placed,
    of_known known _ _ refused (λ source is. named e other is),
  )

  -- a sample that wasn't read is refused, whatever is wanted of it
  pub not_read : (known : Option (List ℕ)) → IsLength known len → (refuses : TimedSample → Error → Type 0)
      (written : Type 0) (can_refuse : Bool) (error : FileError)
      → (error ≡ Mp4 no_memory → IsPlaced (placed_in len tracks id k))
      → AnswersPlaced (λ (p : Option SamplePlace). option_map place_of p) (Err error) (placed_in len tracks id k)
      → IfSome known (λ source. RefusesRead can_refuse error (sample_in source tracks id k))
      → RefusesOne refuses written (IsReadIn known len tracks id k) (offset_in tracks id k) k
      (MayRefuse known can_refuse) (of_file k (offset_in tracks id k) error)
  not_read known measured refuses written can_refuse (Mp4 no_memory) memory placed refused =
      placed_there known measured (memory refl)
  not_read known measured refuses written can_refuse (Mp4 e) memory placed refused =
      (refl, refl, inl (fault_read known e (λ is. cc) placed refused))
  not_read known measured refuses written can_refuse (Io e) memory placed refused =
      (refl, placed_there known measured placed, refused)

  -- memory is wanted for it
  pub not_read_wants : (known : Option (List ℕ)) → IsLength known len → (wants : TimedSample → Type 0) (stored : ℕ)
      (place : Option ℕ) (error : FileError)
      → (error ≡ Mp4 no_memory → IsPlacedPast stored (placed_in len tracks id k))
      → of_file k place error ≡ OutOfMemory → WantsRoomFor wants stored (IsReadIn known len tracks id k)
  not_read_wants known measured wants stored place (Mp4 no_memory) memory is =
      let past = memory refl in
      large_wants known measured wants stored past.0 past.1 past.2
  not_read_wants known measured wants stored place (Mp4 e) memory is = absurd cc
  not_read_wants known measured wants stored place (Io e) memory is = absurd cc
