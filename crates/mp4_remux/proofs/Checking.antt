-- A file that was written, and another of which each sample is the same.
use Rattle.std.proofs.Common.{◌≡◌, ◌∙◌, ◌⊎◌, ℕ, ◌+◌, ◌≤◌, ◌<◌, List, length, Option, None, Some, Result, Ok}
use Rattle.std.proofs.Common.{IfSome, Bool, true, false, nat_lt, option_map, refl, sym, ap, subst, arith, inl, inr}
use Rattle.std.proofs.lemmas.Bool.{ltb-true, ltb-false}
use Rattle.std.specs.Prelude.{slice_get, slice_index_or}
use Rattle.mp4_codec.specs.Cause.{Cause, ◌>>=◌}
use Rattle.mp4_codec.specs.declared.error.Error.{Error}
use Rattle.mp4_codec.specs.declared.error.Error.TheVariants.{OutOfMemory}
use Rattle.mp4_codec.specs.Cursor.{here}
use Rattle.mp4_lookup.specs.declared.track.Mp4Track.{Mp4Track}
use Rattle.mp4_lookup.specs.Tracks.{sample_at}
use Rattle.mp4_lookup.specs.TrackRuns.{track_runs}
use Rattle.mp4_samples.specs.declared.sample.SamplePlace.{SamplePlace}
use Rattle.mp4_samples.specs.Samples.{TimedSample}
use Rattle.mp4_source.specs.Answers.{RefusesRead}
use Rattle.mp4_source.specs.declared.file_error.FileError.{FileError}
use Rattle.mp4_source.specs.declared.file_error.FileError.TheVariants.{Mp4 as of_mp4, Io as file_refused}
use Rattle.mp4_media.specs.declared.movie.Movie.{Movie}
use Rattle.mp4_media.specs.FileBoxes.{OpenedFile, opened_movie}
use Rattle.mp4_media.specs.FileGrammar.{IsFile}
use Rattle.mp4_media.specs.MovieTracks.{AreTracks, at_id, opened_track}
use Rattle.mp4_media.specs.Reading.{sample_count_in, sample_in, sample_there, track_or}
use Rattle.mp4_remux.specs.Reads.{count_of, read_of}
use Rattle.mp4_remux.specs.declared.error.RemuxError.{RemuxError}
use Rattle.mp4_remux.specs.declared.error.RemuxError.TheVariants.{Mp4, Read, Write, Twice, SaysPlaces}
use Rattle.mp4_remux.specs.declared.error.RemuxError.TheVariants.{TooManySamples, OtherTracks, Differs}
use Rattle.mp4_remux.specs.declared.error.RemuxError.TheVariants.{SaysOfSamples, StartsElsewhere, SameIds}
use Rattle.mp4_remux.specs.Errors.{IsNamed, SaysOther, of_file}
use Rattle.mp4_remux.specs.Remuxed.{AreOthers, IsChecked, IsNoFile, IsOnlyFile, IsSameNumber, IsSameTrack}
use Rattle.mp4_remux.proofs.Sameness.{counted_there, got}

-- what is read of an opened movie is what its tracks have
pub read_in_there : (m : Movie) → AreTracks m.moov m.moofs m.moof_places m.tracks → (id : ℕ) (file : List ℕ) (k : ℕ)
    → read_of file (opened_movie m) id k ≡ sample_in file m.tracks id k
unfolding read_of sample_in
read_in_there m are id file k = rw (sym (are id)) (by (at_id m.tracks id))
  where
    by : (o : Option Mp4Track)
        → (track_or id (option_map opened_track o) >>= λ t. sample_at file t.trak t.trafs t.runs k)
        ≡ (track_or id o >>= λ t. sample_at file t.trak t.trafs (track_runs t) k)
    by None = refl
    by (Some t) = refl

-- what is answered twice is the same
pub got_ok : {X : Type 0} (r : Result X Cause) (x y : X) → r ≡ Ok x → r ≡ Ok y → x ≡ y
got_ok r x y is also = cc

pub same_there : (s t : TimedSample) → Some s ≡ Some t → t ≡ s
same_there s t is = cc

module _ (b a : Movie) (id : ℕ) (known known_after : Option (List ℕ)) where
  -- what holds of the bytes of both, where they are known
  abbrev pub OfBoth : (List ℕ → List ℕ → Type 0) → Type 0
  OfBoth P = IfSome known (λ xs. IfSome known_after (λ ys. P xs ys))

  abbrev pub NumberIsRead : ℕ → Bool → Type 0
  NumberIsRead k there = OfBoth (λ xs ys. IsSameNumber xs ys (opened_movie b) (opened_movie a) id k there)

  -- the numbers up to this one have the same samples
  abbrev pub AreRead : ℕ → Type 0
  AreRead count = (k : ℕ) → 1 ≤ k → k ≤ count → NumberIsRead k true

  pub none_yet : AreRead 0
  none_yet k some le = absurd (omega (arith, some, le))

  pub one_more : (count : ℕ) → AreRead count → NumberIsRead (count + 1) true → AreRead (count + 1)
  one_more count upto next k some le = by (nat_lt count k) refl
    where
      by : (c : Bool) → nat_lt count k ≡ c → NumberIsRead k true
      by true is = subst (λ n. NumberIsRead n true) (omega (arith, le, ltb-true count k is)) next
      by false is = upto k some (omega (arith, ltb-false count k is))

module _ (b a : Movie) (id : ℕ) (known known_after : Option (List ℕ))
    (were : AreTracks b.moov b.moofs b.moof_places b.tracks) (are : AreTracks a.moov a.moofs a.moof_places a.tracks)
  where
    -- both have the same sample there
    pub both_read : (k : ℕ) (p q : SamplePlace) (read written : List ℕ)
        → IfSome known (λ xs. sample_in xs b.tracks id k ≡ Ok (Some (sample_there read p)))
        → IfSome known_after (λ ys. sample_in ys a.tracks id k ≡ Ok (Some (sample_there written q)))
        → sample_there written q ≡ sample_there read p → NumberIsRead b a id known known_after k true
    both_read k p q read written was is same = by known known_after was is
      where
        by : (c d : Option (List ℕ)) → IfSome c (λ xs. sample_in xs b.tracks id k ≡ Ok (Some (sample_there read p)))
            → IfSome d (λ ys. sample_in ys a.tracks id k ≡ Ok (Some (sample_there written q)))
            → IfSome c (λ xs. IfSome d (λ ys. IsSameNumber xs ys (opened_movie b) (opened_movie a) id k true))
        by None d was is = tt
        by (Some xs) None was is = tt
        by (Some xs) (Some ys) was is = (
          sample_there read p,
          (
            read_in_there b were id xs k ∙ was,
            read_in_there a are id ys k ∙ is ∙ ap (λ s. Ok (Some s)) same,
          ),
        )

    -- neither has one there
    pub none_read : (k : ℕ) → IfSome known (λ xs. sample_in xs b.tracks id k ≡ Ok None)
        → IfSome known_after (λ ys. sample_in ys a.tracks id k ≡ Ok None)
        → NumberIsRead b a id known known_after k false
    none_read k was is = by known known_after was is
      where
        by : (c d : Option (List ℕ)) → IfSome c (λ xs. sample_in xs b.tracks id k ≡ Ok None)
            → IfSome d (λ ys. sample_in ys a.tracks id k ≡ Ok None)
            → IfSome c (λ xs. IfSome d (λ ys. IsSameNumber xs ys (opened_movie b) (opened_movie a) id k false))
        by None d was is = tt
        by (Some xs) None was is = tt
        by (Some xs) (Some ys) was is = (read_in_there b were id xs k ∙ was, read_in_there a are id ys k ∙ is)

    -- after the last there is none
    pub track_is_read : (count n : ℕ) → AreRead b a id known known_after count
        → NumberIsRead b a id known known_after (count + 1) false
        → sample_count_in b.tracks id ≡ Ok n → sample_count_in a.tracks id ≡ Ok n
        → OfBoth b a id known known_after (λ xs ys. IsSameTrack xs ys (opened_movie b) (opened_movie a) id)
    track_is_read count n upto past was is = by known known_after upto past
      where
        by : (c d : Option (List ℕ))
            → ((k : ℕ) → 1 ≤ k → k ≤ count → IfSome c (λ xs. IfSome d (λ ys.
            IsSameNumber xs ys (opened_movie b) (opened_movie a) id k true)))
            → IfSome c (λ xs. IfSome d (λ ys.
            IsSameNumber xs ys (opened_movie b) (opened_movie a) id (count + 1) false))
            → IfSome c (λ xs. IfSome d (λ ys. IsSameTrack xs ys (opened_movie b) (opened_movie a) id))
        by None d upto past = tt
        by (Some xs) None upto past = tt
        by (Some xs) (Some ys) upto past = record {
          count = count;
          same = upto;
          none = inr past;
          counted = counted_there a are id ∙ is ∙ sym was ∙ sym (counted_there b were id);
        }

    -- a track that says that it has no samples
    pub empty_is_read : sample_count_in b.tracks id ≡ Ok 0 → sample_count_in a.tracks id ≡ Ok 0
        → OfBoth b a id known known_after (λ xs ys. IsSameTrack xs ys (opened_movie b) (opened_movie a) id)
    empty_is_read was is = by known known_after
      where
        by : (c d : Option (List ℕ))
            → IfSome c (λ xs. IfSome d (λ ys. IsSameTrack xs ys (opened_movie b) (opened_movie a) id))
        by None d = tt
        by (Some xs) None = tt
        by (Some xs) (Some ys) = record {
          count = 0;
          same = λ k some le. absurd (omega (arith, some, le));
          none = inl (refl, counted_there b were id ∙ was);
          counted = counted_there a are id ∙ is ∙ sym was ∙ sym (counted_there b were id);
        }

-- all tracks of these ids are the same
pub checked : (b a : Movie) (known known_after : Option (List ℕ)) (ids : List ℕ)
    → IfSome known (λ xs. IsFile (length xs) (here xs 0) (opened_movie b))
    → IfSome known_after (λ ys. IsFile (length ys) (here ys 0) (opened_movie a))
    → length a.moov.traks ≡ length ids
    → ((id i : ℕ) → slice_get ids i ≡ Some id → IfSome known (λ xs. IfSome known_after (λ ys.
    IsSameTrack xs ys (opened_movie b) (opened_movie a) id)))
    → IfSome known (λ xs. IfSome known_after (λ ys. IsChecked xs ys ids))
checked b a None known_after ids opens opens_after many same = tt
checked b a (Some xs) None ids opens opens_after many same = tt
checked b a (Some xs) (Some ys) ids opens opens_after many same = record {
  opened = opened_movie b;
  rewritten = opened_movie a;
  opens = opens;
  opens_after = opens_after;
  as_many = many;
  tracks = same;
}

-- one more of the ids was looked at
pub id_more : (ids : List ℕ) (P : ℕ → Type 0) (n : ℕ) → ((id i : ℕ) → i < n → slice_get ids i ≡ Some id → P id)
    → P (slice_index_or ids n 0) → (id i : ℕ) → i < n + 1 → slice_get ids i ≡ Some id → P id
id_more ids P n upto next id i lt there = by (nat_lt i n) refl
  where
    by : (c : Bool) → nat_lt i n ≡ c → P id
    by true yet = upto id i (ltb-true i n yet) there
    by false yet =
        let last : i ≡ n = omega (arith, lt, ltb-false i n yet) in
        subst P (got ids n id 0 (subst (λ k. slice_get ids k ≡ Some id) last there)) next

-- ONE THAT ISN'T THE OTHER

-- what a file is refused for doesn't say so
pub of_file_alone : (e : FileError) → SaysOther (of_file e) → ⊥
of_file_alone (of_mp4 e) other = other
of_file_alone (file_refused e) other = other

-- what says so is no refusal of memory, source or sink
pub other_is_named : (e : RemuxError) → SaysOther e → IsNamed e
other_is_named (Mp4 e) other = absurd other
other_is_named (Read e) other = other
other_is_named (Write e) other = other
other_is_named (Twice name) other = absurd other
other_is_named (SaysPlaces name place) other = absurd other
other_is_named (TooManySamples track) other = absurd other
other_is_named (SaysOfSamples name place) other = absurd other
other_is_named (StartsElsewhere track number) other = absurd other
other_is_named SameIds other = absurd other
other_is_named OtherTracks other = tt
other_is_named (Differs track number) other = tt

-- a sample that is refused for what it is isn't read
pub refused_there : (known : Option (List ℕ)) (can_refuse : Bool) (e : Error)
    (answer : List ℕ → Result (Option TimedSample) Cause) → (e ≡ OutOfMemory → ⊥)
    → IfSome known (λ ys. RefusesRead can_refuse (of_mp4 e) (answer ys))
    → IfSome known (λ ys. (o : Option TimedSample) → answer ys ≡ Ok o → ⊥)
refused_there None can_refuse e answer room refused = tt
refused_there (Some ys) can_refuse e answer room (inl none) = λ o is. room none
refused_there (Some ys) can_refuse e answer room (inr refused) = λ o is. absurd cc

module _ (b a : Movie) (id : ℕ) (known known_after : Option (List ℕ))
    (were : AreTracks b.moov b.moofs b.moof_places b.tracks) (are : AreTracks a.moov a.moofs a.moof_places a.tracks)
  where
    -- at this number they aren't the same
    abbrev pub NumberIsOther : ℕ → Type 0
    NumberIsOther k = OfBoth b a id known known_after (λ xs ys. (there : Bool)
        → IsSameNumber xs ys (opened_movie b) (opened_movie a) id k there → ⊥)

    abbrev pub TrackIsOther : Type 0
    TrackIsOther = OfBoth b a id known known_after (λ xs ys.
        IsSameTrack xs ys (opened_movie b) (opened_movie a) id → ⊥)

    pub refused_after : (k : ℕ)
        → IfSome known_after (λ ys. (o : Option TimedSample) → sample_in ys a.tracks id k ≡ Ok o → ⊥)
        → NumberIsOther k
    refused_after k none = by known known_after none
      where
        by : (c d : Option (List ℕ))
            → IfSome d (λ ys. (o : Option TimedSample) → sample_in ys a.tracks id k ≡ Ok o → ⊥)
            → IfSome c (λ xs. IfSome d (λ ys. (there : Bool)
            → IsSameNumber xs ys (opened_movie b) (opened_movie a) id k there → ⊥))
        by None d none = tt
        by (Some xs) None none = tt
        by (Some xs) (Some ys) none = on
          where
            on : (there : Bool) → IsSameNumber xs ys (opened_movie b) (opened_movie a) id k there → ⊥
            on true s = none (Some s.0) (sym (read_in_there a are id ys k) ∙ s.1.1)
            on false s = none None (sym (read_in_there a are id ys k) ∙ s.1)

    pub answered_otherwise : (k : ℕ) (p q : Option TimedSample) → (p ≡ q → ⊥)
        → IfSome known (λ xs. sample_in xs b.tracks id k ≡ Ok p)
        → IfSome known_after (λ ys. sample_in ys a.tracks id k ≡ Ok q) → NumberIsOther k
    answered_otherwise k p q differ was is = by known known_after was is
      where
        by : (c d : Option (List ℕ)) → IfSome c (λ xs. sample_in xs b.tracks id k ≡ Ok p)
            → IfSome d (λ ys. sample_in ys a.tracks id k ≡ Ok q)
            → IfSome c (λ xs. IfSome d (λ ys. (there : Bool)
            → IsSameNumber xs ys (opened_movie b) (opened_movie a) id k there → ⊥))
        by None d was is = tt
        by (Some xs) None was is = tt
        by (Some xs) (Some ys) was is = on
          where
            before : read_of xs (opened_movie b) id k ≡ Ok p
            before = read_in_there b were id xs k ∙ was

            after : read_of ys (opened_movie a) id k ≡ Ok q
            after = read_in_there a are id ys k ∙ is

            on : (there : Bool) → IsSameNumber xs ys (opened_movie b) (opened_movie a) id k there → ⊥
            on true s =
                let one : p ≡ Some s.0 = got_ok _ p (Some s.0) before s.1.0 in
                let other : q ≡ Some s.0 = got_ok _ q (Some s.0) after s.1.1 in
                differ (one ∙ sym other)
            on false s =
                let one : p ≡ None = got_ok _ p None before s.0 in
                let other : q ≡ None = got_ok _ q None after s.1 in
                differ (one ∙ sym other)

    -- they don't say the same number of samples
    pub counted_otherwise : (r : Result ℕ Cause) → (r ≡ sample_count_in b.tracks id → ⊥)
        → sample_count_in a.tracks id ≡ r → TrackIsOther
    counted_otherwise r differ is = by known known_after
      where
        by : (c d : Option (List ℕ)) → IfSome c (λ xs. IfSome d (λ ys.
            IsSameTrack xs ys (opened_movie b) (opened_movie a) id → ⊥))
        by None d = tt
        by (Some xs) None = tt
        by (Some xs) (Some ys) =
            λ same. differ (sym is ∙ sym (counted_there a are id) ∙ same.counted ∙ counted_there b were id)

    -- the number after those that are the same isn't
    pub next_is_other : (k n : ℕ) → AreRead b a id known known_after k → sample_count_in b.tracks id ≡ Ok n
        → (n ≡ 0 → ⊥) → NumberIsOther (k + 1) → TrackIsOther
    next_is_other k n upto was some otherwise = by known known_after upto otherwise
      where
        by : (c d : Option (List ℕ))
            → ((j : ℕ) → 1 ≤ j → j ≤ k → IfSome c (λ xs. IfSome d (λ ys.
            IsSameNumber xs ys (opened_movie b) (opened_movie a) id j true)))
            → IfSome c (λ xs. IfSome d (λ ys. (there : Bool)
            → IsSameNumber xs ys (opened_movie b) (opened_movie a) id (k + 1) there → ⊥))
            → IfSome c (λ xs. IfSome d (λ ys. IsSameTrack xs ys (opened_movie b) (opened_movie a) id → ⊥))
        by None d upto otherwise = tt
        by (Some xs) None upto otherwise = tt
        by (Some xs) (Some ys) upto otherwise = λ same. on same (nat_lt k same.count) refl
          where
            ends : (same : IsSameTrack xs ys (opened_movie b) (opened_movie a) id) → same.count ≤ k
                → IsSameNumber xs ys (opened_movie b) (opened_movie a) id (same.count + 1) false
                → (less : Bool) → nat_lt same.count k ≡ less → ⊥
            ends same le past true lt =
                let s = upto (same.count + 1) (omega arith) (omega (arith, ltb-true same.count k lt)) in
                let none = got_ok _ None (Some s.0) past.0 s.1.0 in absurd cc
            ends same le past false ge =
                let last : same.count ≡ k = omega (arith, le, ltb-false same.count k ge) in
                otherwise false
                (subst (λ m. IsSameNumber xs ys (opened_movie b) (opened_movie a) id (m + 1) false) last past)

            on : (same : IsSameTrack xs ys (opened_movie b) (opened_movie a) id) → (more : Bool)
                → nat_lt k same.count ≡ more → ⊥
            on same true lt = otherwise true (same.same (k + 1) (omega arith) (omega (arith, ltb-true k same.count lt)))
            on same false ge = at_end same.none
              where
                at_end : ((same.count ≡ 0) × (count_of (opened_movie b) id ≡ Ok 0))
                    ⊎ IsSameNumber xs ys (opened_movie b) (opened_movie a) id (same.count + 1) false → ⊥
                at_end (inl empty) = some (got_ok _ n 0 (counted_there b were id ∙ was) empty.1)
                at_end (inr past) =
                    ends same (ltb-false k same.count ge) past (nat_lt same.count k) refl

-- one of the files is none
pub no_file_before : (known known_after : Option (List ℕ)) (ids : List ℕ) → IsNoFile known
    → AreOthers known known_after ids
no_file_before None known_after ids none = tt
no_file_before (Some xs) None ids none = tt
no_file_before (Some xs) (Some ys) ids none = λ checked. none checked.opened checked.opens

pub no_file_after : (known known_after : Option (List ℕ)) (ids : List ℕ) → IsNoFile known_after
    → AreOthers known known_after ids
no_file_after None known_after ids none = tt
no_file_after (Some xs) None ids none = tt
no_file_after (Some xs) (Some ys) ids none = λ checked. none checked.rewritten checked.opens_after

-- it has more tracks, or fewer
pub more_or_fewer : (a : Movie) (known known_after : Option (List ℕ)) (ids : List ℕ)
    → IsOnlyFile known_after (opened_movie a) → (length a.moov.traks ≡ length ids → ⊥) → AreOthers known known_after ids
more_or_fewer a None known_after ids only differ = tt
more_or_fewer a (Some xs) None ids only differ = tt
more_or_fewer a (Some xs) (Some ys) ids only differ =
    λ checked. differ (ap (λ (o : OpenedFile). length o.moov.traks) (only checked.rewritten checked.opens_after)
    ∙ checked.as_many)

-- a track of these ids isn't the same
pub track_is_other : (b a : Movie) (known known_after : Option (List ℕ)) (ids : List ℕ) (id i : ℕ)
    → IsOnlyFile known (opened_movie b) → IsOnlyFile known_after (opened_movie a) → slice_get ids i ≡ Some id
    → IfSome known (λ xs. IfSome known_after (λ ys. IsSameTrack xs ys (opened_movie b) (opened_movie a) id → ⊥))
    → AreOthers known known_after ids
track_is_other b a None known_after ids id i only only_after there otherwise = tt
track_is_other b a (Some xs) None ids id i only only_after there otherwise = tt
track_is_other b a (Some xs) (Some ys) ids id i only only_after there otherwise =
    λ checked. otherwise (subst (λ (o : OpenedFile). IsSameTrack xs ys o (opened_movie a) id)
    (sym (only checked.opened checked.opens))
    (subst (λ (o : OpenedFile). IsSameTrack xs ys checked.opened o id)
    (sym (only_after checked.rewritten checked.opens_after)) (checked.tracks id i there)))
