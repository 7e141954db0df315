-- A sample that is at one place of a file and at another of its splice is read as before.
use Rattle.std.proofs.Common.{◌≡◌, ◌∙◌, ℕ, zero, suc, ◌+◌, ◌≤◌, ◌<◌, List, [], ◌∷◌, length, map, take, drop}
use Rattle.std.proofs.Common.{Option, None, Some, Ok, inl, inr}
use Rattle.std.proofs.Common.{ℤ, Bool, nat_lt, true, false, option_map, refl, sym, ap, subst, arith}
use Rattle.std.proofs.lemmas.Bool.{le-ltb, ltb-true, ltb-false}
use Rattle.std.proofs.lemmas.List.{length-map}
use Rattle.std.specs.Prelude.{slice_index_or}
use Rattle.mp4_codec.specs.Cause.{◌>>=◌}
use Rattle.mp4_boxes.specs.declared.trak.TrakBox.{TrakBox}
use Rattle.mp4_lookup.specs.declared.track.Mp4Track.{Mp4Track}
use Rattle.mp4_lookup.specs.Tracks.{answer_at, sample_at}
use Rattle.mp4_lookup.specs.TrackRuns.{track_runs}
use Rattle.mp4_lookup.specs.Rates.{sample_count_of}
use Rattle.mp4_samples.specs.declared.sample.Place.{Place}
use Rattle.mp4_samples.specs.Samples.{TimedSample, read_in, read_at}
use Rattle.mp4_media.specs.declared.movie.Movie.{Movie}
use Rattle.mp4_media.specs.FileBoxes.{opened_movie}
use Rattle.mp4_media.specs.MovieTracks.{AreTracks, at_id, opened_track}
use Rattle.mp4_media.specs.Reading.{located_in, sample_count_in, track_or}
use Rattle.mp4_remux.specs.declared.piece.Piece.{Piece}
use Rattle.mp4_remux.specs.Reads.{count_of, place_in, read_of}
use Rattle.mp4_remux.specs.Same.{IsSamePlace, IsNumberAsBefore, IsTrackAsBefore}
use Rattle.mp4_remux.specs.Splice.{spliced, Follow, IsPartOfBoth}
use Rattle.mp4_remux.proofs.Pieces.{length-spliced}
pub use Rattle.mp4_remux.proofs.Numbered.{got, got_within}

-- WHAT IS READ OF AN OPENED MOVIE

module _ (m : Movie) (are : AreTracks m.moov m.moofs m.moof_places m.tracks) (id : ℕ) where
  -- what is read at a number is what is at its place
  pub read_there : (file : List ℕ) (k : ℕ)
      → read_of file (opened_movie m) id k ≡ (located_in m.tracks id k >>= read_in file)
  unfolding read_of located_in sample_at
  read_there file k = rw (sym (are id)) (by (at_id m.tracks id))
    where
      by : (o : Option Mp4Track)
          → (track_or id (option_map opened_track o) >>= λ t. sample_at file t.trak t.trafs t.runs k)
          ≡ ((track_or id o >>= λ t. answer_at t.trak t.trafs (track_runs t) k) >>= read_in file)
      by None = refl
      by (Some t) = refl

  -- where a sample is
  pub placed_there : (k : ℕ) → place_in (opened_movie m) id k ≡ located_in m.tracks id k
  unfolding place_in located_in
  placed_there k = rw (sym (are id)) (by (at_id m.tracks id))
    where
      by : (o : Option Mp4Track)
          → (track_or id (option_map opened_track o) >>= λ t. answer_at t.trak t.trafs t.runs k)
          ≡ (track_or id o >>= λ t. answer_at t.trak t.trafs (track_runs t) k)
      by None = refl
      by (Some t) = refl

  -- how many samples a track has
  pub counted_there : count_of (opened_movie m) id ≡ sample_count_in m.tracks id
  unfolding count_of sample_count_in
  counted_there = rw (sym (are id)) (by (at_id m.tracks id))
    where
      by : (o : Option Mp4Track)
          → (track_or id (option_map opened_track o) >>= λ t. sample_count_of t.trak t.runs)
          ≡ (track_or id o >>= λ t. sample_count_of t.trak (track_runs t))
      by None = refl
      by (Some t) = refl

-- A SAMPLE AT TWO PLACES

-- a place of which so many bytes are there
read_within : (file : List ℕ) (p : Place) → p.offset + p.size ≤ length file
    → read_in file (Some p) ≡ Ok (Some (read_at file p))
read_within file p fits = rw (le-ltb (length file) (p.offset + p.size) fits) refl

abbrev sample_with : ℕ → List ℕ → ℕ → ℤ → Bool → TimedSample
sample_with start bytes duration offset sync = record {
  start_time = start;
  sample = record { bytes = bytes; duration = duration; rendering_offset = offset; is_sync = sync };
}

same_sample : (a b : ℕ) (xs ys : List ℕ) (c d : ℕ) (e f : ℤ) (g h : Bool) → a ≡ b → xs ≡ ys → c ≡ d → e ≡ f → g ≡ h
    → sample_with a xs c e g ≡ sample_with b ys d f h
same_sample a b xs ys c d e f g h ab xy cd ef gh = rw (ab, xy, cd, ef, gh) refl

module _ (source_len len : ℕ) (made : List ℕ) (pieces : List Piece) (f : Follow source_len (length made) 0 pieces len)
  where
    pub same_place : (p q : Place) → q.size ≡ p.size → q.start_time ≡ p.start_time → q.duration ≡ p.duration
        → q.rendering_offset ≡ p.rendering_offset → q.is_sync ≡ p.is_sync
        → IsPartOfBoth source_len len made pieces q.offset p.offset p.size → IsSamePlace source_len made pieces p q
    same_place p q size start duration offset sync both = λ source long.
        let whole = length-spliced source made pieces 0 len
        (subst (λ n. Follow n (length made) 0 pieces len) (sym long) f) in
        let there = read_within (spliced source made pieces) q (omega (arith, size, whole, both.there)) in
        let bytes : take q.size (drop q.offset (spliced source made pieces)) ≡ take p.size (drop p.offset source) =
        ap (λ n. take n (drop q.offset (spliced source made pieces))) size ∙ both.bytes source long in (
          read_at source p,
          (
            read_within source p (omega (arith, long, both.within)),
            there
                ∙ ap (λ (s : TimedSample). Ok (Some s)) (same_sample q.start_time p.start_time
                (take q.size (drop q.offset (spliced source made pieces))) (take p.size (drop p.offset source))
                q.duration p.duration q.rendering_offset p.rendering_offset q.is_sync p.is_sync
                start bytes duration offset sync),
          ),
        )

-- THE IDS

-- boxes that have these ids at each number have these ids
same_ids : (bs : List TrakBox) (ids : List ℕ) → length bs ≡ length ids
    → ((d : TrakBox) (n i : ℕ) → i < length bs → (slice_index_or bs i d).tkhd.track_id ≡ slice_index_or ids i n)
    → map (λ (t : TrakBox). t.tkhd.track_id) bs ≡ ids
same_ids [] [] e same = refl
same_ids [] (n ∷ ns) e same = absurd (omega (arith, e))
same_ids (b ∷ bs) [] e same = absurd (omega (arith, e))
same_ids (b ∷ bs) (n ∷ ns) e same =
    rw (same b n 0 (omega arith)) (ap (λ (ids : List ℕ). n ∷ ids)
    (same_ids bs ns (omega (arith, e)) (λ d m i lt. same d m (suc i) (omega (arith, lt)))))

-- the same, where all of them were looked at
pub have_ids : {bs : List TrakBox} (traks : List TrakBox) (ids : List ℕ) (n : ℕ) → bs ≡ traks
    → length bs ≡ length ids → n ≡ length bs
    → ((d : TrakBox) (m i : ℕ) → i < n → (slice_index_or bs i d).tkhd.track_id ≡ slice_index_or ids i m)
    → map (λ (t : TrakBox). t.tkhd.track_id) traks ≡ ids
have_ids {bs} traks ids n is e whole same =
    rw (sym is) (same_ids bs ids e (λ d m i lt. same d m i (omega (arith, lt, whole))))

-- boxes that have these ids have as many, and each at its number
pub as_many_ids : (bs traks : List TrakBox) (ids : List ℕ) → bs ≡ traks
    → map (λ (t : TrakBox). t.tkhd.track_id) traks ≡ ids → length bs ≡ length ids
as_many_ids bs traks ids is same =
    ap (λ (ts : List TrakBox). length ts) is ∙ sym (length-map traks (λ (t : TrakBox). t.tkhd.track_id))
    ∙ ap (λ (ns : List ℕ). length ns) same

id_of_map : (bs : List TrakBox) (i : ℕ) (d : TrakBox) (n : ℕ) → i < length bs
    → (slice_index_or bs i d).tkhd.track_id ≡ slice_index_or (map (λ (t : TrakBox). t.tkhd.track_id) bs) i n
id_of_map [] i d n lt = absurd (omega (arith, lt))
id_of_map (b ∷ bs) zero d n lt = refl
id_of_map (b ∷ bs) (suc i) d n lt = id_of_map bs i d n (omega (arith, lt))

pub same_id : (bs traks : List TrakBox) (ids : List ℕ) (i : ℕ) (d : TrakBox) (n : ℕ) → bs ≡ traks
    → map (λ (t : TrakBox). t.tkhd.track_id) traks ≡ ids → i < length bs
    → (slice_index_or bs i d).tkhd.track_id ≡ slice_index_or ids i n
same_id bs traks ids i d n is same lt =
    id_of_map bs i d n lt
    ∙ ap (λ (ts : List TrakBox). slice_index_or (map (λ (t : TrakBox). t.tkhd.track_id) ts) i n) is
    ∙ ap (λ (ns : List ℕ). slice_index_or ns i n) same

-- A TRACK

module _ (source_len : ℕ) (made : List ℕ) (pieces : List Piece) (b a : Movie) (id : ℕ) where
  abbrev pub NumberAsBefore : ℕ → Bool → Type 0
  NumberAsBefore k there = IsNumberAsBefore source_len made pieces (opened_movie b) (opened_movie a) id k there

  -- the numbers up to this one have the same samples
  abbrev pub AreAsBefore : ℕ → Type 0
  AreAsBefore count = (k : ℕ) → 1 ≤ k → k ≤ count → NumberAsBefore k true

  pub none_yet : AreAsBefore 0
  none_yet k some le = absurd (omega (arith, some, le))

  pub one_more : (count : ℕ) → AreAsBefore count → NumberAsBefore (count + 1) true → AreAsBefore (count + 1)
  one_more count upto next k some le = by (nat_lt count k) refl
    where
      by : (c : Bool) → nat_lt count k ≡ c → NumberAsBefore k true
      by true lt =
          let last : count + 1 ≡ k = omega (arith, ltb-true count k lt, le) in
          subst (λ n. NumberAsBefore n true) last next
      by false ge = upto k some (ltb-false count k ge)

  module _ (were : AreTracks b.moov b.moofs b.moof_places b.tracks)
      (are : AreTracks a.moov a.moofs a.moof_places a.tracks)
    where
      -- neither has a sample at a number
      pub none_there : (k : ℕ) → located_in b.tracks id k ≡ Ok None → located_in a.tracks id k ≡ Ok None
          → NumberAsBefore k false
      none_there k was is = λ source long. (
        read_there b were id source k ∙ ap (λ r. r >>= read_in source) was,
        read_there a are id (spliced source made pieces) k ∙ ap (λ r. r >>= read_in (spliced source made pieces)) is,
      )

      -- both have the same
      pub both_there : (k : ℕ) (p q : Place) → located_in b.tracks id k ≡ Ok (Some p)
          → located_in a.tracks id k ≡ Ok (Some q) → IsSamePlace source_len made pieces p q → NumberAsBefore k true
      both_there k p q was is same = λ source long.
          let s = same source long in (
            s.0,
            (
              read_there b were id source k ∙ ap (λ r. r >>= read_in source) was ∙ s.1.0,
              read_there a are id (spliced source made pieces) k
                  ∙ ap (λ r. r >>= read_in (spliced source made pieces)) is ∙ s.1.1,
            ),
          )

      pub track_as_before : (count n : ℕ) → AreAsBefore count
          → NumberAsBefore (count + 1) false
          → sample_count_in b.tracks id ≡ Ok n → sample_count_in a.tracks id ≡ Ok n
          → IsTrackAsBefore source_len made pieces (opened_movie b) (opened_movie a) id
      track_as_before count n upto past was is = λ source long. record {
        count = count;
        same = λ k some le. upto k some le source long;
        none = inr (past source long);
        counted = counted_there a are id ∙ is ∙ sym was ∙ sym (counted_there b were id);
      }

      -- a track that says that it has no samples
      pub empty_track : sample_count_in b.tracks id ≡ Ok 0 → sample_count_in a.tracks id ≡ Ok 0
          → IsTrackAsBefore source_len made pieces (opened_movie b) (opened_movie a) id
      empty_track was is = λ source long. record {
        count = 0;
        same = λ k some le. absurd (omega (arith, some, le));
        none = inl (refl, counted_there b were id ∙ was);
        counted = counted_there a are id ∙ is ∙ sym was ∙ sym (counted_there b were id);
      }
