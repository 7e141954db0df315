-- How many samples tracks of a movie have, and when these end.
use Rattle.std.proofs.Common.{◌≡◌, ◌∙◌, ℕ, zero, suc, ◌+◌, ◌≤◌, ◌<◌, List, [], ◌∷◌, length, map, min, Some, Ok}
use Rattle.std.proofs.Common.{Bool, true, false, nat_lt, if◌then◌else◌, inl, inr}
use Rattle.std.proofs.Common.{Option, None, Result, Err, option_map, IfOk, IfSome, refl, sym, ap, subst, arith}
use Rattle.std.specs.Prelude.{is_some, slice_get, slice_index_or}
use Rattle.mp4_boxes.specs.declared.trak.TrakBox.{TrakBox}
use Rattle.mp4_codec.specs.Cause.{Cause, Gives, end_of_data, ◌>>=◌}
use Rattle.mp4_codec.specs.declared.error.Error.{Error}
use Rattle.mp4_samples.specs.declared.sample.Place.{Place}
use Rattle.mp4_samples.specs.declared.sample.SamplePlace.{SamplePlace}
use Rattle.mp4_samples.specs.Places.{place_of}
use Rattle.mp4_media.specs.declared.movie.Movie.{Movie}
use Rattle.mp4_media.specs.FileBoxes.{OpenedFile, opened_movie}
use Rattle.mp4_media.specs.MovieTracks.{AreTracks}
use Rattle.mp4_media.specs.Reading.{located_in, placed_in, within}
use Rattle.mp4_remux.specs.Reads.{place_in}
use Rattle.mp4_remux.specs.Why.{EndsAfter, HasMore, HasSample, HasSamples, HaveSamples, IsApart}
use Rattle.mp4_remux.proofs.Numbered.{at_index}
use Rattle.mp4_remux.proofs.Sameness.{placed_there}

-- what a movie answers of the place of a sample
pub placed_as : (m : Movie) → AreTracks m.moov m.moofs m.moof_places m.tracks → (track k : ℕ)
    → (r : Result (Option SamplePlace) Error) → Gives (λ p. option_map place_of p) r (located_in m.tracks track k)
    → IfOk r (λ p. IfSome p (λ s. place_in (opened_movie m) track k ≡ Ok (Some (place_of s))))
placed_as m are track k (Ok None) gives = tt
placed_as m are track k (Ok (Some s)) gives = placed_there m are track k ∙ gives
placed_as m are track k (Err e) gives = tt

-- nor is there one where it answers none
pub none_placed : (m : Movie) → AreTracks m.moov m.moofs m.moof_places m.tracks → (track k : ℕ)
    → (o : Option SamplePlace) → located_in m.tracks track k ≡ Ok (option_map place_of o) → is_some o ≡ false
    → (p : Place) → place_in (opened_movie m) track k ≡ Ok (Some p) → ⊥
none_placed m are track k None gives none p there =
    let both = sym there ∙ placed_there m are track k ∙ gives in absurd cc
none_placed m are track k (Some s) gives none p there = absurd cc

-- a sample that lies whole in the file is there
within_there : (len : ℕ) (r : Result (Option Place) Cause) (p : Place) → (r >>= within len) ≡ Ok (Some p)
    → r ≡ Ok (Some p)
within_there len (Ok None) p is = absurd cc
within_there len (Ok (Some q)) p is =
    ap (λ (x : Place). Ok (Some x)) (by (nat_lt len (q.offset + q.size)) is)
  where
    by : (b : Bool) → (if b then Err end_of_data else Ok (Some q)) ≡ Ok (Some p) → q ≡ p
    by true is = absurd cc
    by false is = cc
within_there len (Err c) p is = absurd cc

pub read_has_sample : (m : Movie) → AreTracks m.moov m.moofs m.moof_places m.tracks → (len track k : ℕ)
    (s : SamplePlace) → placed_in len m.tracks track k ≡ Ok (Some (place_of s)) → HasSample (opened_movie m) track k
read_has_sample m are len track k s is =
    (place_of s, placed_there m are track k ∙ within_there len (located_in m.tracks track k) (place_of s) is)

-- HOW MANY SAMPLES

module _ (movie : OpenedFile) where
  -- of tracks none need be counted
  pub no_samples : (tracks : List ℕ) (i : ℕ) → i ≤ length tracks → HaveSamples movie tracks i 0
  no_samples tracks zero le = refl
  no_samples tracks (suc i) le = (
    slice_index_or tracks i 0,
    0,
    0,
    (at_index tracks i 0 (omega (arith, le)), (no_samples tracks i (omega (arith, le)), (inl refl, refl))),
  )

  -- those of one track more
  pub more_samples : (tracks : List ℕ) (i n k t : ℕ) → HaveSamples movie tracks i n → slice_get tracks i ≡ Some t
      → HasSamples movie t k → HaveSamples movie tracks (i + 1) (n + k)
  more_samples tracks i n k t have there own =
      let next : suc i ≡ i + 1 = omega arith in
      subst (λ j. HaveSamples movie tracks j (n + k)) next (t, n, k, (there, (have, (own, refl))))

  -- a track has one at a number past the most
  pub past_most : (t k most : ℕ) → HasSamples movie t k → most < k → HasMore (t ∷ []) most movie t
  past_most t k most (inl none) past = absurd (omega (arith, none, past))
  past_most t k most (inr sample) past = record {
    i = 0;
    before = 0;
    number = k;
    is = refl;
    have = refl;
    there = sample;
    more = omega (arith, past);
  }

-- one of several tracks has too many, with those before it
pub more_among : (t left most : ℕ) (tracks : List ℕ) (movie : OpenedFile) (i n : ℕ) → slice_get tracks i ≡ Some t
    → HaveSamples movie tracks i n → most ≡ left + n → (track : ℕ) → HasMore (t ∷ []) left movie track
    → HasMore tracks most movie track
more_among t left most tracks movie i n there have is track m = by m.i m.before m.is m.have m.more
  where
    by : (j before : ℕ) → slice_get (t ∷ []) j ≡ Some track → HaveSamples movie (t ∷ []) j before
        → left < before + m.number → HasMore tracks most movie track
    by zero before same none more =
        let this : t ≡ track = cc in
        record {
          i = i;
          before = n;
          number = m.number;
          is = there ∙ ap (λ (x : ℕ). Some x) this;
          have = have;
          there = m.there;
          more = omega (arith, is, more, none);
        }
    by (suc j) before same none more = absurd cc

-- WHEN THEY END

-- what is kept of the time is when the samples so far end, or the largest number
abbrev pub IsTimed : OpenedFile → ℕ → ℕ → ℕ → Type 0
IsTimed movie track k time = (end : ℕ) × (EndsAfter movie track k end × (time ≡ min end 18446744073709551615))

module _ (movie : OpenedFile) (track : ℕ) where
  pub none_timed : (time : ℕ) → time ≡ 0 → IsTimed movie track 0 time
  none_timed time is = (0, (inl (refl, refl), omega (arith, is)))

  pub next_timed : (k time after : ℕ) (p : Place) → place_in movie track (k + 1) ≡ Ok (Some p) → p.start_time ≡ time
      → after ≡ min (time + p.duration) 18446744073709551615 → IsTimed movie track (k + 1) after
  next_timed k time after p there same is = (
    p.start_time + p.duration,
    (
      inr (p, (there, refl)),
      is ∙ ap (λ n. min (n + p.duration) 18446744073709551615) (sym same),
    ),
  )

  -- a sample that starts at another time
  pub next_apart : (k time : ℕ) (p : Place) → IsTimed movie track k time → place_in movie track (k + 1) ≡ Ok (Some p)
      → p.start_time ≤ 18446744073709551615 → (p.start_time ≡ time → ⊥) → IsApart movie track (k + 1)
  next_apart k time p timed there small other = record {
    before = k;
    end = timed.0;
    sample = p;
    next = refl;
    ends = timed.1.0;
    there = there;
    apart = λ is. other (omega (arith, is, small, timed.1.1));
  }

  pub timed_samples : (k time : ℕ) → IsTimed movie track k time → HasSamples movie track k
  timed_samples k time timed = by timed.1.0
    where
      by : EndsAfter movie track k timed.0 → HasSamples movie track k
      by (inl none) = inl none.0
      by (inr last) = inr (last.0, last.1.0)

-- BOXES OF TRACKS

pub id_at : (ts : List TrakBox) (i : ℕ) (t : TrakBox) → slice_get ts i ≡ Some t
    → slice_get (map (λ (t : TrakBox). t.tkhd.track_id) ts) i ≡ Some t.tkhd.track_id
id_at [] i t e = absurd cc
id_at (u ∷ ts) zero t e = cc
id_at (u ∷ ts) (suc i) t e = id_at ts i t e
