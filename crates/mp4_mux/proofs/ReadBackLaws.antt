-- What is read of a finished movie is what was accepted.
use Rattle.std.proofs.Common.{◌≡◌, ℕ, suc, ◌+◌, ◌^◌, ◌<◌, ◌≤◌, List, [], ◌∷◌, length, get_or, map, slice_get, Some}
use Rattle.std.proofs.Common.{None, Ok, refl, sym, ap, ◌∙◌, arith}
use Rattle.std.specs.List.{range_with_len}
use Rattle.std.proofs.lemmas.Bool.{lt-leb}
use Rattle.std.proofs.lemmas.List.{get_or-map, length-map}
use Rattle.std.proofs.lemmas.Option.{same_Some, slice_get-get_or, slice_get_past, slice_get_within}
use Rattle.mp4_boxes.specs.declared.stbl.StblBox.{StblBox}
use Rattle.mp4_boxes.specs.declared.trak.TrakBox.{TrakBox}
use Rattle.mp4_boxes.specs.Stbl.{sample_count}
use Rattle.mp4_samples.specs.Samples.{Sample, TimedSample, timed_from, timed, read_at}
use Rattle.mp4_samples.specs.Plain.{sample_place, plain, plain_at, within_file}
use Rattle.mp4_samples.specs.Tables.{tables_of}
use Rattle.mp4_mux.specs.Writing.{WriterState, AcceptedTrack, accepted, no_track, movie_of, whole_of, with_end}
use Rattle.mp4_mux.specs.Sound.{IsSound}
use Rattle.mp4_mux.proofs.EndedStates.{accepted-end}
use Rattle.mp4_mux.specs.Written.{Describes, Finds, IsWrittenTrack}
use Rattle.mp4_mux.proofs.DescribesLaws.{length-timed_from}
use Rattle.mp4_mux.proofs.WrittenLaws.{written_movie}

-- A lookup in tables that describe these samples:
module _ (file : List ℕ) (t : StblBox) (ss : List Sample) (h : Describes file t ss) where
  length-plain : length (plain t) ≡ length ss
  length-plain = sym (length-map (plain t) (read_at file)) ∙ ap length h.samples ∙ length-timed_from 0 ss

  -- it finds each of them at its number, which counts from 1,
  pub finds_each : length file < 2 ^ 64 → (k : ℕ) (s : TimedSample) → slice_get (timed ss) k ≡ Some s
      → Finds file (plain_at t (suc k)) s
  unfolding plain_at
  finds_each fits k s e =
      let p = get_or (plain t) k (sample_place t 0) in
      let l : k < length (plain t) =
      omega (arith, slice_get_within (timed ss) k s e, length-timed_from 0 ss, length-plain) in
      let within = h.within k (sample_place t 0) l in
      let small : p.offset < 2 ^ 64 = omega (arith, within, fits) in
      let found : slice_get (plain t) k ≡ Some p = slice_get-get_or (plain t) k (sample_place t 0) l in
      let all = map (read_at file) (plain t) in
      let read : Some (read_at file p) ≡ Some s =
      ap Some (sym (get_or-map (read_at file) (plain t) k (sample_place t 0) s l))
      ∙ sym (slice_get-get_or all k s (omega (arith, l, length-map (plain t) (read_at file))))
      ∙ ap (λ xs. slice_get xs k) h.samples ∙ e in
      record {
        place = p;
        answered = ap within_file found ∙ (rw (lt-leb (2 ^ 64) p.offset small) refl);
        within = within;
        sample = same_Some (read_at file p) s read;
      }

  -- and none past the last.
  pub none_past : (k : ℕ) → length ss ≤ k → plain_at t (suc k) ≡ Ok None
  unfolding plain_at
  none_past k l = ap within_file (slice_get_past (plain t) k (omega (arith, l, length-plain)))

nothing : [] ≡ timed []
unfolding timed_from
nothing = refl

-- the samples that are read of a track are those that were accepted
pub samples_read : (st : WriterState) (id : ℕ) (a : AcceptedTrack) (trak : TrakBox) → IsWrittenTrack st id a trak
    → map (read_at (whole_of st)) (plain (tables_of trak)) ≡ timed a.samples
samples_read st id a trak h = go a.samples refl
  where
    none : (n : ℕ) → n ≡ 0 → map (sample_place (tables_of trak)) (range_with_len 1 n) ≡ []
    none n e = ap (λ m. map (sample_place (tables_of trak)) (range_with_len 1 m)) e

    go : (ss : List Sample) → a.samples ≡ ss
        → map (read_at (whole_of st)) (plain (tables_of trak)) ≡ timed a.samples
    go [] e =
        ap (map (read_at (whole_of st))) (none (sample_count (tables_of trak)) (h.count ∙ ap length e))
        ∙ nothing ∙ ap timed (sym e)
    go (s ∷ ss) e = (h.described (omega (arith, ap length e))).samples

-- In a finished movie of less than 2^64 bytes a lookup of a number in a track finds the accepted sample of that number,
-- decoded when those before it have lasted.
pub sample_found : (st : WriterState) → IsSound st → length (whole_of (with_end st)) < 2 ^ 64
    → (k : ℕ) (a : AcceptedTrack) (trak : TrakBox) → slice_get (accepted st) k ≡ Some a
    → slice_get (movie_of (with_end st)).traks k ≡ Some trak
    → (n : ℕ) (s : TimedSample) → slice_get (timed a.samples) n ≡ Some s
    → Finds (whole_of (with_end st)) (plain_at (tables_of trak) (suc n)) s
sample_found st h fits k a trak at box n s e =
    let one = (written_movie st h).tracks k a trak (ap (λ xs. slice_get xs k) (accepted-end st) ∙ at) box in
    let some : 0 < length a.samples =
    omega (arith, slice_get_within (timed a.samples) n s e, length-timed_from 0 a.samples) in
    finds_each (whole_of (with_end st)) (tables_of trak) a.samples (one.described some) fits n s e

-- Of two writers that have accepted the same tracks the same samples are read, however their calls were ordered.
pub same_samples : (st su : WriterState) → IsSound st → IsSound su → accepted st ≡ accepted su
    → (k : ℕ) (one two : TrakBox) → slice_get (movie_of (with_end st)).traks k ≡ Some one
    → slice_get (movie_of (with_end su)).traks k ≡ Some two
    → map (read_at (whole_of (with_end st))) (plain (tables_of one))
    ≡ map (read_at (whole_of (with_end su))) (plain (tables_of two))
same_samples st su h i same k one two at_one at_two =
    let w = written_movie st h in
    let v = written_movie su i in
    let here : k < length (accepted (with_end st)) =
    omega (arith, slice_get_within (movie_of (with_end st)).traks k one at_one, w.count) in
    let none : AcceptedTrack = record { config = no_track.config; samples = [] } in
    let a = get_or (accepted (with_end st)) k none in
    let is_first : slice_get (accepted (with_end st)) k ≡ Some a =
    slice_get-get_or (accepted (with_end st)) k none here in
    let is_second : slice_get (accepted (with_end su)) k ≡ Some a =
    ap (λ xs. slice_get xs k) (accepted-end su ∙ sym same ∙ sym (accepted-end st)) ∙ is_first in
    samples_read (with_end st) (k + 1) a one (w.tracks k a one is_first at_one)
    ∙ sym (samples_read (with_end su) (k + 1) a two (v.tracks k a two is_second at_two))
