-- What is read of a sample: no step of a lookup wants memory, and at the movie box's numbers the tables written out
-- lead to it.
use Rattle.std.proofs.Common.{◌≡◌, ℕ, ◌+◌, ◌-◌, ◌/◌, ◌^◌, ◌<◌, Bool, true, false, cond, eqb, leb, ltb, List, length}
use Rattle.std.proofs.Common.{sum}
use Rattle.std.proofs.Common.{Option, Some, None, Result, Ok, Err, subst}
use Rattle.std.specs.Prelude.{slice_get, slice_range}
use Rattle.std.specs.HashMap.{HashMap}
use Rattle.mp4_codec.specs.Cause.{Cause, out_of_memory, invalid_data, ◌>>=◌}
use Rattle.mp4_table.specs.declared.stsc.StscEntry.{StscEntry}
use Rattle.mp4_table.specs.declared.stts.SttsEntry.{SttsEntry}
use Rattle.mp4_table.specs.Chunks.{last_where}
use Rattle.mp4_table.specs.Runs.{durations}
use Rattle.mp4_table.specs.Starts.{start_of}
use Rattle.mp4_boxes.specs.declared.stbl.StblBox.{StblBox}
use Rattle.mp4_boxes.specs.declared.trak.TrakBox.{TrakBox}
use Rattle.mp4_moof.specs.declared.traf.TrafBox.{TrafBox}
use Rattle.mp4_boxes.specs.Stbl.{sample_count}
use Rattle.mp4_fragments.specs.declared.run_samples.RunSample.{RunSample}
use Rattle.mp4_fragments.specs.RunSamples.{PlacedRun, all_run_samples}
use Rattle.mp4_lookup.specs.declared.track.Mp4Track.{Mp4Track}
use Rattle.mp4_samples.specs.declared.sample.Place.{Place}
use Rattle.mp4_samples.specs.Plain.{Consistent}
use Rattle.mp4_lookup.specs.Rule.{if_there, usable, entry_for, chunk_number, chunk_for, within_64_bits, timed, time_at}
use Rattle.mp4_lookup.specs.Rule.{first_in_chunk, located_at, rule}
use Rattle.mp4_samples.specs.Samples.{read_in, plain_sample_at}
use Rattle.mp4_lookup.specs.Tracks.{sample_at, is_of_movie, begins_at, run_sample_place, answer_at}
use Rattle.mp4_samples.specs.Tables.{chunk_offsets, sizes, tables_of}
use Rattle.mp4_lookup.specs.TrackRuns.{track_runs}
use Rattle.mp4_lookup.proofs.TrackLaws.{sample_is_plain}
use Rattle.mp4_media.specs.MovieTracks.{at_id}
use Rattle.mp4_media.specs.Reading.{track_or, needed_track, located_in, placed_in, sample_in, within}

-- an answer that does not say that memory ran out
abbrev WantsNone : {A : Type 0} → Result A Cause → Type 0
WantsNone (Ok x) = Unit {0}
WantsNone (Err c) = c ≡ out_of_memory → ⊥

next : {A B : Type 0} (r : Result A Cause) (f : A → Result B Cause) → WantsNone r → ((x : A) → WantsNone (f x))
    → WantsNone (r >>= f)
next (Ok x) f h g = g x
next (Err c) f h g = h

either : {A : Type 0} (b : Bool) (r s : Result A Cause) → WantsNone r → WantsNone s → WantsNone (cond b r s)
either true r s h i = h
either false r s h i = i

there : {A B : Type 0} (o : Option A) (f : A → Result (Option B) Cause) → ((x : A) → WantsNone (f x))
    → WantsNone (if_there o f)
there None f g = tt
there (Some x) f g = g x

invalid : invalid_data ≡ out_of_memory → ⊥
invalid e = absurd cc

entry-none : (entries : List StscEntry) (k : ℕ) → WantsNone (entry_for entries k)
unfolding entry_for
entry-none entries k =
    either (eqb k 0) (Err invalid_data) (usable (last_where (λ e. leb e.first_sample k) entries)) invalid
    (by (last_where (λ e. leb e.first_sample k) entries))
  where
    by : (o : Option StscEntry) → WantsNone (usable o)
    by None = invalid
    by (Some e) = either (eqb e.samples_per_chunk 0) (Err invalid_data) (Ok e) invalid tt

chunk-none : (e : StscEntry) (k : ℕ) → WantsNone (chunk_for e k)
unfolding chunk_for
chunk-none e k = by (e.first_chunk + (k - e.first_sample) / e.samples_per_chunk)
  where
    by : (c : ℕ) → WantsNone (chunk_number c)
    by c =
        either (eqb c 0) (Err invalid_data) (cond (leb (2 ^ 32) c) (Err invalid_data) (Ok c)) invalid
        (either (leb (2 ^ 32) c) (Err invalid_data) (Ok c) invalid tt)

-- how many bytes come before a sample in its chunk
abbrev bytes_before : StblBox → ℕ → StscEntry → ℕ
bytes_before t k entry = sum (slice_range (sizes t.stsz k) (first_in_chunk entry k - 1) (k - 1))

located-none : (t : StblBox) (k : ℕ) → WantsNone (located_at t k)
unfolding located_at
located-none t k =
    next (entry_for t.stsc.entries k) _ (entry-none t.stsc.entries k) (λ entry.
    next (chunk_for entry k) _ (chunk-none entry k) (λ chunk.
    with_chunk entry (slice_get (chunk_offsets t) (chunk - 1))))
  where
    place : (n size : ℕ) → WantsNone {A = Option (ℕ × ℕ)} (within_64_bits n >>= λ offset. Ok (Some (offset, size)))
    place n size =
        next (within_64_bits n) (λ offset. Ok (Some (offset, size)))
        (either (leb (2 ^ 64) n) (Err invalid_data) (Ok n) invalid tt) (λ x. tt)

    with_size : (n : ℕ) (o : Option ℕ)
        → WantsNone {A = Option (ℕ × ℕ)} (if_there o (λ size. within_64_bits n >>= λ offset. Ok (Some (offset, size))))
    with_size n None = tt
    with_size n (Some size) = place n size

    with_chunk : (entry : StscEntry) (o : Option ℕ)
        → WantsNone {A = Option (ℕ × ℕ)} (if_there o (λ chunk_offset. if_there (slice_get (sizes t.stsz k) (k - 1))
        (λ size. within_64_bits (chunk_offset + bytes_before t k entry) >>= λ offset. Ok (Some (offset, size)))))
    with_chunk entry None = tt
    with_chunk entry (Some o) = with_size (o + bytes_before t k entry) (slice_get (sizes t.stsz k) (k - 1))

time-none : (runs : List SttsEntry) (track k : ℕ) → WantsNone (time_at runs track k)
unfolding time_at
time-none runs track k = by (slice_get (durations runs) (k - 1)) (start_of (durations runs) k)
  where
    by : (o : Option ℕ) (start : ℕ) → WantsNone (timed track k o start)
    by None start = λ e. absurd cc
    by (Some d) start = tt

rule-none : (t : StblBox) (track k : ℕ) → WantsNone (rule t track k)
unfolding rule
rule-none t track k =
    next (located_at t k) _ (located-none t k)
    (λ located. there located _ (λ found. next (time_at t.stts.entries track k) _ (time-none t.stts.entries track k)
    (λ time. tt)))

run_sample-none : (o : Option RunSample) → WantsNone (run_sample_place o)
run_sample-none None = tt
run_sample-none (Some m) = by m.at.place m.at.time
  where
    by : (place time : Option ℕ) → WantsNone (begins_at place time m)
    by (Some place) (Some time) = tt
    by None time = invalid
    by (Some place) None = invalid

answer-none : (trak : TrakBox) (trafs : List TrafBox) (runs : List PlacedRun) (k : ℕ)
    → WantsNone (answer_at trak trafs runs k)
unfolding answer_at
answer-none trak trafs runs k =
    let run_sample : Option RunSample = slice_get (all_run_samples runs) (k - sample_count (tables_of trak) - 1) in
    either (is_of_movie trak trafs k) (rule (tables_of trak) trak.tkhd.track_id k) (run_sample_place run_sample)
    (rule-none (tables_of trak) trak.tkhd.track_id k) (run_sample-none run_sample)

read-none : (file : List ℕ) (p : Option Place) → WantsNone (read_in file p)
read-none file None = tt
read-none file (Some p) = either (ltb (length file) (p.offset + p.size)) _ _ (λ e. absurd cc) tt

within-none : (len : ℕ) (p : Option Place) → WantsNone (within len p)
within-none len None = tt
within-none len (Some p) = either (ltb len (p.offset + p.size)) _ _ (λ e. absurd cc) tt

track-none : (id : ℕ) (o : Option Mp4Track) → WantsNone (track_or id o)
track-none id None = λ e. absurd cc
track-none id (Some t) = tt

module _ {S : Type 0} (tracks : HashMap ℕ Mp4Track S) (id k len : ℕ) where
  place-none : WantsNone (placed_in len tracks id k)
  unfolding located_in
  place-none =
      next (located_in tracks id k) (within len)
      (next (needed_track tracks id) _ (track-none id (at_id tracks id))
      (λ t. answer-none t.trak t.trafs (track_runs t) k)) (within-none len)

  -- of no place it is said that memory ran out
  pub place_wants_none : (c : Cause) → placed_in len tracks id k ≡ Err c → c ≡ out_of_memory → ⊥
  place_wants_none c e = subst WantsNone e place-none

module _ {S : Type 0} (file : List ℕ) (tracks : HashMap ℕ Mp4Track S) (id k : ℕ) where
  sample-none : WantsNone (sample_in file tracks id k)
  unfolding sample_in sample_at
  sample-none =
      next (needed_track tracks id) _ (track-none id (at_id tracks id))
      (λ t. next (answer_at t.trak t.trafs (track_runs t) k) (read_in file)
      (answer-none t.trak t.trafs (track_runs t) k)
      (read-none file))

  -- of no sample it is said that memory ran out
  pub sample_wants_none : (c : Cause) → sample_in file tracks id k ≡ Err c → c ≡ out_of_memory → ⊥
  sample_wants_none c e = subst WantsNone e sample-none

  -- a number of the movie box, whose tables agree
  pub sample_in-plain : (t : Mp4Track) → at_id tracks id ≡ Some t → is_of_movie t.trak t.trafs k ≡ true
      → Consistent (tables_of t.trak) → k < 2 ^ 32
      → sample_in file tracks id k ≡ plain_sample_at file (tables_of t.trak) k
  unfolding sample_in
  sample_in-plain t is whole fits small =
      rw is (sample_is_plain file t.trak t.trafs (track_runs t) k whole fits t.numbered small)
