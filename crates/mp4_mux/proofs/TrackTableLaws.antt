-- The tables of a track agree with each other, and a lookup in them finds what is known of each sample.
use Rattle.std.proofs.Common.{◌≡◌, ℕ, zero, suc, ◌+◌, ◌-◌, ◌<◌, ◌≤◌, pos, false, List, [], ◌∷◌, ◌++◌, length}
use Rattle.std.proofs.Common.{get_or, map}
use Rattle.std.proofs.Common.{take, drop, sum, Option, Some, None, refl, sym, ap, ap₂, ◌∙◌}
use Rattle.std.proofs.Common.{arith}
use Rattle.std.specs.Prelude.{IfSome}
use Rattle.std.specs.List.{range_with_len}
use Rattle.std.proofs.lemmas.List.{length-map, map-append, length-drop, take-append-drop, nil_from_length, get_or-map}
use Rattle.std.proofs.lemmas.List.Sums.{sum_by-cons}
use Rattle.mp4_table.specs.declared.ctts.CttsBox.{CttsBox}
use Rattle.mp4_table.specs.declared.stsc.StscBox.{StscBox}
use Rattle.mp4_table.specs.Chunks.{counts, laid_from, places}
use Rattle.mp4_table.specs.Runs.{expand, durations, rendering_offsets}
use Rattle.mp4_boxes.specs.declared.stbl.StblBox.{StblBox}
use Rattle.mp4_boxes.specs.Stbl.{sample_count}
use Rattle.mp4_samples.specs.Plain.{Consistent, sample_places, sample_place, plain}
use Rattle.mp4_samples.specs.Tables.{chunk_offsets, offsets_of, sizes, ctts_runs, is_sync_at}
use Rattle.mp4_mux.specs.declared.sample_info.SampleInfo.{SampleInfo}
use Rattle.mp4_mux.specs.SampleTables.{ctts_for, stsz_for}
use Rattle.mp4_mux.proofs.SampleTableLaws.{durations-stts_for, Renders, ctts_for-renders}
use Rattle.mp4_mux.proofs.SyncTableLaws.{sync_numbers_rise, sync_numbers_within, is_sync_at-stss_for}
use Rattle.mp4_mux.proofs.SizeTableLaws.{sizes-stsz_for}
use Rattle.mp4_mux.proofs.ChunkTableLaws.{counts-stsc_for, first_chunk-stsc_for, stsc_for-rises, first_chunks_within}
use Rattle.mp4_mux.proofs.ChunkTableLaws.{samples_per_chunk-stsc_for}
use Rattle.mp4_mux.proofs.OffsetTableLaws.{offsets_of-stco_for-co64_for}
use Rattle.mp4_mux.proofs.TrackTables.{HasTables, FillsChunks, sample_at}

-- each piece has its sizes
sizes-laid_from : (place : ℕ) (ms : List ℕ) → map (λ p. p.1) (laid_from place ms) ≡ ms
unfolding laid_from
sizes-laid_from place [] = refl
sizes-laid_from place (m ∷ ms) = ap (λ rest. m ∷ rest) (sizes-laid_from (place + m) ms)

-- all pieces together have all sizes
pub sizes-places : (ns os ms : List ℕ) → length os ≡ length ns → sum ns ≡ length ms
    → map (λ p. p.1) (places ns os ms) ≡ ms
unfolding places
sizes-places [] os ms placed counted = sym (nil_from_length ms (sym counted))
sizes-places (n ∷ ns) [] ms placed counted = absurd (omega arith)
sizes-places (n ∷ ns) (o ∷ os) ms placed counted =
    let left : sum ns ≡ length (drop n ms) = omega (arith, counted, sum_by-cons (λ x. x) n ns, length-drop n ms) in
    map-append (λ (p : ℕ × ℕ). p.1) (laid_from o (take n ms)) (places ns os (drop n ms))
    ∙ ap₂ (λ a b. a ++ b) (sizes-laid_from o (take n ms)) (sizes-places ns os (drop n ms) (omega arith) left)
    ∙ take-append-drop n ms

pub get_or-sizes-places : (ns os ms : List ℕ) (j : ℕ) → length os ≡ length ns → sum ns ≡ length ms → j < length ms
    → (get_or (places ns os ms) j (0, 0)).1 ≡ get_or ms j 0
get_or-sizes-places ns os ms j placed counted h =
    let all = sizes-places ns os ms placed counted in
    let within : j < length (places ns os ms) =
    omega (arith, h, ap length all, length-map (places ns os ms) (λ (p : ℕ × ℕ). p.1)) in
    sym (get_or-map (λ (p : ℕ × ℕ). p.1) (places ns os ms) j (0, 0) 0 within) ∙ ap (λ xs. get_or xs j 0) all

sample_count-stsz_for : (ss : List SampleInfo) → (stsz_for ss).sample_count ≡ length ss
unfolding stsz_for
sample_count-stsz_for ss = refl

-- how many samples have an offset by this table
rendered : (ctts : Option CttsBox) (ss : List SampleInfo) → Renders ctts ss
    → IfSome ctts (λ ctts. length (rendering_offsets ctts.entries) ≡ length ss)
rendered None ss h = tt
rendered (Some ctts) ss h = ap length h ∙ length-map ss (λ s. s.rendering_offset)

no_offsets : rendering_offsets [] ≡ []
unfolding expand
no_offsets = refl

rendered_at : (ctts : Option CttsBox) (ss : List SampleInfo) (j : ℕ) → Renders ctts ss → j < length ss
    → get_or (rendering_offsets (ctts_runs ctts)) j (pos 0) ≡ get_or (map (λ s. s.rendering_offset) ss) j (pos 0)
rendered_at None ss j h within =
    let d : SampleInfo = record { size = 0; duration = 0; rendering_offset = pos 0; is_sync = false } in
    ap (λ offsets. get_or offsets j (pos 0)) no_offsets
    ∙ sym (get_or-map (λ s. s.rendering_offset) ss j d (pos 0) within ∙ h j d within)
rendered_at (Some ctts) ss j h within = ap (λ offsets. get_or offsets j (pos 0)) h

-- samples that lie in chunks have some
some_chunks : (n : ℕ) (ns : List ℕ) → sum ns ≡ n → 0 < n → 0 < length ns
some_chunks n [] counted h = omega (arith, counted)
some_chunks n (m ∷ ns) counted h = omega arith

map-range_same : {X : Type 0} (f g : ℕ → X) (a n : ℕ) → ((k : ℕ) → a ≤ k → k < a + n → f k ≡ g k)
    → map f (range_with_len a n) ≡ map g (range_with_len a n)
map-range_same f g a zero same = refl
map-range_same f g a (suc n) same =
    ap₂ (λ x xs. x ∷ xs) (same a (omega arith) (omega arith))
    (map-range_same f g (a + 1) n (λ k first last. same k (omega arith) (omega arith)))

module _ (ss : List SampleInfo) (ns os : List ℕ) (t : StblBox) (tables : HasTables ss ns os t)
    (fill : FillsChunks ss ns os) where
  count_is : sample_count t ≡ length ss
  count_is = ap (λ z. z.sample_count) tables.stsz ∙ sample_count-stsz_for ss

  offsets_are : chunk_offsets t ≡ os
  offsets_are = ap₂ offsets_of tables.stco tables.co64 ∙ offsets_of-stco_for-co64_for os

  durations_are : durations t.stts.entries ≡ map (λ s. s.duration) ss
  durations_are = ap (λ b. durations b.entries) tables.stts ∙ durations-stts_for ss

  sizes_are : sizes t.stsz (sample_count t) ≡ map (λ s. s.size) ss
  sizes_are = ap₂ sizes tables.stsz count_is ∙ sizes-stsz_for ss

  counts_are : counts t.stsc.entries (length (chunk_offsets t)) ≡ ns
  counts_are =
      ap₂ (λ (b : StscBox) n. counts b.entries n) tables.stsc (ap length offsets_are ∙ fill.placed) ∙ counts-stsc_for ns

  -- the tables agree with each other
  pub Consistent-tables : Consistent t
  Consistent-tables = record {
    some_samples = rw count_is fill.some_samples;
    sizes_listed = ap length sizes_are ∙ length-map ss (λ s. s.size) ∙ sym count_is;
    first_chunk = rw tables.stsc
        (first_chunk-stsc_for ns (some_chunks (length ss) ns fill.counted fill.some_samples) fill.some_per_chunk);
    rising = rw tables.stsc (stsc_for-rises ns);
    last_chunk = rw (tables.stsc, offsets_are, fill.placed) (first_chunks_within ns);
    some_per_chunk = rw tables.stsc (samples_per_chunk-stsc_for (λ n. 1 ≤ n) ns fill.some_per_chunk);
    counted = ap sum counts_are ∙ fill.counted ∙ sym count_is;
    timed = ap length durations_are ∙ length-map ss (λ s. s.duration) ∙ sym count_is;
    rendered = rw (tables.ctts, count_is) (rendered (ctts_for ss) ss (ctts_for-renders ss));
    sync_rising = rw tables.stss (sync_numbers_rise ss);
    sync_within = rw (tables.stss, count_is) (sync_numbers_within ss);
  }

  places_are : sample_places t ≡ places ns os (map (λ s. s.size) ss)
  places_are = rw (counts_are, offsets_are, sizes_are) refl

  sync_is : (k : ℕ) → 1 ≤ k → k ≤ length ss → is_sync_at t.stss k ≡ get_or (map (λ s. s.is_sync) ss) (k - 1) false
  sync_is k first last =
      let d : SampleInfo = record { size = 0; duration = 0; rendering_offset = pos 0; is_sync = false } in
      ap (λ stss. is_sync_at stss k) tables.stss ∙ is_sync_at-stss_for ss k d first last
      ∙ sym (get_or-map (λ s. s.is_sync) ss (k - 1) d false (omega arith))

  -- a lookup finds of sample k what is known of it
  pub sample_place-tables : (k : ℕ) → 1 ≤ k → k ≤ length ss → sample_place t k ≡ sample_at ss ns os k
  sample_place-tables k first last =
      let within : k - 1 < length ss = omega arith in
      let ms = map (λ (s : SampleInfo). s.size) ss in
      let size_is : (get_or (places ns os ms) (k - 1) (0, 0)).1 ≡ get_or ms (k - 1) 0 =
      get_or-sizes-places ns os ms (k - 1) fill.placed (fill.counted ∙ sym (length-map ss (λ s. s.size)))
      (rw (length-map ss (λ s. s.size)) within) in
      rw (
        places_are,
        size_is,
        durations_are,
        sync_is k first last,
        tables.ctts,
        rendered_at (ctts_for ss) ss (k - 1) (ctts_for-renders ss) within,
      ) refl

  -- the samples in order
  pub plain-tables : plain t ≡ map (sample_at ss ns os) (range_with_len 1 (length ss))
  plain-tables =
      ap (λ n. map (sample_place t) (range_with_len 1 n)) count_is
      ∙ map-range_same (sample_place t) (sample_at ss ns os) 1 (length ss)
      (λ k first last. sample_place-tables k first (omega (arith, last)))
