-- Chunks that were written stay as they are, whatever is written after them.
use Rattle.std.proofs.Common.{◌≡◌, ◌≢◌, ℕ, ◌+◌, ◌<◌, ◌≤◌, List, [], ◌∷◌, ◌++◌, length, get_or, set, take, drop, map}
use Rattle.std.proofs.Common.{refl, sym, ap, ap₂, subst, ◌∙◌, arith}
use Rattle.std.proofs.Common.{get_or-set_same, get_or-set_other, ⊎_elim}
use Rattle.std.specs.List.{AllByRecursion, sum_by}
use Rattle.std.proofs.lemmas.List.{append-nil, length-append, length-drop, length-set, length_push}
use Rattle.std.proofs.lemmas.List.{take-append-le, drop-append-le, get_or_append_left}
use Rattle.std.proofs.lemmas.List.Sums.{sum_by-cons}
use Rattle.std.proofs.lemmas.Bool.{cases_eq}
use Rattle.mp4_mux.specs.declared.sample_info.SampleInfo.{SampleInfo}
use Rattle.mp4_mux.specs.declared.chunk_place.ChunkPlace.{ChunkPlace}
use Rattle.mp4_mux.specs.declared.chunk_place.ChunkRef.{ChunkRef}
use Rattle.mp4_samples.specs.Samples.{Sample}
use Rattle.mp4_mux.specs.Chunks.{Chunk}
use Rattle.mp4_mux.specs.Building.{Building, sample_at, samples_in}
use Rattle.mp4_mux.specs.Media.{Media, building_at, no_building, no_place, place_in, infos_in, chunk_in}
use Rattle.mp4_mux.specs.Parts.{IsChunkAt}

-- a part of a list stays as the list grows
window-stays : {A : Type 0} (n o : ℕ) (xs more : List A) → o + n ≤ length xs
    → take n (drop o (xs ++ more)) ≡ take n (drop o xs)
window-stays n o xs more h =
    ap (take n) (drop-append-le o xs more (omega arith))
    ∙ take-append-le n (drop o xs) more (omega (arith, length-drop o xs))

-- samples are cut from bytes that are enough, whatever follows
pub samples_in-more : (is : List SampleInfo) (bs more : List ℕ) → sum_by (λ (i : SampleInfo). i.size) is ≤ length bs
    → samples_in is (bs ++ more) ≡ samples_in is bs
unfolding samples_in
samples_in-more [] bs more h = refl
samples_in-more (i ∷ is) bs more h =
    let whole = sum_by-cons (λ (j : SampleInfo). j.size) i is in
    ap₂ (λ (x y : List ℕ). record {
      bytes = x;
      duration = i.duration;
      rendering_offset = i.rendering_offset;
      is_sync = i.is_sync;
    } ∷ samples_in is y)
    (take-append-le i.size bs more (omega (arith, whole)))
    (drop-append-le i.size bs more (omega (arith, whole)))
    ∙ ap (λ (xs : List Sample). sample_at i bs ∷ xs)
    (samples_in-more is (drop i.size bs) more (omega (arith, whole, length-drop i.size bs)))

-- a list is the beginning of another
pub record Begins {A : Type 0} (xs ys : List A) : Type 0 where
  pub more : List A
  pub is : ys ≡ xs ++ more

-- the tracks have grown: each has what it had, and maybe more
pub record HaveGrown (old new : List Building) : Type 0 where
  pub count : length old ≤ length new
  pub samples : (t : ℕ) → t < length old → Begins (building_at old t).samples (building_at new t).samples
  pub chunks : (t : ℕ) → t < length old → Begins (building_at old t).chunks (building_at new t).chunks

begins-same : {A : Type 0} (xs ys : List A) → xs ≡ ys → Begins xs ys
begins-same xs ys e = record { more = []; is = sym e ∙ sym (append-nil xs) }

-- one track has grown
pub grown-set : (bs : List Building) (t : ℕ) (b : Building) (is : List SampleInfo) (cs : List ChunkPlace)
    → t < length bs → b.samples ≡ (building_at bs t).samples ++ is → b.chunks ≡ (building_at bs t).chunks ++ cs
    → HaveGrown bs (set bs t b)
grown-set bs t b is cs l es ec =
    let here : building_at (set bs t b) t ≡ b = get_or-set_same bs t b no_building l in
    let elsewhere : (u : ℕ) → u ≢ t → building_at (set bs t b) u ≡ building_at bs u =
    λ u n. get_or-set_other bs t u b no_building n in
    record {
      count = omega (arith, length-set bs t b);
      samples = λ u m. ⊎_elim
          (λ (e : u ≡ t). subst (λ v. Begins (building_at bs v).samples (building_at (set bs t b) v).samples) (sym e)
          (record { more = is; is = ap (λ (x : Building). x.samples) here ∙ es }))
          (λ (n : u ≢ t). begins-same _ _ (ap (λ (x : Building). x.samples) (sym (elsewhere u n))))
          (cases_eq u t);
      chunks = λ u m. ⊎_elim
          (λ (e : u ≡ t). subst (λ v. Begins (building_at bs v).chunks (building_at (set bs t b) v).chunks) (sym e)
          (record { more = cs; is = ap (λ (x : Building). x.chunks) here ∙ ec }))
          (λ (n : u ≢ t). begins-same _ _ (ap (λ (x : Building). x.chunks) (sym (elsewhere u n))))
          (cases_eq u t);
    }

-- one more track
pub grown-push : (bs : List Building) (b : Building) → HaveGrown bs (bs ++ b ∷ [])
grown-push bs b =
    let same : (u : ℕ) → u < length bs → building_at (bs ++ b ∷ []) u ≡ building_at bs u =
    λ u l. get_or_append_left bs (b ∷ []) no_building u l in
    record {
      count = omega (arith, length_push bs b);
      samples = λ u l. begins-same _ _ (ap (λ (x : Building). x.samples) (sym (same u l)));
      chunks = λ u l. begins-same _ _ (ap (λ (x : Building). x.chunks) (sym (same u l)));
    }

-- a chunk, in tracks that have grown and with more bytes
module _ (mdat : ℕ) (old new : List Building) (grown : HaveGrown old new) (buffer bytes : List ℕ)
    (written wrote : List ChunkRef) where
  abbrev was : Media
  was = record { buffer = buffer; tracks = old; written = written }

  abbrev now : Media
  now = record { buffer = buffer ++ bytes; tracks = new; written = wrote }

  module _ (r : ChunkRef) (h : IsChunkAt mdat was r) where
    place-stays : place_in new r ≡ place_in old r
    place-stays =
        let g = grown.chunks r.track h.track in
        ap (λ (xs : List ChunkPlace). get_or xs r.index no_place) g.is
        ∙ get_or_append_left (building_at old r.track).chunks g.more no_place r.index h.index

    infos-stay : infos_in new r ≡ infos_in old r
    infos-stay =
        let g = grown.samples r.track h.track in
        ap₂ (λ (p : ChunkPlace) (is : List SampleInfo). take p.count (drop p.first is)) place-stays g.is
        ∙ window-stays (place_in old r).count (place_in old r).first (building_at old r.track).samples g.more h.samples

    pub chunk-stays : chunk_in new (buffer ++ bytes) r ≡ chunk_in old buffer r
    chunk-stays =
        let place = place_in old r in
        let fits : sum_by (λ (i : SampleInfo). i.size) (infos_in old r) ≤ length (drop place.offset buffer) =
        omega (arith, h.bytes, length-drop place.offset buffer) in
        ap₂ (λ (is : List SampleInfo) (p : ChunkPlace). record {
          track_id = r.track + 1;
          samples = samples_in is (drop p.offset (buffer ++ bytes));
        }) infos-stay place-stays
        ∙ ap (λ (bs : List ℕ). record { track_id = r.track + 1; samples = samples_in (infos_in old r) bs })
        (drop-append-le place.offset buffer bytes (omega (arith, h.bytes)))
        ∙ ap (λ (ss : List Sample). record { track_id = r.track + 1; samples = ss })
        (samples_in-more (infos_in old r) (drop place.offset buffer) bytes fits)

    pub is_chunk-stays : IsChunkAt mdat now r
    is_chunk-stays =
        let gs = grown.samples r.track h.track in
        let gc = grown.chunks r.track h.track in record {
          track = omega (arith, h.track, grown.count);
          index = omega (arith, h.index, ap length gc.is, length-append (building_at old r.track).chunks gc.more);
          samples = omega (
            arith,
            h.samples,
            ap (λ (p : ChunkPlace). p.first + p.count) place-stays,
            ap length gs.is,
            length-append (building_at old r.track).samples gs.more,
          );
          start = omega (arith, h.start, ap (λ (p : ChunkPlace). p.offset) place-stays);
          bytes = omega (
            arith,
            h.bytes,
            ap (λ (p : ChunkPlace). p.offset) place-stays,
            ap (sum_by (λ (i : SampleInfo). i.size)) infos-stay,
            length-append buffer bytes,
          );
        }

  pub chunks-stay : (rs : List ChunkRef) → AllByRecursion (IsChunkAt mdat was) rs
      → map (chunk_in new (buffer ++ bytes)) rs ≡ map (chunk_in old buffer) rs
  chunks-stay [] a = refl
  chunks-stay (r ∷ rs) a = ap₂ (λ (x : Chunk) (xs : List Chunk). x ∷ xs) (chunk-stays r a.0) (chunks-stay rs a.1)

  pub are_chunks-stay : (rs : List ChunkRef) → AllByRecursion (IsChunkAt mdat was) rs
      → AllByRecursion (IsChunkAt mdat now) rs
  are_chunks-stay [] a = tt
  are_chunks-stay (r ∷ rs) a = (is_chunk-stays r a.0, are_chunks-stay rs a.1)
