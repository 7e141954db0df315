-- A track as it is finished: room in its tables, and the size of its box.
use Rattle.std.proofs.Common.{◌≡◌, ◌≢◌, ℕ, ◌+◌, ◌-◌, ◌^◌, ◌≤◌, true, false, cond, eqb, List, [], ◌∷◌, ◌++◌}
use Rattle.std.proofs.Common.{length, map, min, refl, sym, ap, ◌∙◌, arith, ⊎_elim}
use Rattle.std.specs.Prelude.{nat_lt, ◌||◌}
use Rattle.std.proofs.lemmas.Bool.{cases_eq, eq-eqb, ne_eqb}
use Rattle.std.proofs.lemmas.Bool.Decides.{nat_tests}
use Rattle.std.proofs.lemmas.List.{append-nil, length_push, map-append}
use Rattle.std.proofs.lemmas.List.Elements.{All-push}
use Rattle.std.proofs.lemmas.List.Folds.{list_any-append}
use Rattle.mp4_codec.specs.declared.box_type.BoxType.TheVariants.{StcoBox as stco, Co64Box as co64}
use Rattle.mp4_codec.specs.Boxes.{optional}
use Rattle.mp4_table.specs.Stco.{stco_payload}
use Rattle.mp4_table.specs.Stsc.{stsc_payload}
use Rattle.mp4_table.specs.Co64.{co64_payload}
use Rattle.mp4_mux.specs.declared.chunk_place.ChunkPlace.{ChunkPlace}
use Rattle.mp4_mux.specs.SampleTables.{are_far, stsc_for, stco_for, co64_for}
use Rattle.mp4_mux.specs.TrackHeaders.{placed_of}
use Rattle.mp4_mux.specs.FinishedTrack.{counts_of, offsets_of, chunk_tables_length}
use Rattle.mp4_entry.specs.Config.{entry_length}
use Rattle.mp4_boxes.specs.Trak.{trak_payload}
use Rattle.mp4_mux.specs.TrackHeaders.{header_length, media_header_length, durations_of}
use Rattle.mp4_mux.specs.FinishedTrack.{trak_with, trak_for, sample_tables_length}
use Rattle.mp4_mux.proofs.FinishedTrackLaws.{counts_of-placed, offsets_of-placed, length-trak_with}
use Rattle.mp4_mux.specs.ChunkLists.{places_length}
use Rattle.mp4_mux.proofs.TableSizes.{size_of_stco, size_of_co64}
use Rattle.std.proofs.Common.{Bool}
use Rattle.mp4_mux.specs.TrackParts.{HaveRoom}
use Rattle.mp4_mux.specs.Building.{Building, TrackFields, IsTrack, building_of, pending_place}
use Rattle.mp4_mux.proofs.SampleLaws.{sum_by-push}
use Rattle.mp4_mux.specs.Parts.{last_place, track_with, finished_building}
use Rattle.mp4_mux.proofs.TrackLemmas.{pending-count}

-- the tables have room for all chunks
pub have_room : (f : TrackFields) → IsTrack f → (offset : ℕ)
    → HaveRoom f.samples (f.chunks ++ last_place offset (building_of f))
have_room f h offset = ⊎_elim none some (cases_eq (length b.pending) 0)
  where
    b : Building
    b = building_of f

    all : length f.samples ≡ length b.pending + f.closed_count
    all = pending-count f h

    alone : f.chunks ++ last_place offset b ≡ f.chunks → HaveRoom f.samples (f.chunks ++ last_place offset b)
    alone e = rw e record {
      samples = h.count;
      chunks = omega (arith, h.few, h.count, all);
      counts = omega (arith, h.counted, h.count, all);
      some_per_chunk = h.some_per_chunk;
    }

    none : length b.pending ≡ 0 → HaveRoom f.samples (f.chunks ++ last_place offset b)
    none e =
        alone (ap (λ v. f.chunks ++ cond v [] (pending_place b offset ∷ [])) (eq-eqb (length b.pending) 0 e)
        ∙ append-nil f.chunks)

    some : length b.pending ≢ 0 → HaveRoom f.samples (f.chunks ++ last_place offset b)
    some n =
        let place = pending_place b offset in
        let is : f.chunks ++ last_place offset b ≡ f.chunks ++ place ∷ [] =
        ap (λ v. f.chunks ++ cond v [] (place ∷ [])) (ne_eqb (length b.pending) 0 n) in
        rw is record {
          samples = h.count;
          chunks = omega (arith, h.few, h.count, all, n, length_push f.chunks place);
          counts = omega (
            arith,
            h.counted,
            h.count,
            all,
            sum_by-push (λ (c : ChunkPlace). c.count) f.chunks place,
          );
          some_per_chunk = All-push (λ (c : ChunkPlace). 1 ≤ c.count) f.chunks place h.some_per_chunk
              (omega (arith, n));
        }

-- places of chunks that pass 32 bits alike have tables of one size
same_places : (xs ys : List ℕ) → length xs ≡ length ys → are_far xs ≡ are_far ys
    → places_length xs ≡ places_length ys
same_places xs ys n e = go (are_far xs) refl
  where
    go : (v : Bool) → are_far xs ≡ v → places_length xs ≡ places_length ys
    go true far = omega (arith, n, size_of_co64 xs far, size_of_co64 ys (sym e ∙ far))
    go false near = omega (arith, n, size_of_stco xs near, size_of_stco ys (sym e ∙ near))

module _ (id : ℕ) (b : Building) (cs : List ChunkPlace) (p q : ℕ)
    (alike : nat_lt (2 ^ 32 - 1) p ≡ nat_lt (2 ^ 32 - 1) q) where
  abbrev with_last : ℕ → List ChunkPlace
  with_last offset = cs ++ pending_place b offset ∷ []

  counts-with : (offset : ℕ)
      → counts_of (map (placed_of id) (with_last offset)) ≡ map (λ (c : ChunkPlace). c.count) cs ++ length b.pending
      ∷ []
  counts-with offset =
      counts_of-placed id (with_last offset)
      ∙ map-append (λ (c : ChunkPlace). c.count) cs (pending_place b offset ∷ [])

  offsets-with : (offset : ℕ)
      → offsets_of (map (placed_of id) (with_last offset)) ≡ map (λ (c : ChunkPlace). c.offset) cs ++ offset ∷ []
  offsets-with offset =
      offsets_of-placed id (with_last offset)
      ∙ map-append (λ (c : ChunkPlace). c.offset) cs (pending_place b offset ∷ [])

  abbrev before : List ℕ
  before = map (λ (c : ChunkPlace). c.offset) cs

  far-with : are_far (before ++ p ∷ []) ≡ are_far (before ++ q ∷ [])
  far-with =
      list_any-append (λ o. nat_lt (2 ^ 32 - 1) o) before (p ∷ [])
      ∙ ap (λ v. are_far before || (v || false)) alike
      ∙ sym (list_any-append (λ o. nat_lt (2 ^ 32 - 1) o) before (q ∷ []))

  with_last-same : chunk_tables_length (map (placed_of id) (with_last p))
      ≡ chunk_tables_length (map (placed_of id) (with_last q))
  unfolding chunk_tables_length
  with_last-same =
      let places = same_places (before ++ p ∷ []) (before ++ q ∷ [])
      (length_push before p ∙ sym (length_push before q)) far-with in
      omega (
        arith,
        places,
        ap (λ ns. length (stsc_payload (stsc_for ns))) (counts-with p),
        ap (λ ns. length (stsc_payload (stsc_for ns))) (counts-with q),
        ap (λ os. length (optional stco stco_payload (stco_for os))) (offsets-with p),
        ap (λ os. length (optional stco stco_payload (stco_for os))) (offsets-with q),
        ap (λ os. length (optional co64 co64_payload (co64_for os))) (offsets-with p),
        ap (λ os. length (optional co64 co64_payload (co64_for os))) (offsets-with q),
      )

  -- a last chunk at either place leaves the tables as long
  pub last_place-same : chunk_tables_length (map (placed_of id) (cs ++ last_place p b))
      ≡ chunk_tables_length (map (placed_of id) (cs ++ last_place q b))
  last_place-same =
      elim (eqb (length b.pending) 0) as
      (λ v. chunk_tables_length (map (placed_of id) (cs ++ cond v [] (pending_place b p ∷ [])))
      ≡ chunk_tables_length (map (placed_of id) (cs ++ cond v [] (pending_place b q ∷ []))))
      [ true ↦ refl | false ↦ with_last-same ]

pub alike_far : (offset place : ℕ) → offset ≡ min place (2 ^ 64 - 1)
    → nat_lt (2 ^ 32 - 1) offset ≡ nat_lt (2 ^ 32 - 1) place
alike_far offset place e = grind (arith, nat_tests, e)

-- so the box of a track is as long
pub size_same : (m id : ℕ) (b : Building) (offset place : ℕ) → offset ≡ min place (2 ^ 64 - 1)
    → 8 + length (trak_payload (trak_with (durations_of m (track_with id b b.chunks))
    (track_with id b (b.chunks ++ last_place offset b))))
    ≡ 8 + length (trak_payload (trak_for m (finished_building id place b)))
size_same m id b offset place e =
    let durations = durations_of m (track_with id b b.chunks) in
    let t = track_with id b (b.chunks ++ last_place offset b) in
    length-trak_with durations t
    ∙ ap (λ n. 117 + header_length 92 durations.movie + header_length 32 durations.media
    + media_header_length b.config.media_conf + entry_length b.config.media_conf + sample_tables_length b.samples + n)
    (last_place-same id b b.chunks offset place (alike_far offset place e))
    ∙ sym (length-trak_with durations (finished_building id place b))
