-- Samples in chunks, one after the other.
use Rattle.std.proofs.Common.{◌≡◌, ◌∙◌, ◌+◌, ◌-◌, ◌^◌, ◌<◌, ◌≤◌, ◌++◌, ℕ, min, true, false, List, [], ◌∷◌, drop}
use Rattle.std.proofs.Common.{length}
use Rattle.std.proofs.Common.{Option, Some, get_or, refl, ap, append_assoc}
use Rattle.std.proofs.lemmas.List.{drop_all, drop_more, append-nil}
use Rattle.mp4_table.specs.declared.stsc.StscEntry.{StscEntry}
use Rattle.mp4_remux.specs.declared.chunks.Chunk.{Chunk}
use Rattle.mp4_remux.specs.declared.chunks.PlacedSample.{PlacedSample}
use Rattle.mp4_remux.specs.Chunks.{and_one, belongs_to, chunk_entries, chunk_with, chunks_after, chunks_from, chunks_of}
use Rattle.mp4_remux.specs.Chunks.{end_of_sample, is_alike}

-- SAMPLES

-- the samples that come next go on with the last chunk
after_last : (done : List Chunk) (c : Chunk) (end : ℕ) (next : List PlacedSample)
    → chunks_after (done ++ c ∷ []) end next ≡ done ++ chunks_from c end next
unfolding chunks_after
after_last [] c end next = refl
after_last (d ∷ []) c end next = refl
after_last (d ∷ e ∷ ds) c end next = ap (λ (cs : List Chunk). d ∷ cs) (after_last (e ∷ ds) c end next)

module _ (old new rest : List Chunk) (end : ℕ) (s : PlacedSample) where
  -- the first chunk
  pub first_sample : old ≡ rest ++ [] → rest ≡ [] → new ≡ rest ++ chunk_with s ∷ [] → (next : List PlacedSample)
      → chunks_after new (end_of_sample s) next ≡ chunks_after old end (s ∷ next)
  unfolding chunks_after chunks_of
  first_sample was none is next = rw (is, was, none) refl

  module _ (c : Chunk) (was : old ≡ rest ++ c ∷ []) where
    -- a sample more of the last chunk
    pub same_chunk : belongs_to c end s ≡ true → new ≡ rest ++ and_one c ∷ [] → (next : List PlacedSample)
        → chunks_after new (end_of_sample s) next ≡ chunks_after old end (s ∷ next)
    unfolding chunks_from
    same_chunk belongs is next =
        rw (is, was, after_last rest (and_one c) (end_of_sample s) next, after_last rest c end (s ∷ next), belongs)
        refl

    -- a sample that begins a chunk
    pub other_chunk : belongs_to c end s ≡ false → new ≡ (rest ++ c ∷ []) ++ chunk_with s ∷ []
        → (next : List PlacedSample) → chunks_after new (end_of_sample s) next ≡ chunks_after old end (s ∷ next)
    unfolding chunks_from
    other_chunk begins is next =
        rw (
          is,
          was,
          after_last (rest ++ c ∷ []) (chunk_with s) (end_of_sample s) next,
          after_last rest c end (s ∷ next),
          begins,
        )
        (append_assoc rest (c ∷ []) (chunks_from (chunk_with s) (end_of_sample s) next))

-- where none come next, these are all
pub none_next : (cs : List Chunk) (end : ℕ) → chunks_after cs end [] ≡ cs
unfolding chunks_after chunks_from chunks_of
none_next [] end = refl
none_next (c ∷ []) end = refl
none_next (c ∷ d ∷ cs) end = ap (λ (cs : List Chunk). c ∷ cs) (none_next (d ∷ cs) end)

-- ENTRIES

-- what a slice of chunks has past its end
abbrev pub no_chunk : Chunk
no_chunk = record { place = 0; count = 0; description = 0 }

module _ (cs : List Chunk) (i number next : ℕ) (before : Option Chunk) (d : Chunk) (lt : i < length cs)
    (is : next ≡ min (2 ^ 32 - 1) (number + 1))
  where
    -- a chunk like the one before it
    pub entries_alike : (done : List StscEntry) → is_alike before (get_or cs i d) ≡ true
        → done ++ chunk_entries (Some (get_or cs i d)) next (drop (i + 1) cs)
        ≡ done ++ chunk_entries before number (drop i cs)
    unfolding chunk_entries
    entries_alike done alike = rw (is, drop_more cs i d lt, alike) refl

    -- one that isn't
    pub entries_unlike : (done : List StscEntry) → is_alike before (get_or cs i d) ≡ false
        → (done ++ record {
          first_chunk = number;
          samples_per_chunk = (get_or cs i d).count;
          sample_description_index = (get_or cs i d).description;
          first_sample = 0;
        } ∷ []) ++ chunk_entries (Some (get_or cs i d)) next (drop (i + 1) cs)
        ≡ done ++ chunk_entries before number (drop i cs)
    unfolding chunk_entries
    entries_unlike done unlike =
        append_assoc done _ (chunk_entries (Some (get_or cs i d)) next (drop (i + 1) cs))
        ∙ rw (is, drop_more cs i d lt, unlike) refl

-- all are there
pub entries_ended : (cs : List Chunk) (done : List StscEntry) (before : Option Chunk) (number i : ℕ) → length cs ≤ i
    → done ++ chunk_entries before number (drop i cs) ≡ done
unfolding chunk_entries
entries_ended cs done before number i all = rw (drop_all i cs all) (append-nil done)
