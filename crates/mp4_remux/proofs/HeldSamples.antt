-- Tables while they are made.
use Rattle.std.proofs.Common.{◌≡◌, ◌∙◌, ◌++◌, List, [], ◌∷◌, refl, sym, ap, append_assoc}
use Rattle.std.proofs.lemmas.List.{map-append, append-nil}
use Rattle.mp4_mux.specs.declared.sample_info.SampleInfo.{SampleInfo}
use Rattle.mp4_remux.specs.Chunks.{chunks_after, chunks_of}
use Rattle.mp4_remux.specs.TrackTables.{HoldsSamples}
use Rattle.mp4_remux.specs.declared.chunks.PlacedSample.{PlacedSample}
use Rattle.mp4_remux.specs.declared.track_tables.SampleTables.{SampleTables}
use Rattle.mp4_remux.proofs.ChunkLaws.{none_next}

-- no sample
pub none_held : (made : SampleTables) → made.samples ≡ [] → made.chunks.items ≡ [] → HoldsSamples made []
unfolding chunks_after
none_held made none_are no_chunk = record { infos_are = none_are; chunks_are = λ next. rw no_chunk refl }

-- one more
pub next_held : (old new : SampleTables) (samples : List PlacedSample) (s : PlacedSample) → HoldsSamples old samples
    → new.samples ≡ old.samples ++ s.info ∷ []
    → ((next : List PlacedSample) → chunks_after new.chunks.items new.end next
    ≡ chunks_after old.chunks.items old.end (s ∷ next)) → HoldsSamples new (samples ++ s ∷ [])
next_held old new samples s held is chunks = record {
  infos_are = is ∙ ap (λ (xs : List SampleInfo). xs ++ s.info ∷ []) held.infos_are
      ∙ sym (map-append (λ (s : PlacedSample). s.info) samples (s ∷ []));
  chunks_are = λ next. ap (λ (xs : List PlacedSample). chunks_of xs) (append_assoc samples (s ∷ []) next)
      ∙ held.chunks_are (s ∷ next) ∙ sym (chunks next);
}

-- all of them
pub all_chunks : (made : SampleTables) (samples : List PlacedSample) → HoldsSamples made samples
    → made.chunks.items ≡ chunks_of samples
all_chunks made samples held =
    sym (none_next made.chunks.items made.end) ∙ sym (held.chunks_are [])
    ∙ ap (λ (xs : List PlacedSample). chunks_of xs) (append-nil samples)
