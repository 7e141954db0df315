-- How long the tables are.
use Rattle.std.proofs.Common.{◌≡◌, ℕ, ◌+◌, ◌*◌, ◌<◌, ◌≤◌, true, false, cond, nat_eq, List, [], ◌∷◌}
use Rattle.std.proofs.Common.{◌++◌, length, get_or, drop, map, Option, Some, None, refl, sym, ◌∙◌, arith}
use Rattle.std.specs.List.{count_by}
use Rattle.std.specs.Option.{option_to_list}
use Rattle.std.proofs.lemmas.Bool.{eq-eqb, ne_eqb}
use Rattle.std.proofs.lemmas.List.{drop_more, drop_all, length-map}
use Rattle.std.proofs.lemmas.List.Sums.{sum_by-cons}
use Rattle.mp4_codec.specs.Boxes.{optional}
use Rattle.mp4_codec.specs.FramingLaws.{length-box_bytes}
use Rattle.mp4_codec.specs.declared.box_type.BoxType.TheVariants.{CttsBox as ctts, StssBox as stss, StcoBox as stco}
use Rattle.mp4_codec.specs.declared.box_type.BoxType.TheVariants.{Co64Box as co64}
use Rattle.mp4_table.specs.Runs.{changes_after}
use Rattle.mp4_table.specs.Stts.{stts_payload}
use Rattle.mp4_table.specs.SttsLaws.{length-stts_payload}
use Rattle.mp4_table.specs.Ctts.{ctts_payload}
use Rattle.mp4_table.specs.CttsLaws.{length-ctts_payload}
use Rattle.mp4_table.specs.Stss.{stss_payload}
use Rattle.mp4_table.specs.StssLaws.{length-stss_payload}
use Rattle.mp4_table.specs.Stsz.{stsz_payload}
use Rattle.mp4_table.specs.StszLaws.{length-stsz_payload}
use Rattle.mp4_table.specs.Stsc.{stsc_payload}
use Rattle.mp4_table.specs.StscLaws.{length-stsc_payload}
use Rattle.mp4_table.specs.Stco.{stco_payload}
use Rattle.mp4_table.specs.StcoLaws.{length-stco_payload}
use Rattle.mp4_table.specs.Co64.{co64_payload}
use Rattle.mp4_table.specs.Co64Laws.{length-co64_payload}
use Rattle.mp4_mux.specs.declared.sample_info.SampleInfo.{SampleInfo}
use Rattle.mp4_mux.specs.declared.chunk_place.ChunkPlace.{ChunkPlace}
use Rattle.mp4_mux.specs.SampleTables.{runs_of, same_duration, stts_run, same_offset, ctts_run, are_in_order}
use Rattle.mp4_mux.specs.SampleTables.{sync_numbers_from, one_size, listed_sizes, are_far, stts_for, ctts_for, stss_for}
use Rattle.mp4_mux.specs.SampleTables.{stsz_for, stsc_for, stco_for, co64_for}
use Rattle.mp4_mux.specs.ChunkLists.{places_length}
use Rattle.mp4_mux.proofs.ChunkTableLaws.{length-stsc_for_changes_after}

pub size_of_stts : (ss : List SampleInfo)
    → length (stts_payload (stts_for ss)) ≡ 8 + length (runs_of same_duration stts_run ss) * 8
unfolding stts_for
size_of_stts ss = length-stts_payload (stts_for ss)

pub size_without_ctts : (ss : List SampleInfo) → are_in_order ss ≡ true
    → length (optional ctts ctts_payload (ctts_for ss)) ≡ 0
unfolding ctts_for
size_without_ctts ss e = rw e refl

pub size_of_ctts : (ss : List SampleInfo) → are_in_order ss ≡ false
    → length (optional ctts ctts_payload (ctts_for ss)) ≡ 16 + length (runs_of same_offset ctts_run ss) * 8
unfolding ctts_for
size_of_ctts ss e =
    rw e (length-box_bytes ctts _ ∙ omega (
      arith,
      length-ctts_payload (record { version = 0; flags = 0; entries = runs_of same_offset ctts_run ss }),
    ))

length-sync_numbers_from : (k : ℕ) (ss : List SampleInfo)
    → length (sync_numbers_from k ss) ≡ count_by (λ s. s.is_sync) ss
unfolding sync_numbers_from
length-sync_numbers_from k [] = refl
length-sync_numbers_from k (s ∷ ss) =
    let rest = sync_numbers_from (k + 1) ss in
    (elim s.is_sync as (λ b. length (cond b (k ∷ rest) rest) ≡ cond b 1 0 + count_by (λ s. s.is_sync) ss) [
      | true ↦ omega (arith, length-sync_numbers_from (k + 1) ss)
      | false ↦ omega (arith, length-sync_numbers_from (k + 1) ss)
    ]) ∙ sym (sum_by-cons (λ (s : SampleInfo). cond s.is_sync 1 0) s ss)

pub size_without_stss : (ss : List SampleInfo) → length ss ≡ 0
    → length (optional stss stss_payload (stss_for ss)) ≡ 0
unfolding stss_for
size_without_stss [] h = refl
size_without_stss (s ∷ ss) h = absurd (omega arith)

pub size_of_stss : (ss : List SampleInfo) → 0 < length ss
    → length (optional stss stss_payload (stss_for ss)) ≡ 16 + count_by (λ s. s.is_sync) ss * 4
unfolding stss_for
size_of_stss [] h = absurd (omega arith)
size_of_stss (s ∷ ss) h =
    let numbers = sync_numbers_from 1 (s ∷ ss) in
    length-box_bytes stss _ ∙ omega (
      arith,
      length-stss_payload (record { version = 0; flags = 0; entries = numbers }),
      length-sync_numbers_from 1 (s ∷ ss),
    )

pub size_of_stsz : (ss : List SampleInfo) → one_size ss ≡ 0 → length (stsz_payload (stsz_for ss)) ≡ 12 + length ss * 4
unfolding stsz_for listed_sizes
size_of_stsz ss e =
    length-stsz_payload (stsz_for ss) ∙ rw (e, length-map ss (λ s. s.size)) refl

pub size_of_stsz_of_one : (ss : List SampleInfo) → (one_size ss ≡ 0 → ⊥) → length (stsz_payload (stsz_for ss)) ≡ 12
unfolding stsz_for listed_sizes
size_of_stsz_of_one ss e =
    length-stsz_payload (stsz_for ss) ∙ rw (ne_eqb (one_size ss) 0 e) refl

pub size_of_stsc : (ns : List ℕ) → length (stsc_payload (stsc_for ns)) ≡ 8 + changes_after nat_eq 0 ns * 12
size_of_stsc ns = omega (arith, length-stsc_payload (stsc_for ns), length-stsc_for_changes_after ns)

-- how many chunks from chunk i on, and of those after all, have another number of samples than the one before them
abbrev pub changes_at : List ChunkPlace → List ChunkPlace → ℕ → ℕ → ℕ
changes_at cs rest n i = changes_after nat_eq n (map (λ c. c.count) (drop i cs ++ rest))

module _ (cs rest : List ChunkPlace) (d : ChunkPlace) where
  pub changes_at_same : (n i : ℕ) → i < length cs → (get_or cs i d).count ≡ n
      → changes_at cs rest n i ≡ changes_at cs rest n (i + 1)
  unfolding changes_after
  changes_at_same n i h e = rw (drop_more cs i d h, e, eq-eqb n n refl) (omega arith)

  pub changes_at_other : (n i : ℕ) → i < length cs → ((get_or cs i d).count ≡ n → ⊥)
      → changes_at cs rest n i ≡ 1 + changes_at cs rest (get_or cs i d).count (i + 1)
  unfolding changes_after
  changes_at_other n i h e = rw (drop_more cs i d h, ne_eqb n (get_or cs i d).count (λ same. e (sym same))) refl

  pub changes_at_end : (n i : ℕ) → length cs ≤ i
      → changes_at cs rest n i ≡ changes_after nat_eq n (map (λ c. c.count) rest)
  changes_at_end n i h = rw (drop_all i cs h) refl

-- how many of the chunks after all have another number of samples than the one before them, n
pub changes_none : (n : ℕ) (last : Option ChunkPlace) → last ≡ None
    → changes_after nat_eq n (map (λ c. c.count) (option_to_list last)) ≡ 0
unfolding changes_after
changes_none n last e = rw e refl

pub changes_same : (n : ℕ) (last : Option ChunkPlace) (c : ChunkPlace) → last ≡ Some c → c.count ≡ n
    → changes_after nat_eq n (map (λ c. c.count) (option_to_list last)) ≡ 0
unfolding changes_after
changes_same n last c e same = rw (e, same, eq-eqb n n refl) refl

pub changes_other : (n : ℕ) (last : Option ChunkPlace) (c : ChunkPlace) → last ≡ Some c → (c.count ≡ n → ⊥)
    → changes_after nat_eq n (map (λ c. c.count) (option_to_list last)) ≡ 1
unfolding changes_after
changes_other n last c e other = rw (e, ne_eqb n c.count (λ same. other (sym same))) refl

pub size_of_stco : (os : List ℕ) → are_far os ≡ false → places_length os ≡ 16 + length os * 4
unfolding stco_for co64_for
size_of_stco os e =
    rw e (omega (
      arith,
      length-box_bytes stco (stco_payload (record { version = 0; flags = 0; entries = os })),
      length-stco_payload (record { version = 0; flags = 0; entries = os }),
    ))

pub size_of_co64 : (os : List ℕ) → are_far os ≡ true → places_length os ≡ 16 + length os * 8
unfolding stco_for co64_for
size_of_co64 os e =
    rw e (omega (
      arith,
      length-box_bytes co64 (co64_payload (record { version = 0; flags = 0; entries = os })),
      length-co64_payload (record { version = 0; flags = 0; entries = os }),
    ))

pub ruleset sizes = (
  size_of_stts,
  size_without_ctts,
  size_of_ctts,
  size_without_stss,
  size_of_stss,
  size_of_stsz,
  size_of_stsz_of_one,
  size_of_stsc,
)
