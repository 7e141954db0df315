-- The tables of chunks, made from the front on.
use Rattle.std.proofs.Common.{◌≡◌, ℕ, ◌+◌, ◌-◌, ◌<◌, ◌≤◌, ◌^◌, false, ltb, List, [], ◌∷◌}
use Rattle.std.proofs.Common.{◌++◌, length, get_or, drop, map, refl, sym, ◌∙◌, append_assoc, arith, eq-eqb, ⊎_elim}
use Rattle.std.proofs.lemmas.Bool.{ne_eqb, lt-ltb, false≢true, cases_lt}
use Rattle.std.proofs.lemmas.List.{drop_more, drop_all, length-map, get_or-map, append-nil}
use Rattle.std.proofs.lemmas.List.Folds.{list_any_at}
use Rattle.mp4_table.specs.declared.stsc.StscEntry.{StscEntry}
use Rattle.mp4_mux.specs.declared.chunk_place.ChunkPlace.{ChunkPlace}
use Rattle.mp4_mux.specs.SampleTables.{chunk_entries_from, are_far}

-- what a slice of chunks has past its end
abbrev pub no_chunk : ChunkPlace
no_chunk = record { first = 0; count = 0; offset = 0 }

-- the entries of the chunks from chunk i on, counted from 0: before it are so many samples, and chunks of n
abbrev pub entries_at : List ChunkPlace → ℕ → ℕ → ℕ → List StscEntry
entries_at cs n samples i = chunk_entries_from n (i + 1) (samples + 1) (map (λ c. c.count) (drop i cs))

module _ (cs : List ChunkPlace) (d : ChunkPlace) where
  pub entries_at_same : (n samples i : ℕ) → i < length cs → (get_or cs i d).count ≡ n
      → entries_at cs n (samples + (get_or cs i d).count) (i + 1) ≡ entries_at cs n samples i
  unfolding chunk_entries_from
  entries_at_same n samples i h e =
      let begin : samples + 1 + n ≡ samples + n + 1 = omega arith in
      rw (drop_more cs i d h, e, eq-eqb n n refl, begin) refl

  pub entries_at_other : (done : List StscEntry) (n samples i : ℕ) → i < length cs
      → ((get_or cs i d).count ≡ n → ⊥)
      → (done ++ record {
        first_chunk = i + 1;
        samples_per_chunk = (get_or cs i d).count;
        sample_description_index = 1;
        first_sample = samples + 1;
      } ∷ []) ++ entries_at cs (get_or cs i d).count (samples + (get_or cs i d).count) (i + 1)
      ≡ done ++ entries_at cs n samples i
  unfolding chunk_entries_from
  entries_at_other done n samples i h e =
      let m = (get_or cs i d).count in
      let begin : samples + 1 + m ≡ samples + m + 1 = omega arith in
      append_assoc done _ (entries_at cs m (samples + m) (i + 1))
      ∙ rw (drop_more cs i d h, ne_eqb m n e, begin) refl

  pub entries_at_end : (done : List StscEntry) (n samples i : ℕ) → length cs ≤ i
      → done ++ entries_at cs n samples i ≡ done
  unfolding chunk_entries_from
  entries_at_end done n samples i h = rw (drop_all i cs h) (append-nil done)

-- where no offset is far, each has room in 32 bits
pub offset_is_near : (cs : List ChunkPlace) (i : ℕ) (d : ChunkPlace) → are_far (map (λ c. c.offset) cs) ≡ false
    → i < length cs → (get_or cs i d).offset < 2 ^ 32
offset_is_near cs i d near h =
    let at : get_or (map (λ c. c.offset) cs) i 0 ≡ (get_or cs i d).offset = get_or-map (λ c. c.offset) cs i d 0 h in
    let within : i < length (map (λ c. c.offset) cs) = rw (length-map cs (λ c. c.offset)) h in
    ⊎_elim
    (λ (far : 2 ^ 32 - 1 < (get_or cs i d).offset).
    absurd (false≢true (sym near ∙ list_any_at (λ o. ltb (2 ^ 32 - 1) o) (map (λ c. c.offset) cs) i 0 within
    (rw at (lt-ltb _ _ far)))))
    (λ small. omega (arith, small))
    (cases_lt (2 ^ 32 - 1) (get_or cs i d).offset)
