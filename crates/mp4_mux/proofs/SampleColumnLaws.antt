-- Samples, and the lists of each kind of number of theirs.
use Rattle.std.proofs.Common.{◌≡◌, ℕ, ℤ, Bool, List, [], ◌∷◌, ◌++◌, length, map, take, refl, sym, ap, ◌∙◌, arith}
use Rattle.std.specs.List.{zip}
use Rattle.std.proofs.lemmas.List.{length-map, map-append, length_push, take_at}
use Rattle.std.proofs.lemmas.Slice.Zip.{length-zip, firsts-zip, seconds-zip}
use Rattle.mp4_mux.specs.declared.sample_info.SampleInfo.{SampleInfo}
use Rattle.mp4_mux.specs.SampleColumns.{info_with, infos_of, AreAsMany}

zip-push : {A B : Type 0} (xs : List A) (ys : List B) (x : A) (y : B) → length ys ≡ length xs
    → zip (xs ++ x ∷ []) (ys ++ y ∷ []) ≡ zip xs ys ++ (x, y) ∷ []
zip-push [] [] x y h = refl
zip-push [] (b ∷ ys) x y h = absurd (omega (arith, h))
zip-push (a ∷ xs) [] x y h = absurd (omega (arith, h))
zip-push (a ∷ xs) (b ∷ ys) x y h = ap (λ zs. (a, b) ∷ zs) (zip-push xs ys x y (omega (arith, h)))

map-firsts : {A B C : Type 0} (f : A → C) (ps : List (A × B)) → map (λ p. f p.0) ps ≡ map f (map (λ p. p.0) ps)
map-firsts f [] = refl
map-firsts f (p ∷ ps) = ap (λ xs. f p.0 ∷ xs) (map-firsts f ps)

map-seconds : {A B C : Type 0} (f : B → C) (ps : List (A × B)) → map (λ p. f p.1) ps ≡ map f (map (λ p. p.1) ps)
map-seconds f [] = refl
map-seconds f (p ∷ ps) = ap (λ xs. f p.1 ∷ xs) (map-seconds f ps)

map-infos : {C : Type 0} (f : SampleInfo → C) (vs : List (ℕ × (ℕ × (ℤ × Bool))))
    → map f (map info_with vs) ≡ map (λ v. f (info_with v)) vs
map-infos f [] = refl
map-infos f (v ∷ vs) = ap (λ xs. f (info_with v) ∷ xs) (map-infos f vs)

-- what is before the last is the same, where the whole is
pub same-init : {A : Type 0} (xs ys : List A) (x y : A) → xs ++ x ∷ [] ≡ ys ++ y ∷ [] → xs ≡ ys
same-init xs ys x y e =
    let same : length ys ≡ length xs = omega (arith, length_push xs x, length_push ys y, ap length e) in
    sym (take_at xs (x ∷ []) (length xs) refl) ∙ ap (take (length xs)) e ∙ take_at ys (y ∷ []) (length xs) same

module _ (sizes durations : List ℕ) (offsets : List ℤ) (syncs : List Bool)
    (h : AreAsMany sizes durations offsets syncs) where
  third : length (zip offsets syncs) ≡ length sizes
  third = omega (arith, length-zip offsets syncs, h.offsets_count, h.syncs_count)

  second : length (zip durations (zip offsets syncs)) ≡ length sizes
  second = omega (arith, length-zip durations (zip offsets syncs), third, h.durations_count)

  pub length-infos : length (infos_of sizes durations offsets syncs) ≡ length sizes
  unfolding infos_of
  length-infos =
      omega (
        arith,
        length-map (zip sizes (zip durations (zip offsets syncs))) info_with,
        length-zip sizes (zip durations (zip offsets syncs)),
        second,
      )

  pub sizes-infos : sizes ≡ map (λ s. s.size) (infos_of sizes durations offsets syncs)
  unfolding infos_of
  sizes-infos =
      let all = zip sizes (zip durations (zip offsets syncs)) in
      sym (map-infos (λ s. s.size) all ∙ firsts-zip sizes (zip durations (zip offsets syncs)) second)

  rest-of : map (λ p. p.1) (zip sizes (zip durations (zip offsets syncs))) ≡ zip durations (zip offsets syncs)
  rest-of = seconds-zip sizes (zip durations (zip offsets syncs)) second

  rest-of-rest : map (λ p. p.1) (zip durations (zip offsets syncs)) ≡ zip offsets syncs
  rest-of-rest = seconds-zip durations (zip offsets syncs) (omega (arith, third, h.durations_count))

  pub durations-infos : durations ≡ map (λ s. s.duration) (infos_of sizes durations offsets syncs)
  unfolding infos_of
  durations-infos =
      let all = zip sizes (zip durations (zip offsets syncs)) in
      sym (map-infos (λ s. s.duration) all
      ∙ map-seconds (λ p. p.0) all
      ∙ ap (map (λ p. p.0)) rest-of
      ∙ firsts-zip durations (zip offsets syncs) (omega (arith, third, h.durations_count)))

  pub offsets-infos : offsets ≡ map (λ s. s.rendering_offset) (infos_of sizes durations offsets syncs)
  unfolding infos_of
  offsets-infos =
      let all = zip sizes (zip durations (zip offsets syncs)) in
      sym (map-infos (λ s. s.rendering_offset) all
      ∙ map-seconds (λ p. p.1.0) all
      ∙ ap (map (λ p. p.1.0)) rest-of
      ∙ map-seconds (λ p. p.0) (zip durations (zip offsets syncs))
      ∙ ap (map (λ p. p.0)) rest-of-rest
      ∙ firsts-zip offsets syncs (omega (arith, h.offsets_count, h.syncs_count)))

  pub syncs-infos : syncs ≡ map (λ s. s.is_sync) (infos_of sizes durations offsets syncs)
  unfolding infos_of
  syncs-infos =
      let all = zip sizes (zip durations (zip offsets syncs)) in
      sym (map-infos (λ s. s.is_sync) all
      ∙ map-seconds (λ p. p.1.1) all
      ∙ ap (map (λ p. p.1.1)) rest-of
      ∙ map-seconds (λ p. p.1) (zip durations (zip offsets syncs))
      ∙ ap (map (λ p. p.1)) rest-of-rest
      ∙ seconds-zip offsets syncs (omega (arith, h.offsets_count, h.syncs_count)))

  -- one more sample
  pub infos-push : (s : SampleInfo)
      → infos_of (sizes ++ s.size ∷ []) (durations ++ s.duration ∷ []) (offsets ++ s.rendering_offset ∷ [])
      (syncs ++ s.is_sync ∷ [])
      ≡ infos_of sizes durations offsets syncs ++ s ∷ []
  unfolding infos_of
  infos-push s =
      let inner = zip-push offsets syncs s.rendering_offset s.is_sync (omega (arith, h.offsets_count, h.syncs_count)) in
      let middle = ap (zip (durations ++ s.duration ∷ [])) inner
      ∙ zip-push durations (zip offsets syncs) s.duration (s.rendering_offset, s.is_sync)
      (omega (arith, third, h.durations_count)) in
      ap (map info_with)
      (ap (zip (sizes ++ s.size ∷ [])) middle
      ∙ zip-push sizes (zip durations (zip offsets syncs)) s.size (s.duration, (s.rendering_offset, s.is_sync)) second)
      ∙ map-append info_with (zip sizes (zip durations (zip offsets syncs)))
      ((s.size, (s.duration, (s.rendering_offset, s.is_sync))) ∷ [])

  pub as-many-push : (s : SampleInfo)
      → AreAsMany (sizes ++ s.size ∷ []) (durations ++ s.duration ∷ []) (offsets ++ s.rendering_offset ∷ [])
      (syncs ++ s.is_sync ∷ [])
  as-many-push s = record {
    durations_count = omega (arith, length_push sizes s.size, length_push durations s.duration, h.durations_count);
    offsets_count = omega (arith, length_push sizes s.size, length_push offsets s.rendering_offset, h.offsets_count);
    syncs_count = omega (arith, length_push sizes s.size, length_push syncs s.is_sync, h.syncs_count);
  }

-- the lists without the last sample
pub as-many-init : (sizes durations : List ℕ) (offsets : List ℤ) (syncs : List Bool) (s : SampleInfo)
    → AreAsMany (sizes ++ s.size ∷ []) (durations ++ s.duration ∷ []) (offsets ++ s.rendering_offset ∷ [])
    (syncs ++ s.is_sync ∷ [])
    → AreAsMany sizes durations offsets syncs
as-many-init sizes durations offsets syncs s h = record {
  durations_count = omega (arith, length_push sizes s.size, length_push durations s.duration, h.durations_count);
  offsets_count = omega (arith, length_push sizes s.size, length_push offsets s.rendering_offset, h.offsets_count);
  syncs_count = omega (arith, length_push sizes s.size, length_push syncs s.is_sync, h.syncs_count);
}
