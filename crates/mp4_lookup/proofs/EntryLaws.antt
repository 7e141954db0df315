-- Which entry of stsc a number belongs to, and in which chunk of it the number lies.
use Rattle.std.proofs.Common.{◌≡◌, ℕ, zero, suc, ◌+◌, ◌-◌, ◌*◌, ◌/◌, ◌%◌, ◌<◌, ◌≤◌}
use Rattle.std.proofs.Common.{List, length, get_or, take, sum, Some, Ok}
use Rattle.std.proofs.Common.{refl, ap, ◌∙◌, arith, add-one, ⊎_elim}
use Rattle.std.specs.Prelude.{nat_le}
use Rattle.std.specs.List.{All}
use Rattle.std.proofs.lemmas.Bool.{le-leb, lt-leb, cases_lt, cases_eq, ne_eqb}
use Rattle.std.proofs.lemmas.List.{get_or_default, take_all}
use Rattle.std.proofs.lemmas.Nat.{div_below, div-add-mod', mod_below}
use Rattle.std.proofs.Math.Nat.{le-mul_of_pos_right, lt_of_mul-lt-mul_right}
use Rattle.mp4_table.specs.declared.stsc.StscEntry.{StscEntry}
use Rattle.mp4_table.specs.Stsc.{HasFirstSamples}
use Rattle.mp4_table.specs.Chunks.{counts, last_where}
use Rattle.mp4_lookup.specs.Rule.{entry_for}
use Rattle.mp4_samples.proofs.LastLaws.{last_where_is}
use Rattle.mp4_samples.proofs.ChunkLaws.{Rises, sum-take-counts, length-counts, first_chunk_positive}

-- what consistent tables say of stsc, with n chunks and so many samples in all
pub record Fine (entries : List StscEntry) (n samples : ℕ) : Type 0 where
  pub some : 0 < length entries
  pub rises : Rises entries
  pub firsts : HasFirstSamples entries
  pub one : (d : StscEntry) → (get_or entries 0 d).first_chunk ≡ 1
  pub chunks : All (λ e. e.first_chunk ≤ n) entries
  pub positive : All (λ e. 1 ≤ e.samples_per_chunk) entries
  pub counted : sum (counts entries n) ≡ samples

pub first_samples_climb : (entries : List StscEntry) (d : StscEntry) → HasFirstSamples entries → (i j : ℕ) → i ≤ j
    → j < length entries → (get_or entries i d).first_sample ≤ (get_or entries j d).first_sample
first_samples_climb entries d firsts i zero p h = let e : i ≡ 0 = omega arith in rw e (omega arith)
first_samples_climb entries d firsts i (suc j) p h =
    let next = rw (add-one j) at (firsts.next j d (omega arith)) in
    ⊎_elim (λ (e : i ≡ suc j). rw e (omega arith))
    (λ ne. omega (arith, first_samples_climb entries d firsts i j (omega (arith, ne)) (omega arith), next))
    (cases_eq i (suc j))

-- a first sample is at least the first chunk, since no chunk is empty
first_chunk_le_first_sample : (entries : List StscEntry) (n samples : ℕ) (d : StscEntry) → Fine entries n samples
    → (i : ℕ) → i < length entries → (get_or entries i d).first_chunk ≤ (get_or entries i d).first_sample
first_chunk_le_first_sample entries n samples d fine zero h = omega (arith, fine.firsts.first d h, fine.one d)
first_chunk_le_first_sample entries n samples d fine (suc i) h =
    let a = get_or entries i d in
    let b = get_or entries (suc i) d in
    let next : b.first_sample ≡ a.first_sample + (b.first_chunk - a.first_chunk) * a.samples_per_chunk =
    rw (add-one i) at (fine.firsts.next i d (omega arith)) in
    let grows : b.first_chunk - a.first_chunk ≤ (b.first_chunk - a.first_chunk) * a.samples_per_chunk =
    le-mul_of_pos_right _ (fine.positive i d (omega arith)) in
    omega (
      arith,
      next,
      grows,
      first_chunk_le_first_sample entries n samples d fine i (omega arith),
      fine.rises i (suc i) d (omega arith) h,
    )

-- k belongs to entry i
pub record BelongsTo (entries : List StscEntry) (k i : ℕ) : Type 0 where
  pub within : i < length entries
  pub from : (d : StscEntry) → (get_or entries i d).first_sample ≤ k
  pub to : (d : StscEntry) → i + 1 < length entries → k < (get_or entries (i + 1) d).first_sample

pick : (entries : List StscEntry) (k : ℕ) (d : StscEntry) → (get_or entries 0 d).first_sample ≤ k → (n : ℕ)
    → n < length entries
    → (i : ℕ) × (i ≤ n) × ((get_or entries i d).first_sample ≤ k) × (i < n
    → k < (get_or entries (i + 1) d).first_sample)
pick entries k d first zero h = (0, omega arith, first, λ q. absurd (omega arith))
pick entries k d first (suc n) h =
    ⊎_elim
    (λ (later : k < (get_or entries (suc n) d).first_sample).
    let r = pick entries k d first n (omega arith) in (
      r.0,
      omega (arith, r.1),
      r.2,
      λ q. ⊎_elim (λ (e : r.0 ≡ n). rw (e, add-one n) later) (λ ne. r.3 (omega (arith, ne, r.1))) (cases_eq r.0 n),
    ))
    (λ le. (suc n, omega arith, le, λ q. absurd (omega arith)))
    (cases_lt k (get_or entries (suc n) d).first_sample)

pub belongs : (entries : List StscEntry) (k : ℕ) → HasFirstSamples entries → 0 < length entries → 1 ≤ k
    → (d : StscEntry) → (i : ℕ) × BelongsTo entries k i
belongs entries k firsts some pos d =
    let r = pick entries k d (omega (arith, firsts.first d some)) (length entries - 1) (omega arith) in
    let within : r.0 < length entries = omega (arith, r.1) in (
      r.0,
      record {
        within = within;
        from = λ e. rw (get_or_default entries r.0 e d within) r.2;
        to = λ e q. rw (get_or_default entries (r.0 + 1) e d q) (r.3 (omega arith));
      },
    )

-- the last entry whose first sample is at most k is the one that k belongs to
pub last_where-first_sample : (entries : List StscEntry) (k i : ℕ) (d : StscEntry) → HasFirstSamples entries
    → BelongsTo entries k i → last_where (λ e. nat_le e.first_sample k) entries ≡ Some (get_or entries i d)
last_where-first_sample entries k i d firsts at =
    last_where_is (λ e. nat_le e.first_sample k) entries i d at.within (le-leb _ _ (at.from d))
    (λ j e p q. lt-leb _ _
    (omega (arith, first_samples_climb entries e firsts (i + 1) j (omega arith) q, at.to e (omega arith))))

pub entry_for_is : (entries : List StscEntry) (k i : ℕ) (d : StscEntry) → 1 ≤ k → HasFirstSamples entries
    → All (λ e. 1 ≤ e.samples_per_chunk) entries → BelongsTo entries k i
    → entry_for entries k ≡ Ok (get_or entries i d)
unfolding entry_for
entry_for_is entries k i d pos firsts positive at =
    let e = get_or entries i d in
    rw (
      ne_eqb k 0 (λ z. omega (arith, z)),
      last_where-first_sample entries k i d firsts at,
      ne_eqb e.samples_per_chunk 0 (λ z. omega (arith, z, positive i d at.within)),
    ) refl

-- k against the whole: q chunks after entry i's first, with r samples before k in its chunk
pub record LiesAt (entries : List StscEntry) (k i q r : ℕ) (d : StscEntry) : Type 0 where
  pub rest : r < (get_or entries i d).samples_per_chunk
  pub number : k ≡ (get_or entries i d).first_sample + q * (get_or entries i d).samples_per_chunk + r
  pub before_next : i + 1 < length entries
      → (get_or entries i d).first_chunk + q < (get_or entries (i + 1) d).first_chunk

pub lies_at : (entries : List StscEntry) (n samples k i : ℕ) (d : StscEntry) → Fine entries n samples
    → BelongsTo entries k i
    → LiesAt entries k i ((k - (get_or entries i d).first_sample) / (get_or entries i d).samples_per_chunk)
    ((k - (get_or entries i d).first_sample) % (get_or entries i d).samples_per_chunk) d
lies_at entries n samples k i d fine at =
    let e = get_or entries i d in
    let next = get_or entries (i + 1) d in
    let pos : 0 < e.samples_per_chunk = fine.positive i d at.within in
    record {
      rest = mod_below _ _ pos;
      number = omega (arith, div-add-mod' (k - e.first_sample) e.samples_per_chunk, at.from d);
      before_next = λ h.
          let less : (k - e.first_sample) / e.samples_per_chunk < next.first_chunk - e.first_chunk =
          div_below _ _ _ pos (omega
          (arith, at.to d h, fine.firsts.next i d h, fine.rises i (i + 1) d (omega arith) h, at.from d)) in
          omega arith;
    }

-- with the last chunk, all samples are counted
all_counted : (entries : List StscEntry) (n samples i : ℕ) (d : StscEntry) → Fine entries n samples
    → i < length entries → (i + 1 < length entries → ⊥)
    → samples + 1 ≡ (get_or entries i d).first_sample + (n + 1 - (get_or entries i d).first_chunk) *
    (get_or entries i d).samples_per_chunk
all_counted entries n samples i d fine h last =
    let whole : sum (take n (counts entries n)) ≡ samples =
    ap sum (take_all n (counts entries n) (rw (length-counts entries n) (omega arith))) ∙ fine.counted in
    let fits : (get_or entries i d).first_chunk ≤ n = fine.chunks i d h in
    omega (
      arith,
      whole,
      sum-take-counts entries n i d fine.rises fine.firsts (fine.one d) fine.chunks h
          (n + 1 - (get_or entries i d).first_chunk) n (omega arith)
          (first_chunk_positive entries i d fine.rises (fine.one d) h) (omega arith) (λ q. absurd (last q)),
    )

-- a number that is there lies in a chunk that is there
pub chunk_within : (entries : List StscEntry) (n samples k i q r : ℕ) (d : StscEntry) → Fine entries n samples
    → BelongsTo entries k i → LiesAt entries k i q r d → k ≤ samples → (get_or entries i d).first_chunk + q ≤ n
chunk_within entries n samples k i q r d fine at lies small =
    let e = get_or entries i d in
    ⊎_elim
    (λ (h : i + 1 < length entries). omega (arith, lies.before_next h, fine.chunks (i + 1) d h))
    (λ past.
    let total = all_counted entries n samples i d fine at.within (λ h. omega arith) in
    let less : q * e.samples_per_chunk < (n + 1 - e.first_chunk) * e.samples_per_chunk =
    omega (arith, total, lies.number) in
    let fewer : q < n + 1 - e.first_chunk = lt_of_mul-lt-mul_right e.samples_per_chunk less in
    omega arith)
    (cases_lt (i + 1) (length entries))

-- a number past all lies in a chunk past all
pub chunk_past : (entries : List StscEntry) (n samples k i q r : ℕ) (d : StscEntry) → Fine entries n samples
    → BelongsTo entries k i → LiesAt entries k i q r d → samples < k → n < (get_or entries i d).first_chunk + q
chunk_past entries n samples k i q r d fine at lies large =
    let e = get_or entries i d in
    let final = length entries - 1 in
    let fits : final < length entries = omega (arith, at.within) in
    let total = all_counted entries n samples final d fine fits (λ h. omega arith) in
    ⊎_elim
    (λ (h : i + 1 < length entries). absurd
    (omega (arith, at.to d h, first_samples_climb entries d fine.firsts (i + 1) final (omega arith) fits, total)))
    (λ past.
    let same : final ≡ i = omega (arith, at.within) in
    let here : samples + 1 ≡ e.first_sample + (n + 1 - e.first_chunk) * e.samples_per_chunk = rw same at total in
    let most : (n + 1 - e.first_chunk) * e.samples_per_chunk < (q + 1) * e.samples_per_chunk =
    omega (arith, here, lies.number, lies.rest) in
    let fewer : n + 1 - e.first_chunk < q + 1 = lt_of_mul-lt-mul_right e.samples_per_chunk most in
    omega arith)
    (cases_lt (i + 1) (length entries))

-- no chunk's number passes the sample's
pub chunk_le : (entries : List StscEntry) (n samples k i q r : ℕ) (d : StscEntry) → Fine entries n samples
    → BelongsTo entries k i → LiesAt entries k i q r d → (get_or entries i d).first_chunk + q ≤ k
chunk_le entries n samples k i q r d fine at lies =
    let e = get_or entries i d in
    omega (
      arith,
      lies.number,
      first_chunk_le_first_sample entries n samples d fine i at.within,
      le-mul_of_pos_right q (fine.positive i d at.within),
    )

-- before k's chunk lie all samples before k but the r in its own chunk
pub sum-take-before : (entries : List StscEntry) (n samples k i q r c : ℕ) (d : StscEntry) → Fine entries n samples
    → BelongsTo entries k i → LiesAt entries k i q r d → c + 1 ≡ (get_or entries i d).first_chunk + q → c < n
    → sum (take c (counts entries n)) + r + 1 ≡ k
sum-take-before entries n samples k i q r c d fine at lies e h =
    omega (
      arith,
      lies.number,
      sum-take-counts entries n i d fine.rises fine.firsts (fine.one d) fine.chunks at.within q c e
          (first_chunk_positive entries i d fine.rises (fine.one d) at.within) (omega arith)
          (λ p. omega (arith, lies.before_next p)),
    )

pub first_samples_positive : (entries : List StscEntry) → HasFirstSamples entries
    → All (λ e. 1 ≤ e.first_sample) entries
first_samples_positive entries firsts k d h =
    omega (arith, firsts.first d (omega arith), first_samples_climb entries d firsts 0 k (omega arith) h)
