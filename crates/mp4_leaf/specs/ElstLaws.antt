-- An edit list is read as it was written.
use Rattle.std.proofs.Common.{◌≡◌, ℕ, ◌+◌, ◌*◌, ◌^◌, ◌<◌, ◌≤◌, Bool, true, false, cond, eqb, List, [], ◌∷◌, length}
use Rattle.std.proofs.Common.{None, Ok, refl, subst, ap, ◌∙◌, arith}
use Rattle.std.specs.List.{flat_map, AllByRecursion}
use Rattle.mp4_codec.specs.Cause.{◌>>=◌}
use Rattle.mp4_codec.specs.WriteLaws.{is_written, or_parts}
use Rattle.mp4_codec.specs.Bytes.{Reader, ◌⧺◌, number_at, sized_at, version_refusal, value_refusal, HasLength}
use Rattle.mp4_codec.specs.Boxes.{all_refusal}
use Rattle.mp4_codec.specs.FieldLaws.{FitsVersion-written, number_again, sized_again}
use Rattle.mp4_codec.specs.Bytes.{ReadsBack}
use Rattle.mp4_codec.specs.FieldLaws.{list_last, number-has_length, seen-has_length, then-has_length, length-number}
use Rattle.mp4_codec.specs.FieldLaws.{length-versioned, length-then, then_assoc, sized-has_length}
use Rattle.mp4_codec.specs.ListLaws.{length-flat_map-same}
use Rattle.mp4_leaf.specs.declared.elst.ElstEntry.{ElstEntry}
use Rattle.mp4_leaf.specs.declared.elst.ElstBox.{ElstBox}
use Rattle.mp4_leaf.specs.Elst.{elst_entry_at, elst_entry, elst_entry_length, IsInRangeElstEntry, FitsElstEntry}
use Rattle.mp4_leaf.specs.Elst.{elst_entry_refusal, elst_of, elst_payload, elst_refusal, IsCanonicalElst}

by_version : (b : Bool) → cond b 8 4 + (cond b 8 4 + (2 + 2)) ≡ cond b 20 12
by_version true = refl
by_version false = refl

pub length-elst_entry : (version : ℕ) (e : ElstEntry) → length (elst_entry version e) ≡ elst_entry_length version
unfolding elst_entry
length-elst_entry version e = simp (length-then, length-number, length-versioned) (by_version (eqb version 1))

abbrev fraction_at : ℕ → ℕ → ℕ → Reader ElstEntry
fraction_at duration time rate bytes = do
  fraction ← number_at 2 bytes
  Ok (
    record { segment_duration = duration; media_time = time; media_rate = rate; media_rate_fraction = fraction.0 },
    fraction.1,
  )

abbrev rate_at : ℕ → ℕ → Reader ElstEntry
rate_at duration time bytes = number_at 2 bytes >>= λ rate. fraction_at duration time rate.0 rate.1

abbrev time_at : ℕ → ℕ → Reader ElstEntry
time_at version duration bytes = sized_at version bytes >>= λ time. rate_at duration time.0 time.1

pub elst_entry-has_length : (version : ℕ) → HasLength (elst_entry_at version) (elst_entry_length version)
unfolding elst_entry_at
elst_entry-has_length version =
    subst (λ (n : ℕ). HasLength (elst_entry_at version) n) (by_version (eqb version 1)) whole
  where
    with_fraction : (duration time rate : ℕ) → HasLength (fraction_at duration time rate) 2
    with_fraction duration time rate = seen-has_length (number_at 2) 2 (λ fraction. record {
      segment_duration = duration;
      media_time = time;
      media_rate = rate;
      media_rate_fraction = fraction;
    }) (number-has_length 2)

    with_rate : (duration time : ℕ) → HasLength (rate_at duration time) (2 + 2)
    with_rate duration time =
        then-has_length (number_at 2) (fraction_at duration time) 2 2 (number-has_length 2)
        (with_fraction duration time)

    with_time : (duration : ℕ) → HasLength (time_at version duration) (cond (eqb version 1) 8 4 + (2 + 2))
    with_time duration =
        then-has_length (sized_at version) (rate_at duration) _ _ (sized-has_length version)
        (with_rate duration)

    whole : HasLength (elst_entry_at version) (cond (eqb version 1) 8 4 + (cond (eqb version 1) 8 4 + (2 + 2)))
    whole = then-has_length (sized_at version) (time_at version) _ _ (sized-has_length version) with_time

pub elst_entry_again : (version : ℕ) (e : ElstEntry) (rest : List ℕ) → FitsElstEntry version e
    → elst_entry_at version (elst_entry version e ⧺ rest) ≡ Ok (e, rest)
unfolding elst_entry_at elst_entry
elst_entry_again version e rest f =
    simp then_assoc (rw (
      sized_again version e.segment_duration _ f.segment_duration,
      sized_again version e.media_time _ f.media_time,
      number_again 2 e.media_rate _ f.media_rate,
      number_again 2 e.media_rate_fraction _ f.media_rate_fraction,
    ) refl)

pub length-elst_payload : (b : ElstBox)
    → length (elst_payload b) ≡ 8 + length (flat_map (elst_entry b.version) b.entries)
unfolding elst_payload
length-elst_payload b = simp (length-then, length-number) (omega arith)

at_least_one : (b : Bool) (n : ℕ) → n ≤ n * cond b 20 12
at_least_one true n = omega arith
at_least_one false n = omega arith

-- a payload has more bytes than entries
pub elst_entries-fit : (b : ElstBox) → length b.entries ≤ length (elst_payload b)
elst_entries-fit b =
    let size = length-elst_payload b
    ∙ ap (λ (n : ℕ). 8 + n) (length-flat_map-same (elst_entry b.version) (elst_entry_length b.version)
    (length-elst_entry b.version) b.entries) in
    omega (arith, size, at_least_one (eqb b.version 1) (length b.entries))

-- edits that are written fit their version
entries-fit : (version : ℕ) → version_refusal version ≡ None → (entries : List ElstEntry)
    → AllByRecursion IsInRangeElstEntry entries
    → all_refusal (elst_entry_refusal version) entries ≡ None → AllByRecursion (FitsElstEntry version) entries
unfolding elst_entry_refusal
entries-fit version known [] in_range sound = tt
entries-fit version known (e ∷ es) in_range sound =
    let first = or_parts (elst_entry_refusal version e) (all_refusal (elst_entry_refusal version) es) sound in
    let own = or_parts (value_refusal version e.segment_duration) (value_refusal version e.media_time) first.0 in (
      record {
        segment_duration = FitsVersion-written version e.segment_duration known own.0 in_range.0.segment_duration;
        media_time = FitsVersion-written version e.media_time known own.1 in_range.0.media_time;
        media_rate = in_range.0.media_rate;
        media_rate_fraction = in_range.0.media_rate_fraction;
      },
      entries-fit version known es in_range.1 first.1,
    )

pub elst_again : (b : ElstBox) → IsCanonicalElst b → elst_of (elst_payload b) ≡ Ok b
unfolding elst_of elst_payload elst_refusal
elst_again b f =
    let written = is_written (elst_payload b) (elst_refusal b) f.written in
    let sound = or_parts (version_refusal b.version) (all_refusal (elst_entry_refusal b.version) b.entries)
    written.sound in
    let fits = entries-fit b.version sound.0 b.entries f.in_range.entries sound.1 in
    let count : length b.entries < 2 ^ 32 = omega (arith, written.small, elst_entries-fit b) in
    let back : ReadsBack (elst_entry_at b.version) (elst_entry b.version) (FitsElstEntry b.version) =
    record { again = elst_entry_again b.version } in
    rw (
      number_again 1 b.version _ f.in_range.version,
      number_again 3 b.flags _ f.well_formed,
      sound.0,
      number_again 4 (length b.entries) _ count,
      list_last (elst_entry_at b.version) (elst_entry b.version) (FitsElstEntry b.version) back _ b.entries refl fits,
    ) refl
