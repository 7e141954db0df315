-- Rows are read as they were written.
use Rattle.std.proofs.Common.{◌≡◌, ℕ, zero, suc, ◌+◌, ◌-◌, ◌*◌, ◌^◌, ◌<◌, ◌≤◌, Bool, true, false, cond, eqb, List, []}
use Rattle.std.proofs.Common.{◌∷◌, ◌++◌, length, take, slice_get, replicate, Option, Some, None, Ok, Err, refl}
use Rattle.std.proofs.Common.{sym, ap, subst, ◌∙◌, arith}
use Rattle.std.specs.Prelude.{IfSome}
use Rattle.std.specs.List.{filter_map, cons_option, flat_map, AllByRecursion}
use Rattle.std.specs.Option.{option_len}
use Rattle.std.proofs.lemmas.Bool.{eqb-true}
use Rattle.std.proofs.lemmas.List.{append-nil, take_all, length-append, length_push}
use Rattle.std.proofs.lemmas.List.Elements.{filter_map-append}
use Rattle.std.proofs.lemmas.Grind.{flat_map-append}
use Rattle.std.proofs.lemmas.Option.{slice_get_past, slice_get-get_or}
use Rattle.mp4_codec.specs.Cause.{Cause, invalid_data, ◌>>=◌}
use Rattle.mp4_codec.specs.Bytes.{Reader, number_at, number, list_at, count_cause, ◌⧺◌, HasLength, ReadsBack}
use Rattle.mp4_codec.specs.FieldLaws.{length-number, length-then, then_assoc, list_last}
use Rattle.mp4_codec.specs.FieldLaws.{number-has_length, seen-has_length, then-has_length, count_cause-refused}
use Rattle.mp4_codec.specs.FieldLaws.{count_cause-enough}
use Rattle.mp4_moof.specs.Optional.{is_set, optional_at, optional_field, flag_refusal}
use Rattle.mp4_moof.specs.OptionalLaws.{length-optional_field, optional_again, optional-has_length, number_back}
use Rattle.mp4_moof.specs.declared.rows.Row.{Row}
use Rattle.mp4_moof.specs.declared.rows.Columns.{Columns}
use Rattle.mp4_moof.specs.Rows.{row_at, row, field_length, row_length, no_columns, columns_at, row_of, rows}
use Rattle.mp4_moof.specs.Rows.{longest, listed, column_refusal, with_rows}

-- LENGTHS

length-row : (r : Row) → length (row r)
    ≡ 4 * option_len r.duration + 4 * option_len r.size + 4 * option_len r.flags + 4 * option_len r.cts
unfolding row
length-row r =
    simp (length-then, length-optional_field (number 4) 4 (length-number 4)) (omega arith)

take-one_more : (xs : List ℕ) (n : ℕ) → take (suc n) xs ≡ take n xs ++ cons_option (slice_get xs n) []
take-one_more [] zero = refl
take-one_more [] (suc n) = refl
take-one_more (x ∷ xs) zero = refl
take-one_more (x ∷ xs) (suc n) = ap (λ (ys : List ℕ). x ∷ ys) (take-one_more xs n)

length-one : (o : Option ℕ) → length (cons_option o []) ≡ option_len o
length-one None = refl
length-one (Some x) = refl

length-one_more : (xs : List ℕ) (n : ℕ) → length (take (suc n) xs) ≡ length (take n xs) + option_len (slice_get xs n)
length-one_more xs n =
    rw (take-one_more xs n, length-append (take n xs) (cons_option (slice_get xs n) []), length-one (slice_get xs n))
    refl

-- the bytes of one row more
pub rows-more : (c : Columns) (n : ℕ) → flat_map row (rows c (suc n)) ≡ flat_map row (rows c n) ⧺ row (row_of c n)
unfolding rows ◌⧺◌
rows-more c n =
    flat_map-append row (rows c n) (row_of c n ∷ [])
    ∙ ap (λ (ys : List ℕ). flat_map row (rows c n) ++ ys) (append-nil (row (row_of c n)))

length-none : (c : Columns) → length (flat_map row (rows c 0)) ≡ 0
unfolding rows
length-none c = refl

length-taken : (c : Columns) (n : ℕ) → length (flat_map row (rows c n))
    ≡ 4 * (length (take n c.durations) + length (take n c.sizes) + length (take n c.flags) + length (take n c.cts))
length-taken c zero = length-none c
length-taken c (suc n) =
    rw (rows-more c n, length-then (flat_map row (rows c n)) (row (row_of c n)))
    (omega (
      arith,
      length-taken c n,
      length-row (row_of c n),
      length-one_more c.durations n,
      length-one_more c.sizes n,
      length-one_more c.flags n,
      length-one_more c.cts n,
    ))

-- rows that are written have four bytes for each number of each column
pub length-rows : (c : Columns) → length (flat_map row (rows c (longest c)))
    ≡ 4 * (length c.durations + length c.sizes + length c.flags + length c.cts)
length-rows c =
    length-taken c (longest c)
    ∙ rw (
      take_all (longest c) c.durations (omega arith),
      take_all (longest c) c.sizes (omega arith),
      take_all (longest c) c.flags (omega arith),
      take_all (longest c) c.cts (omega arith),
    ) refl

abbrev cts_at : ℕ → Option ℕ → Option ℕ → Option ℕ → Reader Row
cts_at flags duration size sample_flags bytes = do
  cts ← optional_at (number_at 4) 0x800 flags bytes
  Ok (record { duration = duration; size = size; flags = sample_flags; cts = cts.0 }, cts.1)

abbrev flags_at : ℕ → Option ℕ → Option ℕ → Reader Row
flags_at flags duration size bytes =
    optional_at (number_at 4) 0x400 flags bytes >>= λ x. cts_at flags duration size x.0 x.1

abbrev size_at : ℕ → Option ℕ → Reader Row
size_at flags duration bytes = optional_at (number_at 4) 0x200 flags bytes >>= λ x. flags_at flags duration x.0 x.1

pub row-has_length : (flags : ℕ) → HasLength (row_at flags) (row_length flags)
unfolding row_at row_length
row-has_length flags = subst (λ (n : ℕ). HasLength (row_at flags) n) grouped whole
  where
    one : (flag : ℕ) → HasLength (optional_at (number_at 4) flag flags) (field_length flag flags)
    one flag = optional-has_length (number_at 4) 4 flag flags (number-has_length 4)

    with_cts : (duration size sample_flags : Option ℕ)
        → HasLength (cts_at flags duration size sample_flags) (field_length 0x800 flags)
    with_cts duration size sample_flags = seen-has_length (optional_at (number_at 4) 0x800 flags) _
        (λ cts. record { duration = duration; size = size; flags = sample_flags; cts = cts }) (one 0x800)

    with_flags : (duration size : Option ℕ)
        → HasLength (flags_at flags duration size) (field_length 0x400 flags + field_length 0x800 flags)
    with_flags duration size =
        then-has_length (optional_at (number_at 4) 0x400 flags) (cts_at flags duration size) _ _ (one 0x400)
        (with_cts duration size)

    with_size : (duration : Option ℕ)
        → HasLength (size_at flags duration)
        (field_length 0x200 flags + (field_length 0x400 flags + field_length 0x800 flags))
    with_size duration =
        then-has_length (optional_at (number_at 4) 0x200 flags) (flags_at flags duration) _ _ (one 0x200)
        (with_flags duration)

    whole : HasLength (row_at flags)
        (field_length 0x100 flags
        + (field_length 0x200 flags + (field_length 0x400 flags + field_length 0x800 flags)))
    whole = then-has_length (optional_at (number_at 4) 0x100 flags) (size_at flags) _ _ (one 0x100) with_size

    grouped : field_length 0x100 flags
        + (field_length 0x200 flags + (field_length 0x400 flags + field_length 0x800 flags))
        ≡ field_length 0x100 flags + field_length 0x200 flags + field_length 0x400 flags + field_length 0x800 flags
    grouped = omega arith

-- rows that pass the end are refused
pub columns-short : (flags count : ℕ) (bytes : List ℕ) (c : Cause)
    → count_cause count (row_length flags) bytes ≡ Some c → columns_at flags count bytes ≡ Err c
unfolding columns_at
columns-short flags count bytes c e =
    rw (count_cause-refused (row_at flags) (row_length flags) (row-has_length flags) count bytes c e) refl

-- rows that don't pass the end are read
pub columns-enough : (flags count : ℕ) (bytes : List ℕ) → count_cause count (row_length flags) bytes ≡ None
    → (x : Columns × List ℕ) × (columns_at flags count bytes ≡ Ok x)
unfolding columns_at
columns-enough flags count bytes e =
    let read = count_cause-enough (row_at flags) (row_length flags) (row-has_length flags) count bytes e in
    ((with_rows no_columns read.0.0, read.0.1), rw read.1 refl)

-- ROWS OF NOTHING

abbrev nothing : Row
nothing = record { duration = None; size = None; flags = None; cts = None }

no_field : (b : Bool) → cond {A = ℕ} b 4 0 ≡ 0 → b ≡ false
no_field true e = absurd cc
no_field false e = refl

-- without any of the four flags a row takes no bytes
nothing_at : (flags : ℕ) (bytes : List ℕ) → row_length flags ≡ 0 → row_at flags bytes ≡ Ok (nothing, bytes)
unfolding row_at row_length optional_at
nothing_at flags bytes e =
    let durations = no_field (is_set flags 0x100) (omega (arith, e)) in
    let sizes = no_field (is_set flags 0x200) (omega (arith, e)) in
    let sample_flags = no_field (is_set flags 0x400) (omega (arith, e)) in
    let cts = no_field (is_set flags 0x800) (omega (arith, e)) in
    rw (durations, sizes, sample_flags, cts) refl

no_rows : (flags count : ℕ) (bytes : List ℕ) → row_length flags ≡ 0
    → list_at (row_at flags) count bytes ≡ Ok (replicate count nothing, bytes)
unfolding list_at
no_rows flags zero bytes e = refl
no_rows flags (suc n) bytes e = rw (nothing_at flags bytes e, no_rows flags n bytes e) refl

no_numbers : (get : Row → Option ℕ) → get nothing ≡ None → (n : ℕ) → filter_map get (replicate n nothing) ≡ []
no_numbers get e zero = refl
no_numbers get e (suc n) = rw (e, no_numbers get e n) refl

pub columns-nothing : (flags count : ℕ) (bytes : List ℕ) → row_length flags ≡ 0
    → columns_at flags count bytes ≡ Ok (no_columns, bytes)
unfolding columns_at
columns-nothing flags count bytes e =
    rw (
      no_rows flags count bytes e,
      no_numbers (λ (r : Row). r.duration) refl count,
      no_numbers (λ (r : Row). r.size) refl count,
      no_numbers (λ (r : Row). r.flags) refl count,
      no_numbers (λ (r : Row). r.cts) refl count,
    ) refl

-- READING BACK

-- the numbers of a column are those of its rows
taken : (get : Row → Option ℕ) (c : Columns) (xs : List ℕ) → ((k : ℕ) → get (row_of c k) ≡ slice_get xs k) → (n : ℕ)
    → filter_map get (rows c n) ≡ take n xs
unfolding rows
taken get c xs same zero = refl
taken get c xs same (suc n) =
    filter_map-append get (rows c n) (row_of c n ∷ [])
    ∙ rw (taken get c xs same n, same n) (sym (take-one_more xs n))

length-of_rows : (c : Columns) (n : ℕ) → length (rows c n) ≡ n
unfolding rows
length-of_rows c zero = refl
length-of_rows c (suc n) = omega (arith, length_push (rows c n) (row_of c n), length-of_rows c n)

-- rows past the longest column have no bytes
nothing_past : (c : Columns) (k : ℕ) → longest c ≤ k → row (row_of c k) ≡ []
unfolding row optional_field ◌⧺◌
nothing_past c k h =
    rw (
      slice_get_past c.durations k (omega arith),
      slice_get_past c.sizes k (omega arith),
      slice_get_past c.flags k (omega arith),
      slice_get_past c.cts k (omega arith),
    ) refl

rows_past : (c : Columns) (n m : ℕ) → longest c ≤ n → flat_map row (rows c (n + m)) ≡ flat_map row (rows c n)
unfolding ◌⧺◌
rows_past c n zero h = let k : n + 0 ≡ n = omega arith in rw k refl
rows_past c n (suc m) h =
    let k : n + suc m ≡ suc (n + m) = omega arith in
    rw (k, rows-more c (n + m), nothing_past c (n + m) (omega arith), append-nil (flat_map row (rows c (n + m))))
    (rows_past c n m h)

-- each number of a row is there just where its flag is set, and within its type
record FitsRow (flags : ℕ) (r : Row) : Type 0 where
  duration : flag_refusal 0x100 flags r.duration ≡ None
  size : flag_refusal 0x200 flags r.size ≡ None
  sample_flags : flag_refusal 0x400 flags r.flags ≡ None
  cts : flag_refusal 0x800 flags r.cts ≡ None
  duration_range : IfSome r.duration (λ n. n < 2 ^ 32)
  size_range : IfSome r.size (λ n. n < 2 ^ 32)
  sample_flags_range : IfSome r.flags (λ n. n < 2 ^ 32)
  cts_range : IfSome r.cts (λ n. n < 2 ^ 32)

row_again : (flags : ℕ) (r : Row) (rest : List ℕ) → FitsRow flags r → row_at flags (row r ⧺ rest) ≡ Ok (r, rest)
unfolding row_at row
row_again flags r rest f =
    let again = optional_again (number_at 4) (number 4) (λ x. x < 256 ^ 4) (number_back 4) in
    simp then_assoc (rw (
      again 0x100 flags r.duration _ f.duration f.duration_range,
      again 0x200 flags r.size _ f.size f.size_range,
      again 0x400 flags r.flags _ f.sample_flags f.sample_flags_range,
      again 0x800 flags r.cts _ f.cts f.cts_range,
    ) refl)

-- each column has as many numbers as its flag asks for, each within its type
pub record FitsColumns (flags count : ℕ) (c : Columns) : Type 0 where
  pub durations : column_refusal 0x100 flags count c.durations ≡ None
  pub sizes : column_refusal 0x200 flags count c.sizes ≡ None
  pub sample_flags : column_refusal 0x400 flags count c.flags ≡ None
  pub cts : column_refusal 0x800 flags count c.cts ≡ None
  pub durations_range : AllByRecursion (λ n. n < 2 ^ 32) c.durations
  pub sizes_range : AllByRecursion (λ n. n < 2 ^ 32) c.sizes
  pub sample_flags_range : AllByRecursion (λ n. n < 2 ^ 32) c.flags
  pub cts_range : AllByRecursion (λ n. n < 2 ^ 32) c.cts

are_listed : (flag flags count : ℕ) (xs : List ℕ) → column_refusal flag flags count xs ≡ None
    → length xs ≡ listed flag flags count
unfolding column_refusal
are_listed flag flags count xs e =
    chosen (eqb (length xs) (listed flag flags count)) (eqb-true _ _) e
  where
    chosen : (t : Bool) → (t ≡ true → length xs ≡ listed flag flags count)
        → cond t None (Some invalid_data) ≡ None → length xs ≡ listed flag flags count
    chosen true h e = h refl
    chosen false h e = absurd cc

at_most : (b : Bool) (n m : ℕ) → n ≡ cond b m 0 → n ≤ m
at_most true n m e = omega arith
at_most false n m e = omega arith

column_fits : (flag flags count : ℕ) (xs : List ℕ) → column_refusal flag flags count xs ≡ None → length xs ≤ count
column_fits flag flags count xs e =
    at_most (is_set flags flag) (length xs) count (are_listed flag flags count xs e)

listed_value_agrees : (flag flags count : ℕ) (xs : List ℕ) → length xs ≡ listed flag flags count → (k : ℕ) → k < count
    → flag_refusal flag flags (slice_get xs k) ≡ None
unfolding flag_refusal
listed_value_agrees flag flags count xs e k lt = chosen (is_set flags flag) refl e
  where
    chosen : (b : Bool) → is_set flags flag ≡ b → length xs ≡ cond b count 0
        → flag_refusal flag flags (slice_get xs k) ≡ None
    chosen true is e = rw (slice_get-get_or xs k 0 (omega arith), is) refl
    chosen false is e = rw (slice_get_past xs k (omega arith), is) refl

listed_value_range : (P : ℕ → Type 0) (xs : List ℕ) → AllByRecursion P xs → (k : ℕ) → IfSome (slice_get xs k) P
listed_value_range P [] h k = tt
listed_value_range P (x ∷ xs) h zero = h.0
listed_value_range P (x ∷ xs) h (suc k) = listed_value_range P xs h.1 k

all_pushed : {A : Type 0} (P : A → Type 0) (xs : List A) (x : A) → AllByRecursion P xs → P x
    → AllByRecursion P (xs ++ x ∷ [])
all_pushed P [] x h p = (p, tt)
all_pushed P (y ∷ ys) x h p = (h.0, all_pushed P ys x h.1 p)

row_fits : (flags count : ℕ) (c : Columns) → FitsColumns flags count c → (k : ℕ) → k < count
    → FitsRow flags (row_of c k)
row_fits flags count c f k lt = record {
  duration = listed_value_agrees 0x100 flags count c.durations
      (are_listed 0x100 flags count c.durations f.durations) k lt;
  size = listed_value_agrees 0x200 flags count c.sizes (are_listed 0x200 flags count c.sizes f.sizes) k lt;
  sample_flags = listed_value_agrees 0x400 flags count c.flags
      (are_listed 0x400 flags count c.flags f.sample_flags) k lt;
  cts = listed_value_agrees 0x800 flags count c.cts (are_listed 0x800 flags count c.cts f.cts) k lt;
  duration_range = listed_value_range (λ n. n < 2 ^ 32) c.durations f.durations_range k;
  size_range = listed_value_range (λ n. n < 2 ^ 32) c.sizes f.sizes_range k;
  sample_flags_range = listed_value_range (λ n. n < 2 ^ 32) c.flags f.sample_flags_range k;
  cts_range = listed_value_range (λ n. n < 2 ^ 32) c.cts f.cts_range k;
}

rows_fit : (flags count : ℕ) (c : Columns) → FitsColumns flags count c → (n : ℕ) → n ≤ count
    → AllByRecursion (FitsRow flags) (rows c n)
unfolding rows
rows_fit flags count c f zero h = tt
rows_fit flags count c f (suc n) h =
    all_pushed (FitsRow flags) (rows c n) (row_of c n) (rows_fit flags count c f n (omega arith))
    (row_fits flags count c f n (omega arith))

-- no column has more numbers than there are samples
columns_fit : (flags count : ℕ) (c : Columns) → FitsColumns flags count c → longest c ≤ count
columns_fit flags count c f =
    let durations = column_fits 0x100 flags count c.durations f.durations in
    let sizes = column_fits 0x200 flags count c.sizes f.sizes in
    let sample_flags = column_fits 0x400 flags count c.flags f.sample_flags in
    let cts = column_fits 0x800 flags count c.cts f.cts in
    omega arith

pub columns_again : (flags count : ℕ) (c : Columns) → FitsColumns flags count c
    → columns_at flags count (flat_map row (rows c (longest c))) ≡ Ok (c, [])
unfolding columns_at
columns_again flags count c f =
    let few = columns_fit flags count c f in
    let whole : count ≡ longest c + (count - longest c) = omega arith in
    let same : flat_map row (rows c count) ≡ flat_map row (rows c (longest c)) =
    ap (λ (n : ℕ). flat_map row (rows c n)) whole ∙ rows_past c (longest c) (count - longest c) (omega arith) in
    let back : ReadsBack (row_at flags) row (FitsRow flags) = record { again = row_again flags } in
    rw (
      ← same,
      list_last (row_at flags) row (FitsRow flags) back count (rows c count) (length-of_rows c count)
          (rows_fit flags count c f count (omega arith)),
      taken (λ (r : Row). r.duration) c c.durations (λ k. refl) count,
      taken (λ (r : Row). r.size) c c.sizes (λ k. refl) count,
      taken (λ (r : Row). r.flags) c c.flags (λ k. refl) count,
      taken (λ (r : Row). r.cts) c c.cts (λ k. refl) count,
      take_all count c.durations (omega arith),
      take_all count c.sizes (omega arith),
      take_all count c.flags (omega arith),
      take_all count c.cts (omega arith),
    ) refl
