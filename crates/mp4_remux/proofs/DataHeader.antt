-- The header of the data.
use Rattle.std.proofs.Common.{◌≡◌, ◌∙◌, ℕ, ◌+◌, ◌-◌, ◌^◌, ◌<◌, ◌≤◌, ◌++◌, min, nat_lt, List, [], false, true}
use Rattle.std.proofs.Common.{refl, ap, arith}
use Rattle.std.proofs.lemmas.Bool.{lt-ltb, le-ltb, ne_eqb}
use Rattle.mp4_codec.specs.BoxType.{code_of}
use Rattle.mp4_codec.specs.Bytes.{Appends, number, ◌⧺◌}
use Rattle.mp4_codec.specs.PutLaws.{◌then◌}
use Rattle.mp4_codec.specs.declared.box_type.BoxType.TheVariants.{MdatBox}
use Rattle.mp4_remux.specs.Data.{data_header}

pub no_header : (header : List ℕ) (len : ℕ) → header ≡ [] → len ≡ 0 → header ≡ data_header len
unfolding data_header
no_header header len none is = rw (none, is) refl

front_none : (old new piece : List ℕ) → old ≡ [] → Appends old new piece → new ≡ piece
front_none old new piece none more = more.is ∙ ap (λ (xs : List ℕ). xs ++ piece) none

pub short_header : {a b c : List ℕ} (len size code : ℕ) → a ≡ [] → Appends a b (number 4 size)
    → Appends b c (number 4 code) → code ≡ code_of MdatBox → size ≡ 8 + len → size < 2 ^ 32 → (len ≡ 0 → ⊥)
    → c ≡ data_header len
unfolding data_header
short_header {a} {b} {c} len size code none one two name is small some =
    let fits : nat_lt (2 ^ 32 - 1) (8 + len) ≡ false = le-ltb (2 ^ 32 - 1) (8 + len) (omega (arith, is, small)) in
    rw (ne_eqb len 0 some, fits)
    (front_none a c (number 4 size ⧺ number 4 code) none (one then two)
    ∙ ap (λ n. number 4 n ⧺ number 4 code) is ∙ ap (λ n. number 4 (8 + len) ⧺ number 4 n) name)

pub long_header : {a b c d : List ℕ} (len code large : ℕ) → a ≡ [] → Appends a b (number 4 1)
    → Appends b c (number 4 code) → Appends c d (number 8 large) → code ≡ code_of MdatBox
    → large ≡ min (2 ^ 64 - 1) (16 + len) → 2 ^ 32 ≤ 8 + len → (len ≡ 0 → ⊥) → d ≡ data_header len
unfolding data_header
long_header {a} {b} {c} {d} len code large none one two three name is past some =
    let passes : nat_lt (2 ^ 32 - 1) (8 + len) ≡ true = lt-ltb (2 ^ 32 - 1) (8 + len) (omega (arith, past)) in
    rw (ne_eqb len 0 some, passes)
    (front_none a d (number 4 1 ⧺ number 4 code ⧺ number 8 large) none (one then two then three)
    ∙ ap (λ n. number 4 1 ⧺ number 4 n ⧺ number 8 large) name
    ∙ ap (λ n. number 4 1 ⧺ number 4 (code_of MdatBox) ⧺ number 8 n) is)
