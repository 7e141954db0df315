-- Tests of equality that answer true of one value alone, for each type from those of its parts.
-- A derived `==` is such a test: of a struct `Prim.hlevel field_tests` finds it, field by field.
use Rattle.std.specs.Prelude.{◌≡◌, ℕ, ℤ, Bool, true, false, ◌&&◌, List, [], ◌∷◌, Option, Some, None, nat_eq, refl}
use Rattle.std.specs.Cmp.{unsigned_Decides, signed_Decides, first_so, second_so}
use Rattle.std.specs.Cmp.Lexicographic.{pointwise}
use Rattle.std.specs.Option.{option_eq}
use Rattle.std.specs.Ordering.{int_eq}
use Rattle.std.proofs.Common.{sym, ap, ◌∙◌, inl, inr}
use mathlib.Core.Bool.{beq}
use denote.Struct.Field.{Field}
use denote.Struct.Values.{Values}
use denote.Enum.Declared.{Record, Choice, values_one}
use denote.Enum.Compared.{Each, by}

pub record ExactTest (K : Type 0) : Type 0 where
  pub test : K → K → Bool
  pub exact : (x y : K) → test x y ≡ true → x ≡ y

-- what the law of `ExactEq` says, by a test that computes as `==` does
pub by_test : {K : Type 0} (t : ExactTest K) (x y : K) → t.test x y ≡ true → x ≡ y
by_test t = t.exact

-- the test of a type of which the law is known
abbrev pub by_law : {K : Type 0} {E : K → K → Bool} → ((x y : K) → E x y ≡ true → x ≡ y) → ExactTest K
by_law {K} {E} law = record { test = E; exact = law }

-- OF THE TYPES THAT ARE BUILT IN

abbrev pub number : ExactTest ℕ
number = record { test = nat_eq; exact = λ x y. (unsigned_Decides x y).0 }

abbrev pub signed : ExactTest ℤ
signed = record { test = int_eq; exact = λ x y. (signed_Decides x y).0 }

pub exact_flag : (x y : Bool) → beq x y ≡ true → x ≡ y
exact_flag true true h = refl
exact_flag true false h = cc
exact_flag false true h = cc
exact_flag false false h = refl

abbrev pub flag : ExactTest Bool
flag = record { test = beq; exact = exact_flag }

pub exact_list : {K : Type 0} (t : ExactTest K) (xs ys : List K) → pointwise t.test xs ys ≡ true → xs ≡ ys
exact_list t [] [] h = refl
exact_list t [] (y ∷ ys) h = cc
exact_list t (x ∷ xs) [] h = cc
exact_list t (x ∷ xs) (y ∷ ys) h =
    let first : x ≡ y = t.exact x y (first_so (t.test x y) (pointwise t.test xs ys) h) in
    let others : xs ≡ ys = exact_list t xs ys (second_so (t.test x y) (pointwise t.test xs ys) h) in
    λ i. first i ∷ others i

abbrev pub list : {K : Type 0} → ExactTest K → ExactTest (List K)
list t = record { test = pointwise t.test; exact = exact_list t }

pub exact_option : {K : Type 0} (t : ExactTest K) (x y : Option K) → option_eq t.test x y ≡ true → x ≡ y
exact_option t None None h = refl
exact_option t None (Some y) h = cc
exact_option t (Some x) None h = cc
exact_option t (Some x) (Some y) h = ap Some (t.exact x y h)

abbrev pub option : {K : Type 0} → ExactTest K → ExactTest (Option K)
option t = record { test = option_eq t.test; exact = exact_option t }

pub exact_pair : {A B : Type 0} (s : ExactTest A) (t : ExactTest B) (x y : A × B)
    → (s.test x.0 y.0 && t.test x.1 y.1) ≡ true → x ≡ y
exact_pair s t x y h =
    let first : x.0 ≡ y.0 = s.exact x.0 y.0 (first_so (s.test x.0 y.0) (t.test x.1 y.1) h) in
    let second : x.1 ≡ y.1 = t.exact x.1 y.1 (second_so (s.test x.0 y.0) (t.test x.1 y.1) h) in
    λ i. (first i, second i)

abbrev pub pair : {A B : Type 0} → ExactTest A → ExactTest B → ExactTest (A × B)
pair s t = record { test = λ x y. s.test x.0 y.0 && t.test x.1 y.1; exact = exact_pair s t }

-- OF STRUCTS: BY THE TUPLE OF THE FIELDS

pub exact_by : {A B : Type 0} (to : A → B) (from : B → A) → ((x : A) → from (to x) ≡ x) → (t : ExactTest B) (x y : A)
    → t.test (to x) (to y) ≡ true → x ≡ y
exact_by to from back t x y h = sym (back x) ∙ ap from (t.exact (to x) (to y) h) ∙ back y

abbrev pub by_tuple : {A B : Type 0} (to : A → B) (from : B → A) → ((x : A) → from (to x) ≡ x) → ExactTest B
    → ExactTest A
by_tuple to from back t = record { test = λ x y. t.test (to x) (to y); exact = exact_by to from back t }

-- OF ENUMS: A TEST OF EACH FIELD OF EACH VARIANT THAT HAS FIELDS

abbrev pub FieldTests : List Field → Type 0
FieldTests [] = Unit {0}
FieldTests (F ∷ Fs) = ExactTest F.Value × FieldTests Fs

abbrev pub all_answer : (Fs : List Field) → FieldTests Fs → Values Fs → Values Fs → Bool
all_answer [] tests xs ys = true
all_answer (F ∷ []) tests xs ys = tests.0.test xs.0 ys.0
all_answer (F ∷ G ∷ Fs) tests xs ys = tests.0.test xs.0 ys.0 && all_answer (G ∷ Fs) tests.1 xs.1 ys.1

exact_fields : (Fs : List Field) (tests : FieldTests Fs) (xs ys : Values Fs) → all_answer Fs tests xs ys ≡ true
    → xs ≡ ys
exact_fields [] tests xs ys h = refl
exact_fields (F ∷ []) tests xs ys h = λ i. (tests.0.exact xs.0 ys.0 h i, tt)
exact_fields (F ∷ G ∷ Fs) tests xs ys h =
    let first : xs.0 ≡ ys.0 =
    tests.0.exact xs.0 ys.0 (first_so (tests.0.test xs.0 ys.0) (all_answer (G ∷ Fs) tests.1 xs.1 ys.1) h) in
    let others : xs.1 ≡ ys.1 =
    exact_fields (G ∷ Fs) tests.1 xs.1 ys.1
    (second_so (tests.0.test xs.0 ys.0) (all_answer (G ∷ Fs) tests.1 xs.1 ys.1) h) in
    λ i. (first i, others i)

abbrev pub VariantTests : List (List Field) → Type 0
VariantTests [] = Unit {0}
VariantTests ([] ∷ Fss) = VariantTests Fss
VariantTests ((F ∷ Fs) ∷ Fss) = FieldTests (F ∷ Fs) × VariantTests Fss

abbrev pub each_answers : (Fss : List (List Field)) → VariantTests Fss → Each Bool Fss
each_answers [] tests = tt
each_answers ([] ∷ Fss) tests = (λ xs ys. true, each_answers Fss tests)
each_answers ((F ∷ Fs) ∷ Fss) tests = (all_answer (F ∷ Fs) tests.0, each_answers Fss tests.1)

exact_choice : (Fss : List (List Field)) (tests : VariantTests Fss) (c d : Choice Fss)
    → by false false Fss (each_answers Fss tests) c d ≡ true → c ≡ d
exact_choice [] tests c d h = absurd c
exact_choice ([] ∷ Fss) tests (inl x) (inl y) h = refl
exact_choice ([] ∷ Fss) tests (inl x) (inr d) h = cc
exact_choice ([] ∷ Fss) tests (inr c) (inl y) h = cc
exact_choice ([] ∷ Fss) tests (inr c) (inr d) h = ap inr (exact_choice Fss tests c d h)
exact_choice ((F ∷ Fs) ∷ Fss) tests (inl x) (inl y) h = ap inl (exact_fields (F ∷ Fs) tests.0 x y h)
exact_choice ((F ∷ Fs) ∷ Fss) tests (inl x) (inr d) h = cc
exact_choice ((F ∷ Fs) ∷ Fss) tests (inr c) (inl y) h = cc
exact_choice ((F ∷ Fs) ∷ Fss) tests (inr c) (inr d) h = ap inr (exact_choice Fss tests.1 c d h)

pub exact_enum : (N : Record) (tests : VariantTests N.parts) (x y : N.D)
    → by false false N.parts (each_answers N.parts tests) (N.as_values x) (N.as_values y) ≡ true → x ≡ y
exact_enum N tests x y h = values_one N x y (exact_choice N.parts tests (N.as_values x) (N.as_values y) h)

-- the tests by which that of a type is found
pub ruleset field_tests = (number, signed, flag, list, option, pair, by_tuple)
