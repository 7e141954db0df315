-- Values that are in blocks of bytes, one block for each.
use Rattle.std.proofs.Common.{◌≡◌, ℕ, zero, suc, ◌+◌, ◌*◌, ◌≤◌, Bool, true, false, cond, ltb, List, length, take, drop}
use Rattle.std.proofs.Common.{Result, Ok, Err, refl, sym, ap, ◌∙◌, arith, suc-mul}
use Rattle.std.specs.Prelude.{nat_lt, if◌then◌else◌}
use Rattle.std.specs.Int.{w32, cast_signed}
use Rattle.std.proofs.lemmas.Bool.{le-ltb, ltb-false}
use Rattle.std.proofs.lemmas.List.{length-drop}
pub use Rattle.byteorder.specs.Endian.{big_number}
use Rattle.mp4_codec.specs.Cause.{Cause, invalid_data, ◌>>=◌}
use Rattle.mp4_codec.specs.Steps.{ok_is}
use Rattle.mp4_codec.specs.Bytes.{Reader, number_at, int32_at, four_cc_at, coded, list_at, HasLength}

-- the value of the next n bytes, whatever they are
unfoldable pub block_at : {A : Type 0} → ℕ → (List ℕ → A) → Reader A
block_at n value bytes = if nat_lt (length bytes) n then Err invalid_data else Ok (value (take n bytes), drop n bytes)

-- a field is such a value
pub record IsBlock {A : Type 0} (read : Reader A) (n : ℕ) (value : List ℕ → A) : Type 0 where
  pub is : (bytes : List ℕ) → read bytes ≡ block_at n value bytes

pub block-is_block : {A : Type 0} (n : ℕ) (value : List ℕ → A) → IsBlock (block_at n value) n value
block-is_block n value = record { is = λ bytes. refl }

pub number-is_block : (n : ℕ) → IsBlock (number_at n) n (big_number n)
unfolding number_at block_at
number-is_block n = record { is = λ bytes. refl }

-- a field of a block, seen as another value
seen-is_block : {A B : Type 0} (n : ℕ) (value : List ℕ → A) (see : A → B) (bytes : List ℕ)
    → ◌>>=◌ {B = B × List ℕ} (block_at n value bytes) (λ x. Ok (see x.0, x.1))
    ≡ block_at n (λ block. see (value block)) bytes
unfolding block_at
seen-is_block {A} {B} n value see bytes = chosen (ltb (length bytes) n)
  where
    chosen : (b : Bool)
        → ◌>>=◌ {B = B × List ℕ}
        (cond {A = Result (A × List ℕ) Cause} b (Err invalid_data) (Ok (value (take n bytes), drop n bytes)))
        (λ x. Ok (see x.0, x.1))
        ≡ cond {A = Result (B × List ℕ) Cause} b (Err invalid_data) (Ok (see (value (take n bytes)), drop n bytes))
    chosen true = refl
    chosen false = refl

pub int32-is_block : IsBlock int32_at 4 (λ block. cast_signed w32 (big_number 4 block))
unfolding int32_at
int32-is_block = record {
  is = λ bytes. rw ((number-is_block 4).is bytes) (seen-is_block 4 (big_number 4) (cast_signed w32) bytes);
}

pub four_cc-is_block : IsBlock four_cc_at 4 (λ block. coded (big_number 4 block))
unfolding four_cc_at
four_cc-is_block = record {
  is = λ bytes. rw ((number-is_block 4).is bytes) (seen-is_block 4 (big_number 4) coded bytes);
}

module _ {A : Type 0} (read : Reader A) (n : ℕ) (value : List ℕ → A) (h : IsBlock read n value) where
  -- where there are enough bytes, it is read from the first n of them
  pub is_block-reads : (bytes : List ℕ) → n ≤ length bytes → read bytes ≡ Ok (value (take n bytes), drop n bytes)
  unfolding block_at
  is_block-reads bytes enough = rw (h.is bytes, le-ltb _ _ enough) refl

  moves : (bytes : List ℕ) (x : A) (rest : List ℕ) → block_at n value bytes ≡ Ok (x, rest)
      → length bytes ≡ n + length rest
  unfolding block_at
  moves bytes x rest e = chosen (ltb (length bytes) n) (ltb-false (length bytes) n) e
    where
      chosen : (b : Bool) → (b ≡ false → n ≤ length bytes)
          → cond {A = Result (A × List ℕ) Cause} b (Err invalid_data) (Ok (value (take n bytes), drop n bytes))
          ≡ Ok (x, rest) → length bytes ≡ n + length rest
      chosen true enough e = absurd cc
      chosen false enough e =
          let whole : n ≤ length bytes = enough refl in
          let rest_is : drop n bytes ≡ rest =
          ap (λ (y : A × List ℕ). y.1) (ok_is (value (take n bytes), drop n bytes) (x, rest) e) in
          rw (← rest_is) (omega (arith, length-drop n bytes))

  refuses : (bytes : List ℕ) (c : Cause) → block_at n value bytes ≡ Err c → c ≡ invalid_data
  unfolding block_at
  refuses bytes c e = chosen (ltb (length bytes) n) e
    where
      chosen : (b : Bool)
          → cond {A = Result (A × List ℕ) Cause} b (Err invalid_data) (Ok (value (take n bytes), drop n bytes))
          ≡ Err c → c ≡ invalid_data
      chosen true e = cc
      chosen false e = absurd cc

  pub is_block-has_length : HasLength read n
  is_block-has_length = record {
    moves = λ bytes x rest e. moves bytes x rest (sym (h.is bytes) ∙ e);
    refuses = λ bytes c e. refuses bytes c (sym (h.is bytes) ∙ e);
    enough = λ bytes whole. ((value (take n bytes), drop n bytes), is_block-reads bytes whole);
  }

  -- where all blocks are there, the fields that are read one after the other are the values of the blocks
  pub list_at-blocks : (count : ℕ) (bytes : List ℕ) → count * n ≤ length bytes
      → list_at read count bytes ≡ list_at (block_at n value) count bytes
  unfolding list_at
  list_at-blocks zero bytes enough = refl
  list_at-blocks (suc count) bytes enough =
      let here : n ≤ length bytes = omega (arith, suc-mul count n) in
      let more : count * n ≤ length (drop n bytes) = omega (arith, suc-mul count n, length-drop n bytes) in
      rw (← h.is bytes, is_block-reads bytes here, list_at-blocks count (drop n bytes) more) refl
