-- Reading fields one after the other, as a loop does.
use Rattle.std.proofs.Common.{◌≡◌, ℕ, suc, ◌-◌, ◌+◌, ◌≤◌, ◌<◌, List, [], ◌∷◌, ◌++◌, Result, Ok, Err, refl, sym, ap}
use Rattle.std.proofs.Common.{◌∙◌, append_assoc, arith}
use Rattle.std.proofs.lemmas.List.{append-nil}
use Rattle.mp4_codec.specs.Cause.{Cause, ◌>>=◌}
use Rattle.mp4_codec.specs.Bytes.{Reader, list_at}

-- what was read before, and what is still read
abbrev pub with_front : {A : Type 0} → List A → Result (List A × List ℕ) Cause → Result (List A × List ℕ) Cause
with_front front read = read >>= λ x. Ok (front ++ x.0, x.1)

module _ {A : Type 0} (read : Reader A) where
  regroup : (front : List A) (n : A) (r : Result (List A × List ℕ) Cause)
      → with_front front (r >>= λ x. Ok (n ∷ x.0, x.1)) ≡ with_front (front ++ n ∷ []) r
  regroup front n (Ok x) = ap (λ (ns : List A). Ok (ns, x.1)) (simp append_assoc)
  regroup front n (Err f) = refl

  pub goes_on : (front : List A) (count i : ℕ) (bytes : List ℕ) (n : A) (after : List ℕ)
      (total : Result (List A × List ℕ) Cause) → i < count → read bytes ≡ Ok (n, after)
      → with_front front (list_at read (count - i) bytes) ≡ total
      → with_front (front ++ n ∷ []) (list_at read (count - (i + 1)) after) ≡ total
  unfolding list_at
  goes_on front count i bytes n after total lt h so_far =
      let k : count - i ≡ suc (count - (i + 1)) = omega arith in
      let one : with_front front (list_at read (count - i) bytes)
      ≡ with_front (front ++ n ∷ []) (list_at read (count - (i + 1)) after) =
      rw (k, h) (regroup front n (list_at read (count - (i + 1)) after)) in
      sym one ∙ so_far

  pub ends : (c : Cause) (front : List A) (count i : ℕ) (bytes : List ℕ) (total : Result (List A × List ℕ) Cause)
      → i < count → read bytes ≡ Err c
      → with_front front (list_at read (count - i) bytes) ≡ total → total ≡ Err c
  unfolding list_at
  ends c front count i bytes total lt h so_far =
      let k : count - i ≡ suc (count - (i + 1)) = omega arith in
      let one : with_front front (list_at read (count - i) bytes) ≡ Err c = rw (k, h) refl in
      sym so_far ∙ one

  pub is_done : (front : List A) (count i : ℕ) (bytes : List ℕ) (total : Result (List A × List ℕ) Cause) → count ≤ i
      → with_front front (list_at read (count - i) bytes) ≡ total → total ≡ Ok (front, bytes)
  unfolding list_at
  is_done front count i bytes total le so_far =
      let k : count - i ≡ 0 = omega arith in
      let one : with_front front (list_at read (count - i) bytes) ≡ Ok (front, bytes) =
      rw k (ap (λ (ns : List A). Ok (ns, bytes)) (append-nil front)) in
      sym so_far ∙ one
