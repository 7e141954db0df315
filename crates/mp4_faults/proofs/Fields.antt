-- Fields that are within a payload.
use Rattle.std.proofs.Common.{◌≡◌, ◌≤◌, ℕ, ◌+◌, List, Ok, ap, length, take, drop, arith}
use Rattle.std.proofs.lemmas.Bool.{le-ltb}
use Rattle.std.proofs.lemmas.List.{length-drop, drop-drop}
use Rattle.byteorder.specs.Endian.{big_number}
use Rattle.mp4_codec.specs.Bytes.{number_at, bytes_at}

module _ (payload : List ℕ) (k n : ℕ) (inside : k + n ≤ length payload) where
  pub number-there : number_at n (drop k payload)
      ≡ Ok (big_number n (take n (drop k payload)), drop (k + n) payload)
  unfolding number_at
  number-there =
      let left = length-drop k payload in
      rw (le-ltb (length (drop k payload)) n (omega (arith, left, inside)))
      (ap (λ (rest : List ℕ). Ok (big_number n (take n (drop k payload)), rest)) (drop-drop n k payload))

  pub bytes-there : bytes_at n (drop k payload) ≡ Ok (take n (drop k payload), drop (k + n) payload)
  unfolding bytes_at
  bytes-there =
      let left = length-drop k payload in
      rw (le-ltb (length (drop k payload)) n (omega (arith, left, inside)))
      (ap (λ (rest : List ℕ). Ok (take n (drop k payload), rest)) (drop-drop n k payload))
