-- Bytes that are copied block after block.
use Rattle.std.proofs.Common.{◌≡◌, ◌∙◌, ℕ, ◌+◌, ◌≤◌, List, ◌++◌, take, Option, None, Some, IfSome}
use Rattle.std.proofs.Common.{sym, ap, refl, arith, append_assoc, take-add, take_all}
use Rattle.std.proofs.lemmas.List.{append-nil}
use Rattle.mp4_source.specs.Answers.{IsLength}
use Rattle.mp4_source.specs.Sink.{IsAppended}
use Rattle.mp4_source.specs.Source.{IsPartOf}

-- the first bytes of a source that are known are in a sink, after those that it had
abbrev pub AreCopied : Option (List ℕ) → ℕ → Option (List ℕ) → Option (List ℕ) → Type 0
AreCopied known n before after = IfSome known (λ xs. IsAppended before after (take n xs))

-- none are
pub none_copied : (known : Option (List ℕ)) (sink : Option (List ℕ)) → AreCopied known 0 sink sink
none_copied None sink = tt
none_copied (Some xs) None = refl
none_copied (Some xs) (Some ys) = ap Some (sym (append-nil ys))

appended_twice : (before between after : Option (List ℕ)) (xs ys : List ℕ) → IsAppended before between xs
    → IsAppended between after ys → IsAppended before after (xs ++ ys)
appended_twice None between after xs ys one two = by between after one two
  where
    by : (between after : Option (List ℕ)) → between ≡ None → IsAppended between after ys → after ≡ None
    by None after e a = a
    by (Some zs) after e a = absurd cc
appended_twice (Some zs) between after xs ys one two = by between after one two
  where
    by : (between after : Option (List ℕ)) → between ≡ Some (zs ++ xs) → IsAppended between after ys
        → after ≡ Some (zs ++ (xs ++ ys))
    by None after e a = absurd cc
    by (Some us) after e a =
        let same : us ≡ zs ++ xs = cc in
        a ∙ ap (λ (vs : List ℕ). Some (vs ++ ys)) same ∙ ap Some (append_assoc zs xs ys)

-- a block more
pub block_more : (known : Option (List ℕ)) (place n : ℕ) (before between after : Option (List ℕ)) (block : List ℕ)
    → AreCopied known place before between → IsPartOf known place n block → IsAppended between after block
    → AreCopied known (place + n) before after
block_more None place n before between after block copied part more = tt
block_more (Some xs) place n before between after block copied part more =
    rw (take-add place n xs) (rw (sym part.1) (appended_twice before between after (take place xs) block copied more))

-- all of them
pub all_copied : (known : Option (List ℕ)) (place len : ℕ) (before between after : Option (List ℕ))
    → IsLength known len → len ≤ place → AreCopied known place before between → after ≡ between
    → IfSome known (λ xs. IsAppended before after xs)
all_copied None place len before between after measured le copied kept = tt
all_copied (Some xs) place len before between after measured le copied kept =
    rw kept (rw (take_all place xs (omega (arith, measured, le))) at copied)
