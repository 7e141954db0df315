-- What a source of bytes answers.
use Rattle.std.specs.Prelude.{◌≡◌, ℕ, ◌+◌, ◌≤◌, ◌<◌, Bool, IsTrue, List, length, take, drop, Option, IfSome, ⊤}
use Rattle.std.specs.Borrow.{Fml, RattleType, MutBor}
use Rattle.std.specs.Io.BufRead.{Rests}
use Rattle.mp4_source.specs.declared.error.SourceError.{SourceError}
use Rattle.mp4_source.specs.declared.error.SourceError.TheVariants.{OutOfMemory, Io}

-- where the bytes are known, these are the n of them from the place on
abbrev pub IsPartOf : Option (List ℕ) → ℕ → ℕ → List ℕ → Type 0
IsPartOf known place n part = IfSome known (λ xs. (place + n ≤ length xs) × (part ≡ take n (drop place xs)))

-- where the bytes are known, n of them follow the place
abbrev pub HasPart : Option (List ℕ) → ℕ → ℕ → Type 0
HasPart known place n = IfSome known (λ xs. place + n ≤ length xs)

-- where the bytes are known, there are some
abbrev pub IsNotEmpty : Option (List ℕ) → Type 0
IsNotEmpty known = IfSome known (λ xs. 0 < length xs)

-- where the bytes are known and have n from the place on, only a source that can refuse fails to read them
abbrev pub IsRefusal : Option (List ℕ) → ℕ → ℕ → Bool → Type 0
IsRefusal known place n can_refuse = IfSome known (λ xs. place + n ≤ length xs → IsTrue can_refuse)

-- once the borrow of the source ends, it has the bytes that it had, and can refuse only if it could
abbrev pub RestsAsBefore : (R : RattleType) → (R.Denot → Option (List ℕ)) → (R.Denot → Bool)
    → MutBor R.Denot → Fml
RestsAsBefore R contents can_refuse s =
    Rests R s (λ new. (contents new ≡ contents s.now) × (can_refuse new ≡ can_refuse s.now))

-- a fact where the source failed
abbrev pub OnIo : SourceError → Type 0 → Type 0
OnIo OutOfMemory P = ⊤
OnIo (Io e) P = P

-- a fact where memory was refused
abbrev pub OnOutOfMemory : SourceError → Type 0 → Type 0
OnOutOfMemory OutOfMemory P = P
OnOutOfMemory (Io e) P = ⊤
