-- What comes of a movie that is rewritten in memory.
use Rattle.std.proofs.Common.{◌≡◌, ◌++◌, List, [], ℕ, Some, Result, Ok, Err, false, inl, inr}
use Rattle.std.specs.Prelude.{IfErr, IfOk, IsTrue}
use Rattle.mp4_remux.specs.declared.error.RemuxError.{RemuxError}
use Rattle.mp4_remux.specs.declared.error.RemuxError.TheVariants.{Mp4, Read, Write, Twice, SaysPlaces}
use Rattle.mp4_remux.specs.declared.error.RemuxError.TheVariants.{TooManySamples, OtherTracks, Differs}
use Rattle.mp4_remux.specs.declared.error.RemuxError.TheVariants.{SaysOfSamples, StartsElsewhere, SameIds}
use Rattle.mp4_remux.specs.Errors.{IsRefusalOf}
use Rattle.mp4_c.specs.declared.answer.Answer.{Answer}
use Rattle.mp4_c.specs.RemuxedReply.{GaveMade, GaveRefusal, GaveRemuxed}

-- what comes after no bytes is all
pub from_nothing : (P : List ℕ → Type 0) (old new after : List ℕ) → old ≡ [] → Some new ≡ Some (old ++ after) → P after
    → P new
from_nothing P old new after none appended is =
    let same : new ≡ old ++ after = cc in
    rw same (rw none is)

-- what was made is given, or why it wasn't
pub gave : {M : Type 0} (items : M → List ℕ) (IsMovie : List ℕ → Type 0) (IsReason : RemuxError → Type 0)
    (made : Result M RemuxError) (old new : List ℕ) (answer : Answer) → IfOk made (λ m. IsMovie (items m))
    → IfErr made IsReason
    → IfOk made (λ m. GaveMade (items m) old new answer) → IfErr made (λ e. GaveRefusal e old new answer)
    → GaveRemuxed IsMovie IsReason old new answer
gave items IsMovie IsReason (Ok m) old new answer is none given refused = inl (items m, is, given)
gave items IsMovie IsReason (Err e) old new answer is why given refused = inr (e, why, refused)

not_so : IsTrue false → ⊥
not_so same = absurd cc

-- neither a source nor a sink refuses, as neither can
pub neither_refuses : (e : RemuxError) → IsRefusalOf (IsTrue false) (IsTrue false) e → IsRefusalOf ⊥ ⊥ e
neither_refuses (Mp4 e) is = tt
neither_refuses (Read e) is = not_so is
neither_refuses (Write e) is = not_so is
neither_refuses (Twice name) is = tt
neither_refuses (SaysPlaces name place) is = tt
neither_refuses (TooManySamples track) is = tt
neither_refuses (SaysOfSamples name place) is = tt
neither_refuses (StartsElsewhere track number) is = tt
neither_refuses SameIds is = tt
neither_refuses OtherTracks is = tt
neither_refuses (Differs track number) is = tt
