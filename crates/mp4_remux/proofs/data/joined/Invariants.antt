use Rattle.std.proofs.Common.{◌≡◌, ℕ, take}
use Rattle.std.specs.List.{All}
use Rattle.std.specs.List.Sorted.{IsNonDecreasingBy}
use Rattle.mp4_remux.specs.declared.data.Extent.{Extent}
use Rattle.mp4_remux.specs.Data.{AreApartFrom, BeginsBy, IsWithin, have_byte}
use Rattle.mp4_remux.proofs.data.joined.Given as goal

-- the extents so far, each byte once
abbrev pub invariant-loop-extent : goal.invariant-loop-extent
invariant-loop-extent l = record {
  bytes : (byte : ℕ) → have_byte byte l.joined.items ≡ have_byte byte (take l.extent-index l.extents);
  within : (len : ℕ) → All (IsWithin len) (take l.extent-index l.extents) → All (IsWithin len) l.joined.items;
  begin : (place : ℕ) → All (BeginsBy place) (take l.extent-index l.extents)
      → All (BeginsBy place) l.joined.items;
  apart : (len : ℕ) → IsNonDecreasingBy (λ (e : Extent). e.place) l.extents
      → All (IsWithin len) (take l.extent-index l.extents) → AreApartFrom 0 l.joined.items;
}
