use Rattle.std.proofs.Common.{◌≡◌, ◌+◌, ◌<◌, ◌≤◌, ◌^◌, ◌++◌, ℕ, List, take}
use Rattle.std.specs.Prelude.{map}
use Rattle.std.specs.List.{All, filter}
use Rattle.mp4_remux.specs.declared.data.Extent.{Extent}
use Rattle.mp4_remux.specs.Data.{data_len}
use Rattle.mp4_remux.specs.Splice.{Follow, has_bytes, kept_stretch, spliced, stretch_of}
use Rattle.mp4_remux.proofs.rebuilt_layout.push_extents.Given as goal

-- the bytes before stay, and those of the extents so far come after them
abbrev pub invariant-loop-i : goal.invariant-loop-i
invariant-loop-i l = record {
  more : (source made : List ℕ) → (more : List ℕ)
      × (spliced source made l.pieces.items ≡ spliced source made l.fn.pieces.items ++ more);
  stretches : map stretch_of l.pieces.items ≡ map stretch_of l.fn.pieces.items
      ++ filter has_bytes (map (λ (e : Extent). kept_stretch e.place e.end) (take l.i l.extents));
  follow : (source_len made_len before : ℕ) → All (λ (e : Extent). e.end ≤ source_len) l.extents
      → before + data_len l.extents < 2 ^ 64
      → Follow source_len made_len 0 l.fn.pieces.items before
      → Follow source_len made_len 0 l.pieces.items (before + data_len (take l.i l.extents));
}
