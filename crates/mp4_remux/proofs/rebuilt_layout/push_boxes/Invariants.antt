use Rattle.std.proofs.Common.{◌≡◌, ◌+◌, ◌-◌, ◌<◌, ◌≤◌, ◌^◌, ◌++◌, ℕ, List, take}
use Rattle.std.specs.Prelude.{map}
use Rattle.std.specs.List.{All, filter, sum_by}
use Rattle.mp4_remux.specs.declared.top_level.TopBox.{TopBox}
use Rattle.mp4_remux.specs.Splice.{Follow, has_bytes, kept_stretch, spliced, stretch_of}
use Rattle.mp4_remux.proofs.rebuilt_layout.push_boxes.Given as goal

-- the bytes before stay, and those of the boxes so far come after them
abbrev pub invariant-loop-i : goal.invariant-loop-i
invariant-loop-i l = record {
  more : (source made : List ℕ) → (more : List ℕ)
      × (spliced source made l.pieces.items ≡ spliced source made l.fn.pieces.items ++ more);
  stretches : map stretch_of l.pieces.items ≡ map stretch_of l.fn.pieces.items
      ++ filter has_bytes (map (λ (b : TopBox). kept_stretch b.place b.end) (take l.i l.boxes));
  follow : (source_len made_len before : ℕ) → All (λ (b : TopBox). b.end ≤ source_len) l.boxes
      → before + sum_by (λ (b : TopBox). b.end - b.place) l.boxes < 2 ^ 64
      → Follow source_len made_len 0 l.fn.pieces.items before
      → Follow source_len made_len 0 l.pieces.items
      (before + sum_by (λ (b : TopBox). b.end - b.place) (take l.i l.boxes));
}
