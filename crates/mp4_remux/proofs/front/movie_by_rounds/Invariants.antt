use Rattle.std.proofs.Common.{◌-◌, ◌*◌, ◌≡◌, ◌≤◌, length}
use Rattle.mp4_remux.specs.Moved.{IsOfOffsets}
use Rattle.mp4_remux.proofs.Planning.{IsLeast}
use Rattle.mp4_remux.proofs.front.movie_by_rounds.Given as goal

-- nothing but offsets is other; no movie box that is made with the length that is reckoned with has fewer bytes
abbrev pub invariant-loop-edit : goal.invariant-loop-edit
invariant-loop-edit l = record {
  bytes : l.movie_bytes ≡ l.fn.movie_bytes;
  file_type : l.file_type ≡ l.fn.file_type;
  movie : l.movie ≡ l.fn.movie;
  of_offsets : IsOfOffsets l.edit;
  least : IsLeast l.fn.file_type l.fn.movie l.fn.movie_bytes l.movie_len;
  most : l.movie_len ≤ 2 * length l.fn.movie_bytes;
}

abbrev pub decreases-loop-edit : goal.decreases-loop-edit
decreases-loop-edit l = 2 * length l.fn.movie_bytes - l.movie_len
