use Rattle.std.proofs.Common.{◌≡◌, ℕ, take}
use Rattle.mp4_faults.specs.Ids.{known_in, has_id}
use Rattle.mp4_faults.proofs.ids.ids_of.Given as goal

abbrev pub invariant-loop-trak : goal.invariant-loop-trak
invariant-loop-trak l = (id : ℕ) → has_id l.ids id ≡ known_in (take l.trak-index l.traks) id
