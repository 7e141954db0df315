-- The groups that were passed over are 0.
use Rattle.std.proofs.Common.{◌≡◌, ◌-◌, ◌≤◌}
use Rattle.std.specs.List.{AllWithin}
use Rattle.mp4_readable.proofs.grouped.first_group.Given as goal

abbrev pub invariant-loop-first : goal.invariant-loop-first
invariant-loop-first l = record {
  within : l.first ≤ 6;
  zeros : AllWithin (λ group. group ≡ 0) l.groups 0 l.first;
}

abbrev pub decreases-loop-first : goal.decreases-loop-first
decreases-loop-first l = 6 - l.first
