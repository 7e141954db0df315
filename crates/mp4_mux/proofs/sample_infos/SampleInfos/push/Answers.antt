use Rattle.std.proofs.Common.{◌≡◌, arith}
use mir.Val.{to_z, of_z}
use Rattle.std.specs.Int.{w32}
use Rattle.std.proofs.lemmas.Int.{to_z-of_z}
use Rattle.mp4_mux.specs.Columns.{values_of}
use Rattle.mp4_mux.proofs.SampleColumnLaws.{length-infos, infos-push}
use Rattle.mp4_mux.proofs.sample_infos.SampleInfos.push.Goals as goal

pub push-requires : goal.push-requires
push-requires c =
    omega (
      arith,
      rw (← c.self.view_is) at c.requires,
      length-infos (values_of c.self.inside.sizes) (values_of c.self.inside.durations) (values_of c.self.inside.rendering_offsets)
          (values_of c.self.inside.syncs) c.self.invariant,
    )

pub push-requires-2 : goal.push-requires-2
push-requires-2 c =
    omega (
      arith,
      rw (← c.self.view_is) at c.requires,
      length-infos (values_of c.self.inside.sizes) (values_of c.self.inside.durations) (values_of c.self.inside.rendering_offsets)
          (values_of c.self.inside.syncs) c.self.invariant,
      c.self.invariant.durations_count,
    )

pub push-requires-3 : goal.push-requires-3
push-requires-3 c =
    omega (
      arith,
      rw (← c.self.view_is) at c.requires,
      length-infos (values_of c.self.inside.sizes) (values_of c.self.inside.durations) (values_of c.self.inside.rendering_offsets)
          (values_of c.self.inside.syncs) c.self.invariant,
      c.self.invariant.offsets_count,
    )

pub push-requires-4 : goal.push-requires-4
push-requires-4 c =
    omega (
      arith,
      rw (← c.self.view_is) at c.requires,
      length-infos (values_of c.self.inside.sizes) (values_of c.self.inside.durations) (values_of c.self.inside.rendering_offsets)
          (values_of c.self.inside.syncs) c.self.invariant,
      c.self.invariant.syncs_count,
    )

pub returns-clause-ok : goal.returns-clause-ok
returns-clause-ok c =
    let w = c.self.inside in
    let later : to_z w32 (of_z w32 c.args.sample.rendering_offset) ≡ c.args.sample.rendering_offset =
    to_z-of_z w32 c.args.sample.rendering_offset c.in_range.ensures.rendering_offset in
    rw (
      ← c.self.view_is,
      c.in_ok-push.ensures.ok,
      c.in_default.ensures.ok,
      c.in_default-push.ensures.ok,
      later,
      c.in_default-push-2.ensures.ok,
    )
    (infos-push (values_of w.sizes) (values_of w.durations) (values_of w.rendering_offsets) (values_of w.syncs)
    c.self.invariant c.args.sample)
