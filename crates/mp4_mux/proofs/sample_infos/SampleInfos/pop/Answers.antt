use Rattle.std.proofs.Common.{arith, rules}
use Rattle.std.specs.Prelude.{FitsSigned}
use Rattle.std.specs.Int.{w32}
use Rattle.std.proofs.lemmas.Int.{to_z-of_z}
use Rattle.mp4_mux.specs.declared.sample_info.SampleInfo.{SampleInfo}
use Rattle.mp4_mux.specs.Columns.{values_of}
use Rattle.mp4_mux.proofs.SampleColumnLaws.{length-infos, infos-push, as-many-init}
use Rattle.mp4_mux.proofs.sample_infos.SampleInfos.pop.Goals as goal

pub pop-size-requires : goal.pop-size-requires
pop-size-requires c =
    omega (
      arith,
      rw (← c.self.view_is) at c.requires,
      length-infos (values_of c.self.inside.sizes) (values_of c.self.inside.durations) (values_of c.self.inside.rendering_offsets)
          (values_of c.self.inside.syncs) c.self.invariant,
    )

pub returns : goal.returns
returns c =
    let s : SampleInfo = record {
      size = c.pop-size.result;
      duration = c.pop-duration.result;
      rendering_offset = c.pop-rendering_offset.result;
      is_sync = c.pop-is_sync.result;
    } in
    let fits : FitsSigned w32 c.pop-rendering_offset.result = search rules in
    let sizes = values_of c.pop-size.new.self in
    let durations = values_of c.pop-duration.new.self in
    let offsets = values_of c.pop-rendering_offset.new.self in
    let syncs = values_of c.pop-is_sync.new.self in
    let whole = rw (c.pop-size.ensures, c.pop-duration.ensures, c.pop-rendering_offset.ensures, c.pop-is_sync.ensures)
    at c.self.invariant in
    rw (
      ← c.self.view_is,
      c.pop-size.ensures,
      c.pop-duration.ensures,
      c.pop-rendering_offset.ensures,
      c.pop-is_sync.ensures,
      to_z-of_z w32 c.pop-rendering_offset.result fits,
    )
    (infos-push sizes durations offsets syncs (as-many-init sizes durations offsets syncs s whole) s)
