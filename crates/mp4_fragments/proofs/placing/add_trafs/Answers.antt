use Rattle.std.proofs.Common.{ℕ, Option, None, get_or, refl, sym, subst, arith}
use Rattle.std.specs.Prelude.{zip}
use Rattle.std.proofs.lemmas.Slice.Zip.{length-zip}
use Rattle.mp4_moof.specs.declared.traf.TrafBox.{TrafBox}
use Rattle.mp4_fragments.specs.Defaults.{defaults_in}
use Rattle.mp4_fragments.specs.Fragments.{with_traf}
use Rattle.mp4_fragments.specs.Index.{KnowsRuns}
use Rattle.mp4_fragments.proofs.Walking.{Walks-more, Walks-whole, in_zip}
use Rattle.mp4_fragments.proofs.placing.add_trafs.Goals as goal

pub loop-t-preserved : goal.loop-t-preserved
loop-t-preserved c =
    let traf = c.index-trafs-t.result in
    let is = c.index-trafs-t.is in
    let t = c.loop-t.t in
    let track = c.args.track in
    let trafs = c.args.trafs.now in
    let base_data_offsets = c.args.base_data_offsets.now in
    let base_data_offset : Option ℕ = get_or base_data_offsets t None in
    Walks-more _ (KnowsRuns t traf.truns (defaults_in traf track)) (with_traf track) (zip trafs base_data_offsets) t (
      traf,
      base_data_offset,
    ) _ _ _ _ _ _ (omega (arith, c.requires, length-zip trafs base_data_offsets))
    (in_zip trafs base_data_offsets t traf base_data_offset None c.requires (omega arith) is refl)
    (λ find k. subst (λ (r : TrafBox). KnowsRuns t r.truns (defaults_in r track) find) (sym is) (k.traf t traf
    (omega arith)))
    c.loop-t.invariant
    c.in_ok-at.ensures

pub returns : goal.returns
returns c = Walks-whole _ _ (zip c.args.trafs.now c.args.base_data_offsets.now) c.loop-t.t _ _ _ _ (omega (
  arith,
  c.requires,
  length-zip c.args.trafs.now c.args.base_data_offsets.now,
)) c.loop-t.invariant
