use Rattle.std.proofs.Common.{◌≡◌, ◌∙◌, ◌+◌, ◌-◌, ◌^◌, min, List, get_or, ap, refl, sym, arith}
use Rattle.std.specs.Prelude.{unwrap_or}
use Rattle.mp4_moof.specs.declared.traf.TrafBox.{TrafBox}
use Rattle.mp4_moof.specs.declared.trun.TrunBox.{TrunBox}
use Rattle.mp4_remux.specs.Descriptions.{samples_in}
use Rattle.mp4_remux.proofs.DescriptionLaws.{traf_run, trafs_over}
use Rattle.mp4_remux.proofs.descriptions.push_fragments.Goals as goal

pub loop-traf-init : goal.loop-traf-init
loop-traf-init c = (c.args.count, (omega arith, refl))

pub loop-traf-preserved : goal.loop-traf-preserved
loop-traf-preserved c =
    let t = get_or c.args.trafs.now c.loop-traf.traf-index c.traf-item.result in
    let before = c.loop-traf.invariant.0 in
    let count : samples_in c.as_slice.result.now ≡ samples_in t.truns =
    ap (λ (rs : List TrunBox). samples_in rs) (c.as_slice.ensures ∙ ap (λ (f : TrafBox). f.truns) c.traf-item.is) in
    let end : c.last_after-last.result ≡ min (2 ^ 32 - 1) (before + samples_in t.truns) =
    omega (arith, c.last_after-last.ensures, c.loop-traf.invariant.1.0, count) in
    let description : c.unwrap_or.result ≡ unwrap_or t.tfhd.sample_description_index c.args.default =
    c.unwrap_or.ensures
    ∙ ap (λ (f : TrafBox). unwrap_or f.tfhd.sample_description_index c.args.default) c.traf-item.is in (
      before + samples_in t.truns,
      (
        end,
        rw (c.in_ok-push.ensures.items, description)
            (traf_run c.args.trafs.now c.loop-traf.traf-index c.args.default before c.traf-item.result
            c.loop-traf.runs.items c.last_after-last.result c.loop-traf-test.true end
            ∙ c.loop-traf.invariant.1.1),
      ),
    )

pub returns : goal.returns
returns c =
    sym (trafs_over c.args.trafs.now c.loop-traf.traf-index c.args.default c.loop-traf.invariant.0
    c.loop-traf.runs.items c.loop-traf-test.false)
    ∙ c.loop-traf.invariant.1.1
