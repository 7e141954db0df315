use Rattle.std.proofs.Common.{◌+◌, ◌-◌, ◌∷◌, ◌++◌, arith, drop, length, sym, ap, ◌∙◌}
use Rattle.std.proofs.lemmas.List.{drop_all, drop_more, length-drop, take_all}
use Rattle.mp4_media.specs.MovieTracks.{base_data_offsets_at, defaults_at, own_base_data_offsets}
use Rattle.mp4_media.proofs.BaseDataOffsetsByTrack.{and_to_come, base_data_offset_kept, none_to_come}
use Rattle.mp4_media.proofs.fragments.add_base_data_offsets.Goals as goal

pub loop-i-preserved : goal.loop-i-preserved
loop-i-preserved c = λ id.
    let defaults = defaults_at c.args.defaults.now in
    let moof = c.args.moof in
    let trafs = c.args.trafs.now in
    let i = c.loop-i.i in
    let f = c.index-trafs-i.result in
    let whole = take_all (length trafs - (i + 1)) (drop (i + 1) trafs) (omega (arith, length-drop (i + 1) trafs)) in
    let end = rw (c.track_defaults.ensures, c.traf_base_data_offset-base_data_offset.ensures, whole)
    at (c.end_for_next-before.ensures defaults moof) in
    ap (λ bs. base_data_offsets_at c.add_base_data_offset.new.base_data_offsets id
    ++ own_base_data_offsets id (drop (i + 1) trafs) bs) end
    ∙ base_data_offset_kept defaults moof c.loop-i.base_data_offsets
    c.add_base_data_offset.new.base_data_offsets c.loop-i.before f (drop (i + 1) trafs)
    (rw c.traf_base_data_offset-base_data_offset.ensures at c.in_ok-add_base_data_offset.ensures) id
    ∙ ap (λ fs. and_to_come defaults moof c.loop-i.base_data_offsets c.loop-i.before fs id)
    (ap (λ x. x ∷ drop (i + 1) trafs) c.index-trafs-i.is ∙ sym (drop_more trafs i f c.loop-i-test.true))
    ∙ c.loop-i.invariant id

pub returns : goal.returns
returns c = λ id.
    let defaults = defaults_at c.args.defaults.now in
    let moof = c.args.moof in
    sym (none_to_come defaults moof c.loop-i.base_data_offsets c.loop-i.before id)
    ∙ ap (λ fs. and_to_come defaults moof c.loop-i.base_data_offsets c.loop-i.before fs id)
    (sym (drop_all c.loop-i.i c.args.trafs.now c.loop-i-test.false))
    ∙ c.loop-i.invariant id
