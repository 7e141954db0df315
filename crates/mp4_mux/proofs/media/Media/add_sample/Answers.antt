use Rattle.std.proofs.Common.{◌≡◌, ◌∙◌, sym, ap}
use Rattle.std.specs.Prelude.{slice_set}
use Rattle.std.proofs.lemmas.List.{get_or_read}
use Rattle.mp4_mux.specs.Building.{Building, pushed}
use Rattle.mp4_mux.specs.Media.{building_at, no_building}
use Rattle.mp4_mux.specs.Writing.{lent_sample}
use Rattle.mp4_mux.proofs.KeptLaws.{may_be-pending, may_be-chunk}
use Rattle.mp4_mux.proofs.media.Media.add_sample.Goals as goal

pub returns-in_default-clause-ok : goal.returns-in_default-clause-ok
returns-in_default-clause-ok g c =
    let t = c.args.track in
    let s = lent_sample c.args.sample.now in
    let tracks = c.self.inside.tracks.items in
    let read : c.index_mut-writer.result.now ≡ building_at tracks t =
    get_or_read tracks t c.index_mut-writer.result.now (rw (← c.self.view_is) at c.requires.track)
    c.index_mut-writer.ensures.value no_building in
    let one : c.push.new.self ≡ pushed (building_at tracks t) s =
    c.in_ok-push.ensures.ok ∙ ap (λ (b : Building). pushed b s) read in
    rw (← c.self.view_is) (λ media h. may_be-chunk _ media h t s c.push.new.self one _
    (sym c.is_full.ensures ∙ c.if-is_full.true) c.in_default.ensures.len c.in_default.ensures.bytes
    (ap (λ (b : Building). slice_set tracks t b) c.in_default.ensures.track) c.in_default.ensures.chunk)

pub returns-else-is_full-clause-ok : goal.returns-else-is_full-clause-ok
returns-else-is_full-clause-ok g c =
    let t = c.args.track in
    let s = lent_sample c.args.sample.now in
    let tracks = c.self.inside.tracks.items in
    let read : c.index_mut-writer.result.now ≡ building_at tracks t =
    get_or_read tracks t c.index_mut-writer.result.now (rw (← c.self.view_is) at c.requires.track)
    c.index_mut-writer.ensures.value no_building in
    let one : c.push.new.self ≡ pushed (building_at tracks t) s =
    c.in_ok-push.ensures.ok ∙ ap (λ (b : Building). pushed b s) read in
    rw (← c.self.view_is) (λ media h. may_be-pending _ media h t s c.push.new.self one
    (sym c.is_full.ensures ∙ c.if-is_full.false))
