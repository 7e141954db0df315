use Rattle.std.proofs.Common.{List, ◌++◌, ◌∷◌, [], sym, ap, ◌∙◌}
use Rattle.mp4_codec.specs.Steps.{ok_is}
use Rattle.mp4_mux.specs.Building.{Building, new_building}
use Rattle.mp4_mux.specs.Config.{config_cause}
use Rattle.mp4_mux.proofs.media.Media.add_track.Goals as goal

pub new-track-requires : goal.new-track-requires
new-track-requires g c =
    let same = ok_is c.args.config.now c.in_ok-config.config c.in_ok-config.ensures in
    ap config_cause (sym same) ∙ c.requires

pub returns-clause-ok : goal.returns-clause-ok
returns-clause-ok g c =
    let same = ok_is c.args.config.now c.in_ok-config.config c.in_ok-config.ensures in
    let old = c.self.inside in
    rw (← c.self.view_is)
    (ap (λ (bs : List Building). record {
      contents = g.S.ByteSink.contents old.sink;
      len = g.S.ByteSink.len old.sink;
      waiting = g.S.ByteSink.waiting old.sink;
      can_refuse = g.S.ByteSink.can_refuse old.sink;
      tracks = bs;
      written = old.written.items;
    })
    (c.in_ok-push.ensures.items
    ∙ ap (λ (b : Building). old.tracks.items ++ b ∷ [])
    (c.new-track.ensures ∙ ap (new_building c.args.timescale) (sym same))))
