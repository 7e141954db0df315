use Rattle.std.proofs.Common.{ap, not, sym, ◌∙◌}
use Rattle.mp4_remux.proofs.Counting.{none_placed}
use Rattle.mp4_remux.proofs.Sameness.{placed_there}
use Rattle.mp4_remux.proofs.same.is_nowhere.Goals as goal

pub returns-in-Ok : goal.returns-in-Ok
returns-in-Ok c = λ is.
    none_placed c.args.movie.now c.requires c.args.track_id 1 c.in-Ok.first c.in-Ok.ensures
    (c.is_none.ensures ∙ ap not is)

pub returns-in-Err : goal.returns-in-Err
returns-in-Err c = λ _ first there.
    let nowhere = sym there ∙ placed_there c.args.movie.now c.requires c.args.track_id 1 ∙ c.in-Err.ensures in
    absurd cc
