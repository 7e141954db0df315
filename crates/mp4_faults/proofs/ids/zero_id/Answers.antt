use Rattle.std.proofs.Common.{refl, ◌∙◌}
use Rattle.std.proofs.lemmas.Bool.{ne_eqb}
use Rattle.mp4_codec.specs.Cause.{invalid_data}
use Rattle.mp4_codec.specs.ListLaws.{all_refusal-take_more}
use Rattle.mp4_media.specs.MovieTracks.{zero_id}
use Rattle.mp4_faults.proofs.FirstOf.{first-in}
use Rattle.mp4_faults.proofs.ids.zero_id.Goals as goal

pub returns-then-trak-eq0-clause-first : goal.returns-then-trak-eq0-clause-first
returns-then-trak-eq0-clause-first c = (
  c.index-traks-index.result,
  first-in zero_id c.args.traks.now c.loop-index.index c.index-traks-index.result invalid_data c.loop-index-test.true
      c.index-traks-index.is c.loop-index.invariant (rw c.if-trak-eq0.true refl),
)

pub loop-index-preserved : goal.loop-index-preserved
loop-index-preserved c =
    all_refusal-take_more zero_id c.args.traks.now c.loop-index.index c.index-traks-index.result c.loop-index-test.true
    c.index-traks-index.is c.loop-index.invariant
    ∙ rw (ne_eqb _ _ c.if-trak-eq0.false) refl
