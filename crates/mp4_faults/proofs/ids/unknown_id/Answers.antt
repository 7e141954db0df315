use Rattle.std.proofs.Common.{◌∙◌}
use Rattle.mp4_codec.specs.Cause.{trak_not_found}
use Rattle.mp4_codec.specs.ListLaws.{all_refusal-take_more}
use Rattle.mp4_faults.specs.Ids.{has_id, moof_refusal}
use Rattle.mp4_faults.proofs.FirstOf.{first-in, moof-refuses}
use Rattle.mp4_faults.proofs.ids.unknown_id.Goals as goal

pub returns-in-Some-clause-first : goal.returns-in-Some-clause-first
returns-in-Some-clause-first c =
    let known = has_id c.args.ids.now in
    let moof = c.index-moofs-index.result in
    let found = rw c.as_slice.ensures at c.in-Some.ensures.first in
    record {
      m = moof;
      first_moof = first-in (moof_refusal known) c.args.moofs.now c.loop-index.index moof (trak_not_found c.in-Some.id)
          c.loop-index-test.true c.index-moofs-index.is c.loop-index.invariant
          (moof-refuses known moof c.in-Some.traf found.0 c.in-Some.id found.1);
      t = found.0;
      first_traf = found.1;
    }

pub loop-index-preserved : goal.loop-index-preserved
loop-index-preserved c =
    let known = has_id c.args.ids.now in
    let none = rw c.as_slice.ensures at c.in_default.ensures.first in
    all_refusal-take_more (moof_refusal known) c.args.moofs.now c.loop-index.index c.index-moofs-index.result
    c.loop-index-test.true c.index-moofs-index.is c.loop-index.invariant
    ∙ none
