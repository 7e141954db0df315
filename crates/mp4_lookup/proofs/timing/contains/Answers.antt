use Rattle.std.proofs.Common.{sym}
use Rattle.mp4_lookup.proofs.Searches.{list_any-searched, list_any-searched_none}
use Rattle.mp4_lookup.proofs.timing.contains.Goals as goal

pub returns-in-None-clause-value : goal.returns-in-None-clause-value
returns-in-None-clause-value g c =
    sym (list_any-searched_none c.args.numbers.now c.args.k (rw c.in-None.is at c.last_at_most.ensures.none))

pub returns-in-Some-clause-value : goal.returns-in-Some-clause-value
returns-in-Some-clause-value g c =
    let found = rw c.in-Some.is at c.last_at_most.ensures.found in
    rw found.1 (list_any-searched c.args.numbers.now c.args.k c.in-Some.found.index c.requires.rises found.0)
