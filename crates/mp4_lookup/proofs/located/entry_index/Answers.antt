use Rattle.std.proofs.Common.{refl}
use Rattle.std.proofs.lemmas.Bool.{ne_eqb}
use Rattle.mp4_table.specs.declared.stsc.StscEntry.{StscEntry}
use Rattle.mp4_lookup.specs.Rule.{entry_for}
use Rattle.mp4_lookup.proofs.Searches.{first_samples_rise, last_where-searched_none}
use Rattle.mp4_lookup.proofs.located.entry_index.Goals as goal

pub last_at_most-requires-clause-rises : goal.last_at_most-requires-clause-rises
last_at_most-requires-clause-rises g c = rw c.requires.index (first_samples_rise c.args.entries.now c.requires.firsts)

pub returns-in_default-clause-refused : goal.returns-in_default-clause-refused
unfolding entry_for
returns-in_default-clause-refused g c =
    let none = last_where-searched_none (λ (e : StscEntry). e.first_sample) c.args.entries.now c.args.k
    (rw c.requires.index at (rw c.in_default.is at c.last_at_most.ensures.none)) in
    rw (ne_eqb c.args.k 0 c.if-k-eq0.false, none) refl
