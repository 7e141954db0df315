use Rattle.std.proofs.Common.{◌∙◌, refl}
use Rattle.mp4_codec.specs.KeyedItemLaws.{held_at-no_items, held_at-with_item}
use Rattle.mp4_codec.proofs.laws.insertion_changes_one_key.Goals as goal

pub returns-clause-empty : goal.returns-clause-empty
returns-clause-empty g c = held_at-no_items g.K.PartialEq.eq g.K.Key.all

pub returns-clause-at_its_key : goal.returns-clause-at_its_key
returns-clause-at_its_key g c = λ held key value long.
    held_at-with_item g.met.K.Eq.laws g.K.Key.all held key value key long (g.met.K.Key.is_listed key)
    ∙ rw (g.met.K.Eq.laws.refl key) refl

pub returns-clause-at_others : goal.returns-clause-at_others
returns-clause-at_others g c = λ held key other value long apart.
    held_at-with_item g.met.K.Eq.laws g.K.Key.all held key value other long (g.met.K.Key.is_listed other)
    ∙ rw apart refl
