-- What a list that copies share holds.
use Rattle.std.specs.Prelude.{List, [], ◌∷◌}
use Rattle.std.specs.Arc.{arc_value}
use Rattle.mp4_codec.specs.declared.shared_values.SharedValues.{SharedValues}
use Rattle.mp4_codec.specs.declared.shared_values.SharedValues.TheVariants.{Empty, One, Many}

-- its values, wherever they lie
abbrev pub values_in : {X : Type 0} → SharedValues X → List X
values_in Empty = []
values_in (One value) = arc_value value ∷ []
values_in (Many values) = arc_value values
