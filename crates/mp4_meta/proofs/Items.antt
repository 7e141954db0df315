-- What a map holds at each of the four keys of metadata.
use Rattle.std.proofs.Common.{◌≡◌, List, [], ◌∷◌, length, Some, None, refl, arith}
use Rattle.mp4_codec.specs.KeyedItems.{held_at, with_item}
use Rattle.mp4_meta.specs.contracts.metadata_key.MetadataKeyPartialEq.TheImpl.{eq-value}
use Rattle.mp4_meta.specs.declared.metadata_key.MetadataKey.{MetadataKey}
use Rattle.mp4_meta.specs.declared.metadata_key.MetadataKey.TheVariants.{Title, Year, Poster, Summary}
use Rattle.mp4_meta.specs.declared.ilst.IlstItemBox.{IlstItemBox}
use Rattle.mp4_meta.specs.Ilst.{Held, item_at, items_with}

abbrev pub keys : List MetadataKey
keys = Title ∷ Year ∷ Poster ∷ Summary ∷ []

pub held_at-item_at : (held : Held) (key : MetadataKey) → length held ≡ 4
    → held_at eq-value.it keys held key ≡ item_at key held
unfolding held_at item_at
held_at-item_at [] key e = absurd cc
held_at-item_at (t ∷ []) key e = absurd cc
held_at-item_at (t ∷ y ∷ []) key e = absurd cc
held_at-item_at (t ∷ y ∷ p ∷ []) key e = absurd cc
held_at-item_at (t ∷ y ∷ p ∷ s ∷ more) Title e = refl
held_at-item_at (t ∷ y ∷ p ∷ s ∷ more) Year e = refl
held_at-item_at (t ∷ y ∷ p ∷ s ∷ more) Poster e = refl
held_at-item_at (t ∷ y ∷ p ∷ s ∷ more) Summary e = refl

pub with_item-items_with : (held : Held) (key : MetadataKey) (item : IlstItemBox) → length held ≡ 4
    → with_item eq-value.it keys held key item ≡ items_with key (Some item) held
unfolding with_item items_with
with_item-items_with [] key item e = absurd cc
with_item-items_with (t ∷ []) key item e = absurd cc
with_item-items_with (t ∷ y ∷ []) key item e = absurd cc
with_item-items_with (t ∷ y ∷ p ∷ []) key item e = absurd cc
with_item-items_with (t ∷ y ∷ p ∷ s ∷ []) Title item e = refl
with_item-items_with (t ∷ y ∷ p ∷ s ∷ []) Year item e = refl
with_item-items_with (t ∷ y ∷ p ∷ s ∷ []) Poster item e = refl
with_item-items_with (t ∷ y ∷ p ∷ s ∷ []) Summary item e = refl
with_item-items_with (t ∷ y ∷ p ∷ s ∷ x ∷ more) key item e = absurd (omega (arith, e))

-- where a key holds nothing, the map is as it is with nothing there
pub with_nothing : (held : Held) (key : MetadataKey) → length held ≡ 4 → item_at key held ≡ None
    → items_with key None held ≡ held
unfolding item_at items_with
with_nothing [] key e none = absurd cc
with_nothing (t ∷ []) key e none = absurd cc
with_nothing (t ∷ y ∷ []) key e none = absurd cc
with_nothing (t ∷ y ∷ p ∷ []) key e none = absurd cc
with_nothing (t ∷ y ∷ p ∷ s ∷ more) Title e none = rw none refl
with_nothing (t ∷ y ∷ p ∷ s ∷ more) Year e none = rw none refl
with_nothing (t ∷ y ∷ p ∷ s ∷ more) Poster e none = rw none refl
with_nothing (t ∷ y ∷ p ∷ s ∷ more) Summary e none = rw none refl
