-- Bytes whose chunk offsets are moved become one list of bytes alone.
use Rattle.std.proofs.Common.{◌≡◌, ◌∙◌, ℕ, ◌+◌, List, ◌++◌, length, None, Some, refl, sym, ap}
use Rattle.mp4_codec.specs.declared.box_type.BoxType.{BoxType}
use Rattle.mp4_remux.specs.Moved.{IsMovedAt, as_it_is, entry_size, level_of, moved_table, no_box, of_offsets}
use Rattle.mp4_remux.specs.Moved.{on_the_way, sized}
use Rattle.mp4_remux.specs.References.{first_part}
use Rattle.mp4_remux.proofs.Growing.{Becomes, becomes, begins, no_table, some_or_none, stays, table, way}

-- it is what the box becomes, and then what the rest does
module _ (to : ℕ → ℕ) (level : ℕ) (name : BoxType) (header payload rest ra ys zs : List ℕ)
    (others : (q : List ℕ) → IsMovedAt to level rest q → ra ≡ q) where
  way_once : (pa : List ℕ) → level_of name ≡ Some level
      → ((q : List ℕ) → IsMovedAt to (level + 1) payload q → pa ≡ q)
      → ys ≡ sized header (length pa) ++ (pa ++ ra) → Becomes to level name header payload rest zs → ys ≡ zs
  way_once pa is inner e (way pb rb also m rests f) =
      e ∙ ap (λ (q : List ℕ). sized header (length q) ++ (q ++ ra)) (inner pb m)
      ∙ ap (λ (q : List ℕ). sized header (length pb) ++ (pb ++ q)) (others rb rests) ∙ sym f
  way_once pa is inner e (table rb size five entry rests f) = absurd (no_table name level size is entry)
  way_once pa is inner e (stays rb isnt none rests f) = absurd (isnt is)

  offsets_once : (size : ℕ) → level ≡ 5 → entry_size name ≡ Some size → ys ≡ moved_table to size header payload ++ ra
      → Becomes to level name header payload rest zs → ys ≡ zs
  offsets_once size five is e (way pb rb way_is m rests f) = absurd (no_table name level size way_is is)
  offsets_once size five is e (table rb other six also rests f) =
      let same : size ≡ other = cc in
      e ∙ ap (λ n. moved_table to n header payload ++ ra) same
      ∙ ap (λ (q : List ℕ). moved_table to other header payload ++ q) (others rb rests) ∙ sym f
  offsets_once size five is e (stays rb isnt none rests f) =
      absurd (some_or_none size (entry_size name) is (none five))

  stays_once : (level_of name ≡ Some level → ⊥) → (level ≡ 5 → entry_size name ≡ None)
      → ys ≡ header ++ (payload ++ ra) → Becomes to level name header payload rest zs → ys ≡ zs
  stays_once isnt none e (way pb rb is m rests f) = absurd (isnt is)
  stays_once isnt none e (table rb size five is rests f) =
      absurd (some_or_none size (entry_size name) is (none five))
  stays_once isnt none e (stays rb is_no is_none rests f) =
      e ∙ ap (λ (q : List ℕ). header ++ (payload ++ q)) (others rb rests) ∙ sym f

none_once : (to : ℕ → ℕ) (level : ℕ) (xs zs : List ℕ) → first_part xs ≡ None → IsMovedAt to level xs zs → xs ≡ zs
none_once to level xs zs none (no_box l bytes also) = refl
none_once to level xs zs none (on_the_way l before after r ra n h p pa own is inner room m e) =
    absurd (begins xs n h p r own none)
none_once to level xs zs none (of_offsets l before after r ra n h p size own five is room m e) =
    absurd (begins xs n h p r own none)
none_once to level xs zs none (as_it_is l before after r ra n h p own isnt none_is m e) =
    absurd (begins xs n h p r own none)

-- moved in the same way, the same bytes become the same
pub moved_once : (to : ℕ → ℕ) (level : ℕ) (xs ys : List ℕ) → IsMovedAt to level xs ys → (zs : List ℕ)
    → IsMovedAt to level xs zs → ys ≡ zs
moved_once to level xs ys (no_box l bytes none) zs m = none_once to level xs zs none m
moved_once to level xs ys (on_the_way l before after rest ra name header payload pa own is inner room others e) zs m =
    way_once to level name header payload rest ra ys zs (moved_once to level rest ra others) pa is
    (moved_once to (level + 1) payload pa inner) e (becomes to level xs zs m name header payload rest own)
moved_once to level xs ys (of_offsets l before after rest ra name header payload n own five is room others e) zs m =
    offsets_once to level name header payload rest ra ys zs (moved_once to level rest ra others) n five is e
    (becomes to level xs zs m name header payload rest own)
moved_once to level xs ys (as_it_is l before after rest ra name header payload own isnt none others e) zs m =
    stays_once to level name header payload rest ra ys zs (moved_once to level rest ra others) isnt none e
    (becomes to level xs zs m name header payload rest own)
