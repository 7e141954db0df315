use Rattle.std.proofs.Common.{◌∙◌, sym, rules}
use Rattle.std.proofs.lemmas.List.Sorted.{All-permutation, IsNonDecreasingBy-from_sort_by_key, list_any-IsPermutation}
use Rattle.mp4_remux.specs.declared.data.Extent.{Extent}
use Rattle.mp4_remux.specs.Data.{IsWithin, has_byte}
use Rattle.mp4_remux.proofs.data.in_order.Goals as goal

pub returns-clause-bytes : goal.returns-clause-bytes
returns-clause-bytes c = λ byte.
    rw c.deref.ensures.value at c.in_ok-all.ensures.bytes byte
    ∙ sym (list_any-IsPermutation (has_byte byte) _ _ c.in_ok-sort_by_key.ensures.permutation)

pub returns-clause-within : goal.returns-clause-within
returns-clause-within c = λ len each.
    rw c.deref.ensures.value at c.in_ok-all.ensures.within len
    (All-permutation (IsWithin len) _ _ c.in_ok-sort_by_key.ensures.permutation each)

pub returns-clause-apart : goal.returns-clause-apart
returns-clause-apart c = λ len each.
    let up = IsNonDecreasingBy-from_sort_by_key (λ (e : Extent). e.place) c.sort_by_key.new.self.items
    c.in_ok-sort_by_key.ensures.sorted (λ a r q k. search rules) in
    rw c.deref.ensures.value at c.in_ok-all.ensures.apart len up
    (All-permutation (IsWithin len) _ _ c.in_ok-sort_by_key.ensures.permutation each)
