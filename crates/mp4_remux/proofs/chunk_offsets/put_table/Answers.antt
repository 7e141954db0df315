use Rattle.std.proofs.Common.{◌≡◌, ◌∙◌, ◌++◌, ◌*◌, ◌==◌, ◌||◌, ℕ, List, length, drop, take, arith, ap, inl, inr}
use Rattle.std.proofs.Common.{min}
use Rattle.std.proofs.lemmas.Result.{on_ok_weaker, MatchResult-weaker}
use Rattle.std.specs.List.{flat_map, list_any}
use Rattle.mp4_remux.specs.Moved.{IsBy, entry_count, is_wide, moved_payload, numbers_in, passes, size_of}
use Rattle.mp4_remux.specs.Moved.{wide_bytes, wide_header}
use Rattle.mp4_remux.proofs.Editing.{ended, no_size}
use Rattle.mp4_remux.proofs.Offsets.{entries_are, length-wide_header, past_32_bits, table_header, table_is, too_large}
use Rattle.mp4_remux.proofs.Referring.{rest_of}
use Rattle.mp4_remux.proofs.chunk_offsets.put_table.Goals as goal

-- what was added before the size is put
written : (c : goal.After-end_box) (to : ℕ → ℕ) → IsBy c.args.moves.now to → c.extend_from_slice-2.new.self.items
    ≡ c.args.out.now.items ++ (wide_header (is_wide to (size_of c.args.width) c.args.table.now.payload.now)
    c.args.table.now.header.now ++ moved_payload to (size_of c.args.width) c.args.table.now.payload.now)
written c to by =
    let payload : List ℕ = c.args.table.now.payload.now in
    let size : ℕ = size_of c.args.width in
    let wide = c.is_wide-is_wide.result in
    let fields : List ℕ = c.split_at.result.0.now in
    let entries : List ℕ = c.split_at.result.1.now in
    let old : List ℕ = c.args.out.now.items in
    let one : List ℕ = c.put_type.new.out.items in
    let two : List ℕ = c.extend_from_slice.new.self.items in
    let three : List ℕ = c.put_offsets.new.out.items in
    let four : List ℕ = c.extend_from_slice-2.new.self.items in
    let count : c.entry_count-count.result ≡ entry_count size payload = c.entry_count-count.ensures in
    let front : fields ≡ take (min (length payload) 8) payload =
    c.split_at.ensures.front ∙ ap (λ (n : ℕ). take n payload) c.min.ensures in
    let back : entries ≡ drop (min (length payload) 8) payload =
    c.split_at.ensures.back ∙ ap (λ (n : ℕ). drop n payload) c.min.ensures in
    let first : wide ≡ is_wide to size payload =
    c.is_wide-is_wide.ensures to by
    ∙ ap (λ (xs : List ℕ). (size == 8) || list_any (passes to) (numbers_in c.entry_count-count.result size xs))
    (back ∙ entries_are payload)
    ∙ ap (λ (n : ℕ). (size == 8) || list_any (passes to) (numbers_in n size (drop 8 payload))) count in
    table_is to size c.args.table.now.header.now payload wide fields entries old one two three four first front back
    c.in_ok-put_type.ensures.is c.in_ok-extend_from_slice.ensures.items
    ((c.in_ok-put_offsets.ensures to by).is
    ∙ ap (λ (n : ℕ). two ++ flat_map (λ offset. wide_bytes wide (to offset)) (numbers_in n size entries)) count)
    (c.in_ok-extend_from_slice-2.ensures.items
    ∙ ap (λ (xs : List ℕ). three ++ xs) (rest_of (c.entry_count-count.result * c.size.result) entries)
    ∙ ap (λ (n : ℕ). three ++ drop (n * c.size.result) entries) count
    ∙ ap (λ (n : ℕ). three ++ drop (entry_count size payload * n) entries) c.size.ensures)

pub returns-clause-added : goal.returns-clause-added
returns-clause-added c = λ to by.
    let size : ℕ = size_of c.args.width in
    let payload : List ℕ = c.args.table.now.payload.now in
    let head : List ℕ = wide_header (is_wide to size payload) c.args.table.now.header.now in
    on_ok_weaker c.end_box.result
    (λ ends. ended c.args.out.now.items head (moved_payload to size payload) c.end_box.new.out.items
    (ends c.args.out.now.items head (moved_payload to size payload)
    (omega (arith, c.len-start.ensures, c.args.out.now.ok.0))
    (table_header to size c.args.table.now.header.now payload c.requires.header) (written c to by)))
    c.end_box.ensures.sized

pub returns-clause-refused : goal.returns-clause-refused
returns-clause-refused c = λ to by.
    let size : ℕ = size_of c.args.width in
    let payload : List ℕ = c.args.table.now.payload.now in
    let header : List ℕ = c.args.table.now.header.now in
    MatchResult-weaker c.end_box.result c.end_box.ensures.refused (λ x u. u)
    (λ e is. inr (
      inl is.0,
      no_size (wide_header (is_wide to size payload) header) (moved_payload to size payload)
          (omega (arith, length-wide_header (is_wide to size payload) header c.requires.long, is.1.0))
          (past_32_bits to size header payload c.args.out.now.items c.extend_from_slice-2.new.self.items
          c.len-start.result c.requires.long (written c to by)
          (omega (arith, c.len-start.ensures, c.args.out.now.ok.0)) is.1.1),
    ))

pub returns-clause-large : goal.returns-clause-large
returns-clause-large c = λ to by.
    MatchResult-weaker c.end_box.result c.end_box.ensures.refused (λ x u. u)
    (λ e is. inr (
      is.0,
      too_large to c.args.width c.args.table.now.header.now c.args.table.now.payload.now
          c.args.out.now.items c.extend_from_slice-2.new.self.items c.len-start.result c.requires.long
          (written c to by) (omega (arith, c.len-start.ensures, c.args.out.now.ok.0)) is.1.1,
    ))
