use Rattle.std.proofs.Common.{◌≡◌, ◌∙◌, ◌++◌, ◌∷◌, ◌+◌, [], List, ℕ, take, drop, ap, arith}
use Rattle.byteorder.specs.Endian.{big_bytes, big_number}
use Rattle.mp4_codec.specs.Bytes.{number}
use Rattle.mp4_remux.proofs.Editing.{both_more}
use Rattle.mp4_remux.proofs.Referring.{rest_of}
use Rattle.mp4_remux.proofs.header_box.put_version_1.Goals as goal

pub returns : goal.returns
unfolding number
returns c =
    let payload : List ℕ = c.args.payload.now in
    let old : List ℕ = c.args.out.now.items in
    let one : List ℕ = c.push.new.self.items in
    let two : List ℕ = c.extend_from_slice.new.self.items in
    let three : List ℕ = c.put_u64.new.out.items in
    let four : List ℕ = c.put_u64-2.new.out.items in
    let five : List ℕ = c.extend_from_slice-2.new.self.items in
    let six : List ℕ = c.put_u64-3.new.out.items in
    let seven : List ℕ = c.extend_from_slice-3.new.self.items in
    let made : three ≡ two ++ big_bytes 8 (big_number 4 (drop 4 payload)) =
    c.in_ok-put_u64.ensures.is
    ∙ ap (λ (n : ℕ). two ++ big_bytes 8 n) (c.from.ensures ∙ c.read_u32.ensures
    ∙ ap (big_number 4) (rest_of 4 payload)) in
    let changed : four ≡ three ++ big_bytes 8 (big_number 4 (drop 8 payload)) =
    c.in_ok-put_u64-2.ensures.is
    ∙ ap (λ (n : ℕ). three ++ big_bytes 8 n) (c.from-2.ensures ∙ c.read_u32-2.ensures
    ∙ ap (big_number 4) (rest_of 8 payload)) in
    let more : five ≡ four ++ take c.args.more (drop 12 payload) =
    c.in_ok-extend_from_slice-2.ensures.items
    ∙ ap (λ (n : ℕ). four ++ take n (drop 12 payload)) (omega arith) in
    let end : seven ≡ six ++ drop (16 + c.args.more) payload =
    c.in_ok-extend_from_slice-3.ensures.items ∙ ap (λ (xs : List ℕ). six ++ xs) (rest_of (16 + c.args.more) payload) in
    both_more old one seven (1 ∷ []) _ c.in_ok-push.ensures.items
    (both_more one two seven _ _ c.in_ok-extend_from_slice.ensures.items
    (both_more two three seven _ _ made
    (both_more three four seven _ _ changed
    (both_more four five seven _ _ more
    (both_more five six seven _ _ c.in_ok-put_u64-3.ensures.is end)))))
