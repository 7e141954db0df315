-- Pieces of the file, one laid after the other.
use Rattle.std.proofs.Common.{◌≡◌, ◌∙◌, ℕ, ◌+◌, ◌-◌, ◌^◌, ◌<◌, ◌≤◌, List, [], ◌∷◌, ◌++◌, length, take}
use Rattle.std.proofs.Common.{refl, sym, ap, subst, arith, append_assoc}
use Rattle.std.specs.Prelude.{map, slice_index_or}
use Rattle.std.specs.List.{All, filter, sum_by}
use Rattle.std.proofs.lemmas.List.{map_more}
use Rattle.std.proofs.lemmas.List.Elements.{filter-append}
use Rattle.std.proofs.lemmas.List.Sums.{sum_by-append, sum_by-cons, sum_by_more, sum_by_more_le}
use Rattle.mp4_remux.specs.Data.{data_len}
use Rattle.mp4_remux.specs.PlannedRebuilt.{rebuilt_stretches}
use Rattle.mp4_remux.specs.Splice.{Follow, Stretch, has_bytes, kept_stretch, made_stretch, of_origin, stretch_len}
use Rattle.mp4_remux.specs.declared.data.Extent.{Extent}
use Rattle.mp4_remux.specs.declared.frame.Frame.{Frame}
use Rattle.mp4_remux.specs.declared.piece.Origin.TheVariants.{Kept, Made}
use Rattle.mp4_remux.specs.declared.piece.Piece.{Piece}
use Rattle.mp4_remux.specs.declared.top_level.TopBox.{TopBox}
use Rattle.mp4_remux.proofs.Fronting.{Pushes, none_follow}
use Rattle.mp4_remux.proofs.Stretching.{laid_more}

-- one stretch more after those of the first n
pub stretches_more : {X : Type 0} (f : X → Stretch) (xs : List X) (i : ℕ) (d : X) (A B C : List Stretch) → i < length xs
    → B ≡ A ++ filter has_bytes (map f (take i xs)) → C ≡ B ++ filter has_bytes (f (slice_index_or xs i d) ∷ [])
    → C ≡ A ++ filter has_bytes (map f (take (i + 1) xs))
stretches_more {X} f xs i d A B C lt upto more =
    let x : X = slice_index_or xs i d in
    more ∙ ap (λ (ss : List Stretch). ss ++ filter has_bytes (f x ∷ [])) upto
    ∙ append_assoc A (filter has_bytes (map f (take i xs))) (filter has_bytes (f x ∷ []))
    ∙ ap (λ (ss : List Stretch). A ++ ss) (sym (filter-append has_bytes (map f (take i xs)) (f x ∷ [])))
    ∙ ap (λ (ss : List Stretch). A ++ filter has_bytes ss) (sym (map_more f xs i d lt))

-- pieces of the file that lie between these places follow each other, and one more
pub follow_more : {X : Type 0} (from to : X → ℕ) (xs : List X) (i : ℕ) (d : X) (old mid new : List Piece)
    → i < length xs
    → ((source_len made_len before : ℕ) → All (λ x. to x ≤ source_len) xs
    → before + sum_by (λ x. to x - from x) xs < 2 ^ 64 → Follow source_len made_len 0 old before
    → Follow source_len made_len 0 mid (before + sum_by (λ x. to x - from x) (take i xs)))
    → ((source_len made_len stop : ℕ) → to (slice_index_or xs i d) ≤ of_origin Kept source_len made_len
    → stop + (to (slice_index_or xs i d) - from (slice_index_or xs i d)) < 2 ^ 64
    → Follow source_len made_len 0 mid stop
    → Follow source_len made_len 0 new (stop + (to (slice_index_or xs i d) - from (slice_index_or xs i d))))
    → (source_len made_len before : ℕ) → All (λ x. to x ≤ source_len) xs
    → before + sum_by (λ x. to x - from x) xs < 2 ^ 64 → Follow source_len made_len 0 old before
    → Follow source_len made_len 0 new (before + sum_by (λ x. to x - from x) (take (i + 1) xs))
follow_more {X} from to xs i d old mid new lt upto more source_len made_len before within small f =
    let len : X → ℕ = λ x. to x - from x in
    let x : X = slice_index_or xs i d in
    let fits = sum_by_more_le len xs i d lt in
    let all : before + sum_by len (take i xs) + len x ≡ before + sum_by len (take (i + 1) xs) =
    omega (arith, sum_by_more len xs i d lt) in
    subst (λ n. Follow source_len made_len 0 new n) all
    (more source_len made_len (before + sum_by len (take i xs)) (within i d lt) (omega (arith, fits, small))
    (upto source_len made_len before within small f))

-- THE PIECES OF A REBUILT FILE

sum_by_mapped : {X : Type 0} (f : X → Stretch) (xs : List X)
    → sum_by stretch_len (map f xs) ≡ sum_by (λ x. stretch_len (f x)) xs
sum_by_mapped {X} f [] = refl
sum_by_mapped {X} f (x ∷ xs) =
    sum_by-cons stretch_len (f x) (map f xs) ∙ ap (λ n. stretch_len (f x) + n) (sum_by_mapped f xs)
    ∙ sym (sum_by-cons (λ y. stretch_len (f y)) x xs)

abbrev pub of_box : TopBox → Stretch
of_box b = kept_stretch b.place b.end

abbrev pub of_extent : Extent → Stretch
of_extent e = kept_stretch e.place e.end

pub rebuilt_laid : (frame : Frame) (movie_len made_len : ℕ) (extents : List Extent) (A B C D E F : List Stretch)
    → A ≡ [] → B ≡ A ++ filter has_bytes (kept_stretch frame.file_type.place frame.file_type.end ∷ [])
    → C ≡ B ++ filter has_bytes (made_stretch 0 movie_len ∷ [])
    → D ≡ C ++ filter has_bytes (map of_box frame.others.items)
    → E ≡ D ++ filter has_bytes (made_stretch movie_len made_len ∷ [])
    → F ≡ E ++ filter has_bytes (map of_extent extents)
    → F ≡ filter has_bytes (rebuilt_stretches frame movie_len made_len extents)
rebuilt_laid frame movie_len made_len extents A B C D E F none one two three four five =
    let a : Stretch = kept_stretch frame.file_type.place frame.file_type.end in
    let b : Stretch = made_stretch 0 movie_len in
    let c : Stretch = made_stretch movie_len made_len in
    let boxes : List Stretch = map of_box frame.others.items in
    laid_more ((a ∷ b ∷ boxes) ++ c ∷ []) (map of_extent extents)
    (laid_more (a ∷ b ∷ boxes) (c ∷ []) (laid_more (a ∷ b ∷ []) boxes
    (laid_more (a ∷ []) (b ∷ []) (laid_more [] (a ∷ []) none one) two) three) four) five
    ∙ ap (λ (ss : List Stretch). filter has_bytes ss)
    (append_assoc (a ∷ b ∷ boxes) (c ∷ []) (map of_extent extents))

-- how many bytes they have
rebuilt_len : (frame : Frame) (movie_len made_len : ℕ) (extents : List Extent)
    → sum_by stretch_len (rebuilt_stretches frame movie_len made_len extents)
    ≡ 0 + (frame.file_type.end - frame.file_type.place) + (movie_len - 0)
    + sum_by (λ (b : TopBox). b.end - b.place) frame.others.items + (made_len - movie_len) + data_len extents
rebuilt_len frame movie_len made_len extents =
    let a : Stretch = kept_stretch frame.file_type.place frame.file_type.end in
    let b : Stretch = made_stretch 0 movie_len in
    let c : Stretch = made_stretch movie_len made_len in
    let boxes : List Stretch = map of_box frame.others.items in
    omega (
      arith,
      sum_by-append stretch_len (a ∷ b ∷ boxes) (c ∷ map of_extent extents),
      sum_by-cons stretch_len a (b ∷ boxes),
      sum_by-cons stretch_len b boxes,
      sum_by-cons stretch_len c (map of_extent extents),
      sum_by_mapped of_box frame.others.items,
      sum_by_mapped of_extent extents,
    )

-- where they are
pub rebuilt_follow : (frame : Frame) (movie_len made_len : ℕ) (extents : List Extent) (A B C D E F : List Piece)
    → A ≡ [] → Pushes A B Kept frame.file_type.place frame.file_type.end → Pushes B C Made 0 movie_len
    → ((source_len made_len before : ℕ) → All (λ (b : TopBox). b.end ≤ source_len) frame.others.items
    → before + sum_by (λ (b : TopBox). b.end - b.place) frame.others.items < 2 ^ 64
    → Follow source_len made_len 0 C before
    → Follow source_len made_len 0 D (before + sum_by (λ (b : TopBox). b.end - b.place) frame.others.items))
    → Pushes D E Made movie_len made_len
    → ((source_len made_len before : ℕ) → All (λ (e : Extent). e.end ≤ source_len) extents
    → before + data_len extents < 2 ^ 64 → Follow source_len made_len 0 E before
    → Follow source_len made_len 0 F (before + data_len extents))
    → (source_len : ℕ) → frame.file_type.end ≤ source_len
    → All (λ (b : TopBox). b.end ≤ source_len) frame.others.items → All (λ (e : Extent). e.end ≤ source_len) extents
    → movie_len ≤ made_len → sum_by stretch_len (rebuilt_stretches frame movie_len made_len extents) < 2 ^ 64
    → Follow source_len made_len 0 F (sum_by stretch_len (rebuilt_stretches frame movie_len made_len extents))
rebuilt_follow frame movie_len made_len extents A B C D E F none a b c d e source_len first boxes all shorter small =
    let len = rebuilt_len frame movie_len made_len extents in
    let few : 0 + (frame.file_type.end - frame.file_type.place) + (movie_len - 0)
    + sum_by (λ (b : TopBox). b.end - b.place) frame.others.items + (made_len - movie_len) + data_len extents
    < 2 ^ 64 = omega (arith, len, small) in
    subst (λ n. Follow source_len made_len 0 F n) (sym len)
    (e source_len made_len _ all few
    (d source_len made_len _ (omega arith) (omega (arith, few))
    (c source_len made_len _ boxes (omega (arith, few))
    (b source_len made_len _ shorter (omega (arith, few))
    (a source_len made_len 0 first (omega (arith, few)) (none_follow source_len made_len A none))))))
