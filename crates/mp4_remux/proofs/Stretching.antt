-- Pieces as the stretches that they are.
use Rattle.std.proofs.Common.{◌≡◌, ◌∙◌, ℕ, ◌+◌, ◌-◌, ◌≤◌, ◌<◌, ◌++◌, List, [], ◌∷◌}
use Rattle.std.proofs.Common.{refl, sym, ap, arith}
use Rattle.std.proofs.lemmas.Bool.{le-ltb, lt-ltb}
use Rattle.std.proofs.lemmas.List.{append-nil, map-append}
use Rattle.std.proofs.lemmas.List.Elements.{filter-append}
use Rattle.std.specs.List.{filter}
use Rattle.std.specs.Prelude.{map}
use Rattle.mp4_remux.specs.Splice.{Stretch, has_bytes, stretch_of}
use Rattle.mp4_remux.specs.declared.piece.Origin.{Origin}
use Rattle.mp4_remux.specs.declared.piece.Piece.{Piece}

-- one piece more is one stretch more
pub one_more : (ps : List Piece) (p : Piece) (origin : Origin) (place end : ℕ) → place < end → p.origin ≡ origin
    → p.place ≡ place → p.len ≡ end - place
    → map stretch_of (ps ++ p ∷ []) ≡ map stretch_of ps
    ++ filter has_bytes (record { origin = origin; place = place; end = end } ∷ [])
one_more ps p origin place end some is_origin is_place is_len =
    let ends : p.place + p.len ≡ end = omega (arith, some, is_place, is_len) in
    map-append stretch_of ps (p ∷ [])
    ∙ rw (lt-ltb place end some, ends, is_origin, is_place) refl

-- none is more where there are no bytes
pub none_more : (ps : List Piece) (origin : Origin) (place end : ℕ) → end ≤ place
    → map stretch_of ps ≡ map stretch_of ps
    ++ filter has_bytes (record { origin = origin; place = place; end = end } ∷ [])
none_more ps origin place end none = rw (le-ltb place end none) (sym (append-nil (map stretch_of ps)))

-- what is laid one after the other passes as each passes
pub laid_more : {A B : List Stretch} (xs ys : List Stretch) → A ≡ filter has_bytes xs
    → B ≡ A ++ filter has_bytes ys → B ≡ filter has_bytes (xs ++ ys)
laid_more xs ys is more = more ∙ ap (λ zs. zs ++ filter has_bytes ys) is ∙ sym (filter-append has_bytes xs ys)

-- five stretches, one laid after the other
pub five_laid : {A B C D E F : List Stretch} (a b c d e : Stretch) → A ≡ [] → B ≡ A ++ filter has_bytes (a ∷ [])
    → C ≡ B ++ filter has_bytes (b ∷ []) → D ≡ C ++ filter has_bytes (c ∷ []) → E ≡ D ++ filter has_bytes (d ∷ [])
    → F ≡ E ++ filter has_bytes (e ∷ []) → F ≡ filter has_bytes (a ∷ b ∷ c ∷ d ∷ e ∷ [])
five_laid a b c d e none one two three four five =
    laid_more (a ∷ b ∷ c ∷ d ∷ []) (e ∷ []) (laid_more (a ∷ b ∷ c ∷ []) (d ∷ [])
    (laid_more (a ∷ b ∷ []) (c ∷ []) (laid_more (a ∷ []) (b ∷ []) (laid_more [] (a ∷ []) none one) two) three) four)
    five

pub no_stretches : (ps : List Piece) → ps ≡ [] → map stretch_of ps ≡ []
no_stretches ps none = rw none refl
