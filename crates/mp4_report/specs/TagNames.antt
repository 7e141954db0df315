-- The names of metadata, by the types of its boxes.
use Rattle.std.specs.Prelude.{ℕ, List, [], ◌∷◌, codes, Option}
use Rattle.std.specs.Map.{lookup}
use Rattle.std.specs.Str.{bytes_eq}
use Rattle.mp4_codec.specs.declared.four_cc.FourCC.{FourCC}

-- the name that a list of types and names has for a type first
abbrev pub name_in : List (List ℕ × List ℕ) → List ℕ → Option (List ℕ)
name_in names code = lookup (λ named. bytes_eq named code) names

-- the types of boxes that have names, and these
unfoldable pub names : List (List ℕ × List ℕ)
names =
    (codes "©nam", codes "title") ∷ (codes "©ART", codes "artist") ∷ (codes "aART", codes "album_artist") ∷
    (codes "©alb", codes "album") ∷ (codes "©day", codes "date") ∷ (codes "©cmt", codes "comment") ∷
    (codes "©gen", codes "genre") ∷ (codes "gnre", codes "genre") ∷ (codes "©too", codes "tool") ∷
    (codes "©swr", codes "tool") ∷ (codes "©enc", codes "encoded_by") ∷ (codes "©wrt", codes "composer") ∷
    (codes "©com", codes "composer") ∷ (codes "©lyr", codes "lyrics") ∷ (codes "©grp", codes "grouping") ∷
    (codes "©dir", codes "director") ∷ (codes "©prd", codes "producer") ∷ (codes "©prf", codes "performers") ∷
    (codes "©cpy", codes "copyright") ∷ (codes "cprt", codes "copyright") ∷ (codes "©des", codes "description") ∷
    (codes "desc", codes "description") ∷ (codes "ldes", codes "long_description") ∷
    (codes "©inf", codes "information") ∷ (codes "©key", codes "keywords") ∷ (codes "©mak", codes "make") ∷
    (codes "©mod", codes "model") ∷ (codes "©xyz", codes "location") ∷ (codes "©loc", codes "location") ∷
    (codes "trkn", codes "track") ∷ (codes "disk", codes "disc") ∷ (codes "tmpo", codes "tempo") ∷
    (codes "cpil", codes "compilation") ∷ (codes "tvsh", codes "show") ∷ (codes "tvsn", codes "season") ∷
    (codes "tves", codes "episode") ∷ (codes "tven", codes "episode_id") ∷ (codes "tvnn", codes "network") ∷
    (codes "rtng", codes "rating") ∷ (codes "stik", codes "media_kind") ∷ []

-- the name of what a box of a type says, if the type has one
abbrev pub name_of : FourCC → Option (List ℕ)
name_of code = name_in names code.value
