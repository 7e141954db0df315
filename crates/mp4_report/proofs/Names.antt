-- Lists of names.
use Rattle.std.proofs.Common.{◌≡◌, ℕ, ◌+◌, ◌<◌, List, length, map, drop, get_or, cond, Bor, Some}
use Rattle.std.proofs.lemmas.List.{at_drop_more}
use Rattle.std.specs.Str.{bytes_eq}
use Rattle.mp4_report.specs.TagNames.{name_in}

-- a type and its name
abbrev pub pair_of : (List ℕ × Bor (List ℕ)) → List ℕ × List ℕ
pair_of pair = (pair.0, pair.1.now)

-- one pair more
pub names_more : (names : List (List ℕ × Bor (List ℕ))) (code : List ℕ) (i : ℕ) (d : List ℕ × Bor (List ℕ))
    → i < length names → name_in (map pair_of (drop i names)) code
    ≡ cond (bytes_eq (get_or names i d).0 code) (Some (get_or names i d).1.now)
    (name_in (map pair_of (drop (i + 1) names)) code)
names_more names code i d lt = at_drop_more (λ left. name_in (map pair_of left) code) names i d lt

pub ruleset name_steps = (names_more)
