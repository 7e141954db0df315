-- Numbering entries one after the other, as a loop does.
use Rattle.std.proofs.Common.{◌≡◌, ℕ, suc, ◌+◌, ◌<◌, ◌≤◌, Option, Some, List, [], ◌∷◌, ◌++◌, length, get_or, set}
use Rattle.std.proofs.Common.{take, drop, Result, Ok, Err, refl, sym, ap, ◌∙◌, append_assoc, arith, drop-cons}
use Rattle.std.proofs.Common.{add-one, take_all, drop_of_length-le}
use Rattle.std.proofs.lemmas.List.{append-nil, drop-set-lt}
use Rattle.std.proofs.Math.Seq.{take-suc-set}
use Rattle.mp4_codec.specs.Cause.{Cause, ◌>>=◌}
use Rattle.mp4_table.specs.declared.stsc.StscEntry.{StscEntry}
use Rattle.mp4_table.specs.Stsc.{with_first_sample, first_sample_after, numbered_after}

-- the entries that are numbered, and those that are still to be
abbrev pub with_front : List StscEntry → Result (List StscEntry) Cause → Result (List StscEntry) Cause
with_front front rest = rest >>= λ es. Ok (front ++ es)

regroup : (front : List StscEntry) (e : StscEntry) (r : Result (List StscEntry) Cause)
    → with_front front (r >>= λ es. Ok (e ∷ es)) ≡ with_front (front ++ e ∷ []) r
regroup front e (Ok es) = ap (λ (x : List StscEntry). Ok x) (simp append_assoc)
regroup front e (Err c) = refl

-- the next entry has its number
pub goes_on : (es : List StscEntry) (i n : ℕ) (before : Option StscEntry) (d : StscEntry)
    (total : Result (List StscEntry) Cause) → i < length es
    → first_sample_after before (get_or es i d).first_chunk ≡ Ok n
    → with_front (take i es) (numbered_after before (drop i es)) ≡ total
    → with_front (take (i + 1) (set es i (with_first_sample n (get_or es i d))))
    (numbered_after (Some (with_first_sample n (get_or es i d)))
    (drop (i + 1) (set es i (with_first_sample n (get_or es i d))))) ≡ total
unfolding numbered_after
goes_on es i n before d total lt h so_far =
    let e = with_first_sample n (get_or es i d) in
    let rest = numbered_after (Some e) (drop (suc i) es) in
    let one : with_front (take i es) (numbered_after before (drop i es)) ≡ with_front (take i es ++ e ∷ []) rest =
    rw (drop-cons es i d lt, h) (regroup (take i es) e rest) in
    rw (add-one i, take-suc-set es i e lt, drop-set-lt (suc i) es i e (omega arith)) (sym one ∙ so_far)

-- the next entry has none
pub stops : (c : Cause) (es : List StscEntry) (i : ℕ) (before : Option StscEntry) (d : StscEntry)
    (total : Result (List StscEntry) Cause) → i < length es
    → first_sample_after before (get_or es i d).first_chunk ≡ Err c
    → with_front (take i es) (numbered_after before (drop i es)) ≡ total → total ≡ Err c
unfolding numbered_after
stops c es i before d total lt h so_far =
    let one : with_front (take i es) (numbered_after before (drop i es)) ≡ Err c = rw (drop-cons es i d lt, h) refl in
    sym so_far ∙ one

pub is_done : (es : List StscEntry) (i : ℕ) (before : Option StscEntry) (total : Result (List StscEntry) Cause)
    → length es ≤ i → with_front (take i es) (numbered_after before (drop i es)) ≡ total → total ≡ Ok es
unfolding numbered_after
is_done es i before total le so_far =
    let one : with_front (take i es) (numbered_after before (drop i es)) ≡ Ok es =
    rw (take_all i es le, drop_of_length-le es {i = i} le) (ap (λ (x : List StscEntry). Ok x) (append-nil es)) in
    sym so_far ∙ one
