-- Tracks and samples that are written one after the other.
use Rattle.std.proofs.Common.{◌≡◌, ℕ, ◌+◌, ◌<◌, ◌≤◌, List, [], ◌∷◌, ◌++◌, length, take, get_or, None, refl, ap}
use Rattle.std.proofs.Common.{◌∙◌, sym, add-one, arith}
use Rattle.std.proofs.Math.Seq.{take-suc}
use Rattle.std.proofs.lemmas.Grind.{common_steps}
use Rattle.mp4_mux.specs.Writing.{WriterState, track_cause, with_sample, with_track}
use Rattle.mp4_c.specs.declared.configs.NewTrack.{NewTrack}
use Rattle.mp4_c.specs.declared.samples.SampleRow.{SampleRow}
use Rattle.mp4_c.specs.Written.{AreWritten, HasTrack, HasTracks, sample_fault, sample_in, with_rows}

-- a row more
rows_last : (source : List ℕ) (st : WriterState) (rows : List SampleRow) (row : SampleRow)
    → with_rows source st (rows ++ row ∷ [])
    ≡ with_sample (with_rows source st rows) row.track_id (sample_in source row)
unfolding with_rows
rows_last source st [] row = refl
rows_last source st (r ∷ rs) row = rows_last source (with_sample st r.track_id (sample_in source r)) rs row

pub no_rows : (source : List ℕ) (st : WriterState) (rows : List SampleRow) → st ≡ with_rows source st (take 0 rows)
unfolding with_rows
no_rows source st rows = refl

pub rows_next : (source : List ℕ) (begun st new : WriterState) (rows : List SampleRow) (k : ℕ) (d : SampleRow)
    → k < length rows → st ≡ with_rows source begun (take k rows)
    → new ≡ with_sample st (get_or rows k d).track_id (sample_in source (get_or rows k d))
    → new ≡ with_rows source begun (take (k + 1) rows)
rows_next source begun st new rows k d here so_far next =
    let row = get_or rows k d in
    let one : take (k + 1) rows ≡ take k rows ++ row ∷ [] =
    ap (λ n. take n rows) (add-one k) ∙ take-suc rows k d here in
    next
    ∙ ap (λ w. with_sample w row.track_id (sample_in source row)) so_far
    ∙ sym (rows_last source begun (take k rows) row)
    ∙ ap (with_rows source begun) (sym one)

pub all_rows : (source : List ℕ) (begun st : WriterState) (rows : List SampleRow) (k : ℕ) → length rows ≤ k
    → st ≡ with_rows source begun (take k rows) → st ≡ with_rows source begun rows
all_rows source begun st rows k end so_far =
    let all : take k rows ≡ rows = grind (arith, common_steps) in
    so_far ∙ ap (with_rows source begun) all

-- one row more isn't refused
written_last : (source : List ℕ) (st : WriterState) (rows : List SampleRow) (row : SampleRow)
    → AreWritten source st rows → sample_fault source (with_rows source st rows) row ≡ None
    → AreWritten source st (rows ++ row ∷ [])
unfolding AreWritten with_rows
written_last source st [] row so_far accepted = (accepted, tt)
written_last source st (r ∷ rs) row so_far accepted =
    (so_far.0, written_last source (with_sample st r.track_id (sample_in source r)) rs row so_far.1 accepted)

pub none_written : (source : List ℕ) (st : WriterState) (rows : List SampleRow) → AreWritten source st (take 0 rows)
unfolding AreWritten
none_written source st rows = tt

pub written_next : (source : List ℕ) (begun : WriterState) (rows : List SampleRow) (k : ℕ) (d : SampleRow)
    → k < length rows → AreWritten source begun (take k rows)
    → sample_fault source (with_rows source begun (take k rows)) (get_or rows k d) ≡ None
    → AreWritten source begun (take (k + 1) rows)
written_next source begun rows k d here so_far accepted =
    let row = get_or rows k d in
    let one : take (k + 1) rows ≡ take k rows ++ row ∷ [] =
    ap (λ n. take n rows) (add-one k) ∙ take-suc rows k d here in
    rw one (written_last source begun (take k rows) row so_far accepted)

pub all_written : (source : List ℕ) (begun : WriterState) (rows : List SampleRow) (k : ℕ) → length rows ≤ k
    → AreWritten source begun (take k rows) → AreWritten source begun rows
all_written source begun rows k end so_far =
    let all : take k rows ≡ rows = grind (arith, common_steps) in
    rw all at so_far

-- a track more
track_last : (source : List ℕ) (rows : List NewTrack) (row : NewTrack) (begun st new : WriterState)
    → HasTracks source rows begun st → HasTrack source row st new → HasTracks source (rows ++ row ∷ []) begun new
unfolding HasTracks
track_last source [] row begun st new has more =
    let accepted = sym (ap (λ w. track_cause w more.0) has) ∙ more.2 in
    (new, (more.0, more.1, accepted, more.3 ∙ ap (λ w. with_track w more.0) has), refl)
track_last source (r ∷ rs) row begun st new (next, first, rest) more =
    (next, first, track_last source rs row next st new rest more)

pub no_tracks : (source : List ℕ) (rows : List NewTrack) (st : WriterState) → HasTracks source (take 0 rows) st st
unfolding HasTracks
no_tracks source rows st = refl

pub tracks_next : (source : List ℕ) (rows : List NewTrack) (begun st new : WriterState) (k : ℕ) (d : NewTrack)
    → k < length rows → HasTracks source (take k rows) begun st → HasTrack source (get_or rows k d) st new
    → HasTracks source (take (k + 1) rows) begun new
tracks_next source rows begun st new k d here has more =
    let one : take (k + 1) rows ≡ take k rows ++ get_or rows k d ∷ [] = grind (arith, common_steps) in
    rw one (track_last source (take k rows) (get_or rows k d) begun st new has more)

pub all_tracks : (source : List ℕ) (rows : List NewTrack) (begun st : WriterState) (k : ℕ) → length rows ≤ k
    → HasTracks source (take k rows) begun st → HasTracks source rows begun st
all_tracks source rows begun st k end has =
    let all : take k rows ≡ rows = grind (arith, common_steps) in
    rw all at has
