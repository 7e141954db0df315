-- The tracks of a movie as they are finished, one after the other.
use Rattle.std.proofs.Common.{◌≡◌, ℕ, zero, suc, ◌+◌, ◌<◌, ◌≤◌, List, [], ◌∷◌, ◌++◌, length, get_or, take, map, refl}
use Rattle.std.proofs.Common.{ap, ◌∙◌, arith}
use Rattle.std.specs.List.{All}
use Rattle.std.proofs.lemmas.List.{length-append, append-nil}
use Rattle.std.proofs.lemmas.List.Elements.{All-head, All-tail}
use Rattle.std.proofs.lemmas.List.{take_more}
use Rattle.std.proofs.lemmas.List.Concat.{flat_map-append}
use Rattle.std.proofs.Common.{true, false, cond, ltb, ◌^◌, ◌-◌}
use Rattle.mp4_mux.specs.TrackHeaders.{FinishedTrack, track_duration, movie_duration, header_length}
use Rattle.mp4_mux.specs.Chunks.{sample_bytes}
use Rattle.mp4_mux.specs.Building.{Building}
use Rattle.mp4_mux.specs.Parts.{unwritten, finished_building, finished_buildings}

pub length-finished : (id place : ℕ) (bs : List Building) → length (finished_buildings id place bs) ≡ length bs
unfolding finished_buildings
length-finished id place [] = refl
length-finished id place (b ∷ bs) = ap suc (length-finished (id + 1) (place + length (sample_bytes b.pending)) bs)

-- the track at an index: what is pending of it lies after what is pending of those before it
pub get_or-finished : (id place i : ℕ) (bs : List Building) (d : FinishedTrack) (e : Building) → i < length bs
    → get_or (finished_buildings id place bs) i d
    ≡ finished_building (id + i) (place + length (unwritten (take i bs))) (get_or bs i e)
unfolding finished_buildings unwritten
get_or-finished id place i [] d e l = absurd (omega arith)
get_or-finished id place zero (b ∷ bs) d e l =
    let at : id ≡ id + 0 = omega arith in
    let here : place ≡ place + 0 = omega arith in
    ap (λ n. finished_building n place b) at ∙ ap (λ n. finished_building (id + 0) n b) here
get_or-finished id place (suc i) (b ∷ bs) d e l =
    let next = place + length (sample_bytes b.pending) in
    let at : (id + 1) + i ≡ id + suc i = omega arith in
    let same_place : next + length (unwritten (take i bs)) ≡ place + length (unwritten (take (suc i) (b ∷ bs))) =
    omega (arith, length-append (sample_bytes b.pending) (unwritten (take i bs))) in
    get_or-finished (id + 1) next i bs d e (omega arith)
    ∙ ap (λ n. finished_building n (next + length (unwritten (take i bs))) (get_or bs i e)) at
    ∙ ap (λ n. finished_building (id + suc i) n (get_or bs i e)) same_place

-- the tracks last as long as what is kept of them
pub durations-finished : (timescale id place : ℕ) (bs : List Building)
    → All (λ (b : Building). b.movie_timescale ≡ timescale) bs
    → map (λ (b : Building). movie_duration b.movie_timescale b.config.timescale b.samples) bs
    ≡ map (track_duration timescale) (finished_buildings id place bs)
unfolding finished_buildings
durations-finished timescale id place [] h = refl
durations-finished timescale id place (b ∷ bs) h =
    let P = λ (x : Building). x.movie_timescale ≡ timescale in
    let rest = durations-finished timescale (id + 1) (place + length (sample_bytes b.pending)) bs (All-tail P b bs h) in
    ap (λ m. movie_duration m b.config.timescale b.samples
    ∷ map (λ (x : Building). movie_duration x.movie_timescale x.config.timescale x.samples) bs) (All-head P b bs h)
    ∙ ap (λ (ns : List ℕ). movie_duration timescale b.config.timescale b.samples ∷ ns) rest

-- what is pending of one more track
pub unwritten-more : (bs : List Building) (i : ℕ) (e : Building) → i < length bs
    → unwritten (take (i + 1) bs) ≡ unwritten (take i bs) ++ sample_bytes (get_or bs i e).pending
unfolding unwritten
unwritten-more bs i e l =
    ap unwritten (take_more bs i e l)
    ∙ flat_map-append (λ (b : Building). sample_bytes b.pending) (take i bs) (get_or bs i e ∷ [])
    ∙ ap (λ (xs : List ℕ). unwritten (take i bs) ++ xs) (append-nil (sample_bytes (get_or bs i e).pending))

-- what is pending of the first tracks is no longer than what is pending of all
pub unwritten-take_le : (i : ℕ) (bs : List Building) → length (unwritten (take i bs)) ≤ length (unwritten bs)
unfolding unwritten
unwritten-take_le zero bs = omega arith
unwritten-take_le (suc i) [] = omega arith
unwritten-take_le (suc i) (b ∷ bs) =
    omega (
      arith,
      unwritten-take_le i bs,
      length-append (sample_bytes b.pending) (unwritten (take i bs)),
      length-append (sample_bytes b.pending) (unwritten bs),
    )

-- a header is short
pub header-small : (duration : ℕ) → header_length 108 duration ≤ 120
header-small duration =
    elim (ltb (2 ^ 32 - 1) duration) as (λ v. cond v (108 + 12) 108 ≤ 120) [ true ↦ omega arith | false ↦ omega arith ]
