-- Samples that are one after the other in bytes.
use Rattle.std.proofs.Common.{◌≡◌, ℕ, zero, suc, ◌+◌, ◌*◌, ◌/◌, ◌^◌, ◌<◌, ◌≤◌, ◌-◌, List, [], ◌∷◌, ◌++◌, length, take}
use Rattle.std.proofs.Common.{drop}
use Rattle.std.proofs.Common.{append_assoc, map, refl, sym, ap, ap₂, ◌∙◌, arith}
use Rattle.std.specs.List.{sum_by, AllByRecursion}
use Rattle.std.proofs.lemmas.List.{length-append, length-drop, take-append-le, drop-append-le, nil_from_length}
use Rattle.std.proofs.lemmas.List.{take-append-drop, take_at, drop_at}
use Rattle.std.proofs.lemmas.List.Sums.{sum_by-cons, sum_by-append}
use Rattle.mp4_samples.specs.Samples.{Sample}
use Rattle.mp4_mux.specs.SampleInfos.{IsInRangeSampleInfo}
use Rattle.mp4_mux.specs.declared.sample_info.SampleInfo.{SampleInfo}
use Rattle.mp4_mux.specs.TrackHeaders.{media_duration, movie_duration}
use Rattle.mp4_mux.specs.Chunks.{sample_bytes}
use Rattle.mp4_mux.specs.Writing.{info_of}
use Rattle.mp4_mux.specs.Building.{sample_at, samples_in}

pub sum_by-push : {X : Type 0} (f : X → ℕ) (xs : List X) (x : X) → sum_by f (xs ++ x ∷ []) ≡ sum_by f xs + f x
sum_by-push f xs x = sum_by-append f xs (x ∷ []) ∙ omega (arith, sum_by-cons f x [])

pub media_duration-push : (is : List SampleInfo) (i : SampleInfo)
    → media_duration (is ++ i ∷ []) ≡ media_duration is + i.duration
unfolding media_duration
media_duration-push is i = sum_by-push (λ (s : SampleInfo). s.duration) is i

pub movie_duration-push : (m t : ℕ) (is : List SampleInfo) (i : SampleInfo)
    → movie_duration m t (is ++ i ∷ []) ≡ movie_duration m t is + i.duration * m / t
unfolding movie_duration
movie_duration-push m t is i = sum_by-push (λ (s : SampleInfo). s.duration * m / t) is i

-- a sum over the last members is at most that over all
pub sum_by-drop : {X : Type 0} (f : X → ℕ) (n : ℕ) (xs : List X) → sum_by f (drop n xs) ≤ sum_by f xs
sum_by-drop f zero xs = omega arith
sum_by-drop f (suc n) [] = omega arith
sum_by-drop f (suc n) (x ∷ xs) = omega (arith, sum_by-drop f n xs, sum_by-cons f x xs)

pub samples_in-push : (is : List SampleInfo) (bs : List ℕ) (i : SampleInfo) (b : List ℕ)
    → sum_by (λ (s : SampleInfo). s.size) is ≡ length bs → i.size ≡ length b
    → samples_in (is ++ i ∷ []) (bs ++ b) ≡ samples_in is bs ++ sample_at i b ∷ []
unfolding samples_in
samples_in-push [] [] i b h e = refl
samples_in-push [] (x ∷ bs) i b h e = absurd (omega arith)
samples_in-push (j ∷ is) bs i b h e =
    let whole = sum_by-cons (λ (s : SampleInfo). s.size) j is in
    let within : j.size ≤ length bs = omega (arith, whole) in
    let rest : sum_by (λ (s : SampleInfo). s.size) is ≡ length (drop j.size bs) =
    omega (arith, whole, length-drop j.size bs) in
    ap (λ (xs : List Sample). sample_at j (bs ++ b) ∷ xs)
    (ap (λ (xs : List ℕ). samples_in (is ++ i ∷ []) xs) (drop-append-le j.size bs b within)
    ∙ samples_in-push is (drop j.size bs) i b rest e)
    ∙ ap (λ (xs : List ℕ). record {
      bytes = xs;
      duration = j.duration;
      rendering_offset = j.rendering_offset;
      is_sync = j.is_sync;
    } ∷ (samples_in is (drop j.size bs) ++ sample_at i b ∷ []))
    (take-append-le j.size bs b within)

pub length-samples_in : (is : List SampleInfo) (bs : List ℕ) → length (samples_in is bs) ≡ length is
unfolding samples_in
length-samples_in [] bs = refl
length-samples_in (i ∷ is) bs = ap suc (length-samples_in is (drop i.size bs))

pub durations-samples_in : (is : List SampleInfo) (bs : List ℕ)
    → sum_by (λ (s : Sample). s.duration) (samples_in is bs) ≡ sum_by (λ (s : SampleInfo). s.duration) is
unfolding samples_in
durations-samples_in [] bs = refl
durations-samples_in (i ∷ is) bs =
    omega (
      arith,
      sum_by-cons (λ (s : Sample). s.duration) (sample_at i bs) (samples_in is (drop i.size bs)),
      sum_by-cons (λ (s : SampleInfo). s.duration) i is,
      durations-samples_in is (drop i.size bs),
    )

pub bytes-samples_in : (is : List SampleInfo) (bs : List ℕ) → sum_by (λ (s : SampleInfo). s.size) is ≡ length bs
    → sample_bytes (samples_in is bs) ≡ bs
unfolding samples_in
bytes-samples_in [] bs h = sym (nil_from_length bs (sym h))
bytes-samples_in (i ∷ is) bs h =
    let whole = sum_by-cons (λ (s : SampleInfo). s.size) i is in
    ap (λ (xs : List ℕ). take i.size bs ++ xs)
    (bytes-samples_in is (drop i.size bs) (omega (arith, whole, length-drop i.size bs)))
    ∙ take-append-drop i.size bs

-- samples are read again from what the tables say of them and their bytes, whatever follows
pub samples_again : (ss : List Sample) (more : List ℕ) → samples_in (map info_of ss) (sample_bytes ss ++ more) ≡ ss
unfolding samples_in
samples_again [] more = refl
samples_again (s ∷ ss) more =
    let grouped : (s.bytes ++ sample_bytes ss) ++ more ≡ s.bytes ++ (sample_bytes ss ++ more) =
    append_assoc s.bytes (sample_bytes ss) more in
    ap (λ (bs : List ℕ). samples_in (map info_of (s ∷ ss)) bs) grouped
    ∙ ap₂ (λ (x y : List ℕ). record {
      bytes = x;
      duration = s.duration;
      rendering_offset = s.rendering_offset;
      is_sync = s.is_sync;
    } ∷ samples_in (map info_of ss) y)
    (take_at s.bytes (sample_bytes ss ++ more) (length s.bytes) refl)
    (drop_at s.bytes (sample_bytes ss ++ more) (length s.bytes) refl)
    ∙ ap (λ (x : List Sample). s ∷ x) (samples_again ss more)

pub sizes-infos : (ss : List Sample) → sum_by (λ (s : SampleInfo). s.size) (map info_of ss) ≡ length (sample_bytes ss)
sizes-infos [] = refl
sizes-infos (s ∷ ss) =
    omega (
      arith,
      sum_by-cons (λ (i : SampleInfo). i.size) (info_of s) (map info_of ss),
      sizes-infos ss,
      length-append s.bytes (sample_bytes ss),
    )

-- durations of 32 bits have a sum of 64 bits
pub media_duration-small : (is : List SampleInfo) → AllByRecursion IsInRangeSampleInfo is
    → media_duration is ≤ length is * (2 ^ 32 - 1)
unfolding media_duration
media_duration-small [] h = omega arith
media_duration-small (i ∷ is) h =
    let small : i.duration < 2 ^ 32 = h.0.duration in
    omega (arith, sum_by-cons (λ (s : SampleInfo). s.duration) i is, media_duration-small is h.1)

pub all-push : {X : Type 0} (P : X → Type 0) (xs : List X) (x : X) → AllByRecursion P xs → P x
    → AllByRecursion P (xs ++ x ∷ [])
all-push P [] x h p = (p, tt)
all-push P (y ∷ ys) x h p = (h.0, all-push P ys x h.1 p)

pub all-init : {X : Type 0} (P : X → Type 0) (xs : List X) (x : X) → AllByRecursion P (xs ++ x ∷ [])
    → AllByRecursion P xs
all-init P [] x h = tt
all-init P (y ∷ ys) x h = (h.0, all-init P ys x h.1)
