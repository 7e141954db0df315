use Rattle.std.proofs.Common.{◌≡◌, ◌∙◌, length, ap, sym, arith, rules}
use Rattle.std.proofs.lemmas.Bool.{false≢true}
use Rattle.std.proofs.lemmas.Result.{err_from_is_err_and}
use Rattle.mp4_samples.specs.Places.{place_of}
use Rattle.mp4_media.proofs.file.Mp4File.read_sample.Goals as goal

pub returns-in_err-from_vec-clause-memory : goal.returns-in_err-from_vec-clause-memory
returns-in_err-from_vec-clause-memory g c =
    let p = err_from_is_err_and c.from_residual-in_err-from_vec.result c.from_residual-in_err-from_vec.ensures.1 in
    let placed = rw c.in-Some.is at c.in_ok-place.ensures.place in
    let size = rw c.in-Some.is at c.in_ok-place.ensures.size in
    let bytes : length c.read_sample_into.new.buffer.items ≡ c.in-Some.place.size =
    sym c.read_sample_into.new.buffer.ok.0 ∙ size in
    let some : length c.read_sample_into.new.buffer.items ≡ 0 → ⊥ =
    λ none. false≢true (c.in_err-from_vec.ensures.empty none) in
    rw (p.1, p.2) (λ memory. (place_of c.in-Some.place, placed, omega (arith, bytes, some)))

pub returns-clause-place : goal.returns-clause-place
returns-clause-place g c =
    let placed = rw c.in-Some.is at c.in_ok-place.ensures.place in
    let size = rw c.in-Some.is at c.in_ok-place.ensures.size in
    let bytes : length c.in_ok-from_vec.field-0 ≡ c.in-Some.place.size =
    ap length c.in_ok-from_vec.ensures.ok ∙ sym c.read_sample_into.new.buffer.ok.0 ∙ size in
    (c.in-Some.place.offset, rw bytes (search rules))
