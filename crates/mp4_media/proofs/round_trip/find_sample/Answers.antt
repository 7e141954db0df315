use Rattle.std.proofs.Common.{◌≡◌, List, ℕ, sym, subst}
use Rattle.std.specs.Prelude.{option_map}
use Rattle.std.proofs.lemmas.Result.{err_from_is_err_and}
use Rattle.mp4_codec.specs.Cause.{Answers}
use Rattle.mp4_codec.specs.Steps.{ok_is}
use Rattle.mp4_boxes.specs.declared.trak.TrakBox.{TrakBox}
use Rattle.mp4_samples.specs.Plain.{Consistent}
use Rattle.mp4_samples.specs.Samples.{timed_sample, plain_sample_at}
use Rattle.mp4_samples.specs.Tables.{tables_of}
use Rattle.mp4_lookup.proofs.TrackLaws.{unfragmented_is_of_movie}
use Rattle.mp4_media.specs.FileBoxes.{opened_file}
use Rattle.mp4_media.specs.RoundTrip.{IsPlace}
use Rattle.mp4_media.proofs.ReadBack.{wanted_memory, found_track}
use Rattle.mp4_media.proofs.round_trip.find_sample.Goals as goal

pub returns-in_err-movie-clause-found : goal.returns-in_err-movie-clause-found
returns-in_err-movie-clause-found c = λ opened trak is plain.
    let p = err_from_is_err_and c.from_residual.result c.from_residual.ensures.1 in
    rw (p.1, p.2) (wanted_memory opened c.in_err-movie.field-0.0
    (c.in_err-movie.ensures.opening.opens opened (rw (c.set_position.ensures, c.new-file.ensures) is)))

pub returns-clause-found : goal.returns-clause-found
returns-clause-found c = λ opened trak is plain.
    let movie = c.in_ok-movie.movie in
    let query = c.args.query.now in
    let same : opened ≡ opened_file movie =
    ok_is opened (opened_file movie)
    (c.in_ok-movie.ensures.opening.opens opened (rw (c.set_position.ensures, c.new-file.ensures) is)) in
    let t = found_track movie c.in_ok-movie.ensures.opening.tracks opened same query.track_id trak plain in
    let fits : Consistent (tables_of t.track.trak) =
    subst (λ (b : TrakBox). Consistent (tables_of b)) (sym t.box) plain.consistent in
    let of_movie = unfragmented_is_of_movie t.track.trak t.track.trafs query.number t.unfragmented in
    let bytes : movie.bytes.now ≡ query.bytes.now =
    rw (c.set_position.ensures, c.new-file.ensures) at c.in_ok-movie.ensures.opening.bytes in
    record {
      place = subst (λ (b : TrakBox). IsPlace (tables_of b) query.number c.place_in-place.result) t.box
          (c.place_in-place.ensures.plain t.track t.is_there of_movie fits);
      sample = subst (λ (file : List ℕ). Answers (λ s. option_map timed_sample s) c.read_sample-sample.result
          (plain_sample_at file (tables_of trak) query.number)) bytes
          (subst (λ (b : TrakBox). Answers (λ s. option_map timed_sample s) c.read_sample-sample.result
          (plain_sample_at movie.bytes.now (tables_of b) query.number)) t.box
          (c.read_sample-sample.ensures.plain t.track t.is_there of_movie fits));
    }

pub returns-in_err-movie-clause-opened : goal.returns-in_err-movie-clause-opened
returns-in_err-movie-clause-opened c =
    let p = err_from_is_err_and c.from_residual.result c.from_residual.ensures.1 in
    let opening = rw (c.set_position.ensures, c.new-file.ensures) at c.in_err-movie.ensures.opening in
    rw (p.1, p.2) (record {
      file = tt;
      opens = opening.opens;
      fault = opening.fault;
      refused = opening.refused;
      bytes = tt;
      tracks = tt;
    })

pub returns-clause-opened : goal.returns-clause-opened
returns-clause-opened c =
    let opening = rw (c.set_position.ensures, c.new-file.ensures) at c.in_ok-movie.ensures.opening in
    rw c.read_sample-sample.ensures.same (record {
      file = opening.file;
      opens = opening.opens;
      fault = tt;
      refused = opening.refused;
      bytes = opening.bytes;
      tracks = opening.tracks;
    })
