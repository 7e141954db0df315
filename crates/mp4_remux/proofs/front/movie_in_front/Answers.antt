use Rattle.std.proofs.Common.{◌∙◌, Err, ap}
use Rattle.std.proofs.lemmas.Result.{err_from_is_err_and}
use Rattle.mp4_codec.specs.declared.error.Error.{Error}
use Rattle.mp4_remux.specs.Moved.{place_in_front}
use Rattle.mp4_remux.proofs.Planning.{is_by}
use Rattle.mp4_remux.proofs.front.movie_in_front.Goals as goal

pub returns-in_err-made-clause-refused : goal.returns-in_err-made-clause-refused
returns-in_err-made-clause-refused c =
    let p = err_from_is_err_and c.from_residual-in_err-made.result c.from_residual-in_err-made.ensures.1 in
    rw (p.1 ∙ ap (λ (e : Error). Err e) p.2)
    (c.in_err-made.ensures.large (place_in_front c.args.file_type c.args.movie c.in_ok-movie_len.movie_len)
    (is_by c.args.file_type c.args.movie c.in_ok-movie_len.movie_len) c.of_offsets-edit.ensures)

pub returns-then-len-movie_len-clause-len : goal.returns-then-len-movie_len-clause-len
returns-then-len-movie_len-clause-len c =
    c.in_ok-made.ensures.len (place_in_front c.args.file_type c.args.movie c.in_ok-movie_len.movie_len)
    (is_by c.args.file_type c.args.movie c.in_ok-movie_len.movie_len) c.of_offsets-edit.ensures
