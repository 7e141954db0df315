use Rattle.std.proofs.Common.{◌≡◌, ◌∙◌, length, Err, ap, arith, refl, subst}
use Rattle.std.proofs.lemmas.Result.{err_from_is_err_and}
use Rattle.mp4_codec.specs.declared.error.Error.{Error}
use Rattle.mp4_remux.specs.Moved.{place_in_front}
use Rattle.mp4_remux.proofs.Planning.{IsLeast, grows, is_by, least_still}
use Rattle.mp4_remux.proofs.front.movie_by_rounds.Goals as goal

pub returns-in_err-made-clause-refused : goal.returns-in_err-made-clause-refused
returns-in_err-made-clause-refused c =
    let p = err_from_is_err_and c.from_residual.result c.from_residual.ensures.1 in
    rw (p.1 ∙ ap (λ (e : Error). Err e) p.2)
    (c.in_err-made.ensures.large (place_in_front c.args.file_type c.args.movie c.loop-edit.movie_len)
    (is_by c.args.file_type c.args.movie c.loop-edit.movie_len) c.loop-edit.invariant.of_offsets)

pub loop-edit-smaller : goal.loop-edit-smaller
loop-edit-smaller c =
    let to = place_in_front c.args.file_type c.args.movie c.loop-edit.movie_len in
    let by = is_by c.args.file_type c.args.movie c.loop-edit.movie_len in
    let moved = c.in_ok-made.ensures.moved to by c.loop-edit.invariant.of_offsets in
    let long = c.in_ok-made.ensures.len to by c.loop-edit.invariant.of_offsets in
    let more = grows c.args.file_type c.args.movie c.args.movie_bytes.now c.in_ok-made.made.items c.loop-edit.movie_len
    c.loop-edit.invariant.least moved long in
    omega (arith, more, long.1, c.len.ensures, c.len-movie_len.ensures, c.if-len-movie_len.false)

pub loop-edit-preserved : goal.loop-edit-preserved
loop-edit-preserved c =
    let to = place_in_front c.args.file_type c.args.movie c.loop-edit.movie_len in
    let by = is_by c.args.file_type c.args.movie c.loop-edit.movie_len in
    let moved = c.in_ok-made.ensures.moved to by c.loop-edit.invariant.of_offsets in
    let long = c.in_ok-made.ensures.len to by c.loop-edit.invariant.of_offsets in
    let more = grows c.args.file_type c.args.movie c.args.movie_bytes.now c.in_ok-made.made.items c.loop-edit.movie_len
    c.loop-edit.invariant.least moved long in
    let many : length c.in_ok-made.made.items ≡ c.len-movie_len.result = omega (arith, c.len-movie_len.ensures) in
    record {
      bytes = refl;
      file_type = refl;
      movie = refl;
      of_offsets = c.loop-edit.invariant.of_offsets;
      least = subst (λ n. IsLeast c.args.file_type c.args.movie c.args.movie_bytes.now n) many
          (least_still c.args.file_type c.args.movie c.args.movie_bytes.now c.in_ok-made.made.items
          c.loop-edit.movie_len more moved);
      most = omega (arith, long.1, c.len-movie_len.ensures);
    }
