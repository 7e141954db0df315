use Rattle.std.proofs.Common.{ℕ, ◌/◌, ◌≤◌, refl, sym, ap, ◌∙◌, arith}
use Rattle.std.proofs.Math.Nat.{zero-div, zero-mul}
use Rattle.std.proofs.lemmas.List.Elements.{All-nil}
use Rattle.mp4_mux.specs.declared.chunk_place.ChunkPlace.{ChunkPlace}
use Rattle.mp4_mux.specs.TrackHeaders.{media_duration, movie_duration}
use Rattle.mp4_mux.specs.Building.{samples_in}
use Rattle.mp4_mux.proofs.ConfigLaws.{has_ticks}
use Rattle.mp4_mux.proofs.track_writer.TrackWriter.new.Goals as goal

pub invariant_of-result : goal.invariant_of-result
unfolding media_duration movie_duration
invariant_of-result c = rw (c.new.ensures, c.new-2.ensures.items, c.new-3.ensures.items) record {
  accepted = c.requires;
  clock = has_ticks c.args.config c.requires;
  within = omega arith;
  sizes = refl;
  pending_sum = refl;
  in_range = tt;
  count = omega arith;
  media = refl;
  movie = refl;
  fits = omega arith;
  converted = sym (ap (λ (n : ℕ). n / c.args.config.timescale) (zero-mul c.args.movie_timescale)
      ∙ zero-div c.args.config.timescale);
  few = omega arith;
  counted = refl;
  some_per_chunk = All-nil (λ (x : ChunkPlace). 1 ≤ x.count);
}

pub returns : goal.returns
unfolding samples_in
returns c = rw (c.new.ensures, c.new-2.ensures.items) refl
