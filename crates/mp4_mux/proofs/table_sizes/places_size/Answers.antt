use Rattle.std.proofs.Common.{◌++◌, map, sym, arith}
use Rattle.std.specs.Option.{option_to_list}
use Rattle.std.proofs.lemmas.List.{length-map}
use Rattle.mp4_mux.specs.declared.chunk_place.ChunkPlace.{ChunkPlace}
use Rattle.mp4_mux.proofs.TableSizes.{size_of_stco, size_of_co64}
use Rattle.mp4_mux.proofs.table_sizes.places_size.Goals as goal

pub returns-then-any_is_far-clause-value : goal.returns-then-any_is_far-clause-value
returns-then-any_is_far-clause-value c =
    let chunks = c.args.chunks.now ++ option_to_list c.args.last.now in
    omega (
      arith,
      c.chunk_count-count.ensures,
      length-map chunks (λ (p : ChunkPlace). p.offset),
      size_of_co64 (map (λ p. p.offset) chunks) (sym c.if-any_is_far.ensures),
    )

pub returns-clause-value : goal.returns-clause-value
returns-clause-value c =
    let chunks = c.args.chunks.now ++ option_to_list c.args.last.now in
    omega (
      arith,
      c.chunk_count-count.ensures,
      length-map chunks (λ (p : ChunkPlace). p.offset),
      size_of_stco (map (λ p. p.offset) chunks) (sym c.if-any_is_far.ensures),
    )
