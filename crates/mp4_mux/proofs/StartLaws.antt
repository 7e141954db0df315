-- The beginning of a movie, and of one without tracks the end.
use Rattle.std.proofs.Common.{◌≡◌, ℕ, ◌*◌, ◌^◌, ◌≤◌, List, [], length, None, refl, arith}
use Rattle.std.specs.List.{flat_map}
use Rattle.mp4_codec.specs.Bytes.{four_cc}
use Rattle.mp4_codec.specs.FieldLaws.{length-four_cc}
use Rattle.mp4_codec.specs.Boxes.{size_around}
use Rattle.mp4_codec.specs.WriteLaws.{size_cause-none}
use Rattle.mp4_codec.specs.ListLaws.{length-flat_map-same}
use Rattle.mp4_leaf.specs.Ftyp.{ftyp_payload, IsCanonicalFtyp}
use Rattle.mp4_leaf.specs.FtypLaws.{length-ftyp_payload}
use Rattle.mp4_boxes.specs.Moov.{moov_payload}
use Rattle.mp4_mux.specs.declared.config.Mp4Config.{Mp4Config}
use Rattle.mp4_mux.specs.Config.{IsInRangeConfig}
use Rattle.mp4_mux.specs.FinishedTrack.{movie_for}
use Rattle.mp4_mux.proofs.MovieLaws.{length-movie_for}
use Rattle.mp4_mux.specs.Chunks.{last_chunks}
use Rattle.mp4_mux.specs.Writing.{file_type_of, started, start_cause, end_cause, accepted_from, finished_from}

-- the file type with which a movie is begun reads back equal
pub file_type-canonical : (config : Mp4Config) → IsInRangeConfig config → start_cause config ≡ None
    → IsCanonicalFtyp (file_type_of config)
file_type-canonical config h begun = record {
  in_range =
      record { major_brand = h.major_brand; minor_version = h.minor_version; compatible_brands = h.compatible_brands };
  well_formed = tt;
  written = rw begun refl;
}

-- a movie of no more than 16 million brands is begun
pub start_cause-few : (config : Mp4Config) → length config.compatible_brands ≤ 2 ^ 24 → start_cause config ≡ None
start_cause-few config few =
    let brands : length (flat_map four_cc config.compatible_brands) ≡ length config.compatible_brands * 4 =
    length-flat_map-same four_cc 4 length-four_cc config.compatible_brands in
    let payload = ftyp_payload (file_type_of config) in
    size_cause-none payload (size_around payload) refl
    (omega (arith, length-ftyp_payload (file_type_of config), brands, few))

-- a movie without tracks is ended
pub end_cause-started : (front : List ℕ) (config : Mp4Config) → end_cause (started front config) ≡ None
unfolding end_cause accepted_from finished_from last_chunks
end_cause-started front config =
    let payload = moov_payload (movie_for config.timescale []) in
    size_cause-none payload (size_around payload) refl (omega (arith, length-movie_for config.timescale []))
