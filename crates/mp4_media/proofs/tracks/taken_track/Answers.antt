use Rattle.std.proofs.Common.{ap, ap₂, sym, ◌∙◌}
use Rattle.std.specs.Prelude.{length, unwrap_or}
use Rattle.mp4_media.proofs.tracks.taken_track.Goals as goal

pub track_with-requires-clause-base_data_offsets : goal.track_with-requires-clause-base_data_offsets
track_with-requires-clause-base_data_offsets c =
    ap length c.base_data_offsets_with_id.ensures ∙ c.requires.base_data_offsets
    ∙ sym (ap length (c.unwrap_or-trafs.ensures ∙ ap₂ unwrap_or c.remove.ensures.value c.new.ensures))
