use Rattle.std.proofs.Common.{◌≡◌, ◌==◌, drop}
use Rattle.std.specs.Prelude.{option_map, unwrap_or}
use Rattle.std.specs.List.{filter}
use Rattle.mp4_codec.specs.Children.{last}
use Rattle.mp4_moof.specs.declared.trex.TrexBox.{TrexBox}
use Rattle.mp4_remux.proofs.descriptions.default_description.Given as goal

-- what the defaults that come next say, and what those before them say where these say nothing
abbrev pub invariant-loop-trex : goal.invariant-loop-trex
invariant-loop-trex l =
    unwrap_or (option_map (λ (x : TrexBox). x.default_sample_description_index)
    (last (filter (λ (x : TrexBox). x.track_id == l.track_id) (drop l.trex-index l.trex-items)))) l.description
    ≡ unwrap_or (option_map (λ (x : TrexBox). x.default_sample_description_index)
    (last (filter (λ (x : TrexBox). x.track_id == l.track_id) l.trex-items))) 1
