-- What holds of the configuration of a track that is not refused.
use Rattle.std.proofs.Common.{◌≡◌, ◌^◌, ◌<◌, Bool, true, false, cond, eqb, Some, None, refl, arith}
use Rattle.std.proofs.lemmas.Bool.Decides.{nat_tests}
use Rattle.std.proofs.Common.{Option}
use Rattle.mp4_codec.specs.Cause.{Cause, zero_timescale, ◌or◌}
use Rattle.mp4_codec.specs.WriteLaws.{or_parts}
use Rattle.mp4_leaf.specs.Language.{language_refusal}
use Rattle.mp4_entry.specs.Config.{media_refusal, entry_length}
use Rattle.mp4_mux.specs.declared.config.TrackConfig.{TrackConfig}
use Rattle.mp4_mux.specs.Config.{config_cause}
use Rattle.mp4_mux.proofs.DescriptionLaws.{entry_length-small}

-- neither its language nor its media are refused
pub record IsAccepted (c : TrackConfig) : Type 0 where
  pub language : language_refusal c.language ≡ None
  pub media : media_refusal c.media_conf ≡ None

pub is_accepted : (c : TrackConfig) → config_cause c ≡ None → IsAccepted c
unfolding config_cause
is_accepted c e = chosen (eqb c.timescale 0) e
  where
    chosen : (b : Bool)
        → cond b (Some zero_timescale) (language_refusal c.language or media_refusal c.media_conf) ≡ None
        → IsAccepted c
    chosen true e = absurd cc
    chosen false e =
        let parts = or_parts (language_refusal c.language) (media_refusal c.media_conf) e in
        record { language = parts.0; media = parts.1 }

-- and its entry fits a box
pub entry_length-accepted : (c : TrackConfig) → config_cause c ≡ None → entry_length c.media_conf < 2 ^ 32
entry_length-accepted c e = entry_length-small c.media_conf (is_accepted c e).media

-- there are ticks
pub has_ticks : (c : TrackConfig) → config_cause c ≡ None → 0 < c.timescale
unfolding config_cause
has_ticks c e =
    let test : eqb c.timescale 0 ≡ false =
    chosen (eqb c.timescale 0) (language_refusal c.language or media_refusal c.media_conf) e in
    grind (arith, nat_tests, test)
  where
    chosen : (b : Bool) (later : Option Cause) → cond b (Some zero_timescale) later ≡ None → b ≡ false
    chosen true later e = absurd cc
    chosen false later e = refl
