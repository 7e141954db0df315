-- The tables that are made of a track are whole boxes, which may be others where all tables are made.
use Rattle.std.proofs.Common.{◌≡◌, ℕ, ◌^◌, ◌<◌, List, length, Option, None, Some, refl, lit<}
use Rattle.std.specs.Prelude.{slice_get}
use Rattle.mp4_codec.specs.BoxType.{box_type}
use Rattle.mp4_codec.specs.Boxes.{optional}
use Rattle.mp4_codec.specs.Framing.{IsEncodable}
use Rattle.mp4_codec.specs.declared.box_type.BoxType.{BoxType}
use Rattle.mp4_codec.specs.declared.box_type.BoxType.TheVariants.{CttsBox, StscBox, StssBox, StszBox, SttsBox}
use Rattle.mp4_mux.specs.declared.sample_info.SampleInfo.{SampleInfo}
use Rattle.mp4_table.specs.Ctts.{ctts_payload}
use Rattle.mp4_table.specs.Stss.{stss_payload}
use Rattle.mp4_remux.specs.Kept.{IsAmong, of_tables}
use Rattle.mp4_remux.specs.TrackTables.{ctts_bytes, signed_ctts_for, some_stss_for, stsc_bytes, stss_bytes, stsz_bytes}
use Rattle.mp4_remux.specs.TrackTables.{stts_bytes, tables, tables_bytes}
use Rattle.mp4_remux.specs.declared.chunks.Chunk.{Chunk}
use Rattle.mp4_remux.proofs.EditedKept.{AreBoxesAmong, among_both, among_one, none}

encodable_stts : IsEncodable SttsBox
unfolding box_type
encodable_stts = record { named = refl; code = lit< tt }

encodable_ctts : IsEncodable CttsBox
unfolding box_type
encodable_ctts = record { named = refl; code = lit< tt }

encodable_stss : IsEncodable StssBox
unfolding box_type
encodable_stss = record { named = refl; code = lit< tt }

encodable_stsc : IsEncodable StscBox
unfolding box_type
encodable_stsc = record { named = refl; code = lit< tt }

encodable_stsz : IsEncodable StszBox
unfolding box_type
encodable_stsz = record { named = refl; code = lit< tt }

-- a table that may not be there
among_optional : {B : Type 0} (name : BoxType) (payload : B → List ℕ) (o : Option B) → IsEncodable name
    → IsAmong of_tables name → length (optional name payload o) < 2 ^ 32
    → AreBoxesAmong of_tables (optional name payload o)
among_optional name payload None encodable among fits = none
among_optional name payload (Some b) encodable among fits = among_one of_tables name (payload b) encodable among fits

module _ (samples : List SampleInfo) (chunks : List Chunk) where
  stts_among : length (stts_bytes samples) < 2 ^ 32 → AreBoxesAmong of_tables (stts_bytes samples)
  unfolding stts_bytes
  stts_among fits = among_one of_tables SttsBox _ encodable_stts refl fits

  ctts_among : length (ctts_bytes samples) < 2 ^ 32 → AreBoxesAmong of_tables (ctts_bytes samples)
  unfolding ctts_bytes
  ctts_among fits = among_optional CttsBox ctts_payload (signed_ctts_for samples) encodable_ctts refl fits

  stss_among : length (stss_bytes samples) < 2 ^ 32 → AreBoxesAmong of_tables (stss_bytes samples)
  unfolding stss_bytes
  stss_among fits = among_optional StssBox stss_payload (some_stss_for samples) encodable_stss refl fits

  stsc_among : length (stsc_bytes chunks) < 2 ^ 32 → AreBoxesAmong of_tables (stsc_bytes chunks)
  unfolding stsc_bytes
  stsc_among fits = among_one of_tables StscBox _ encodable_stsc refl fits

  stsz_among : length (stsz_bytes samples) < 2 ^ 32 → AreBoxesAmong of_tables (stsz_bytes samples)
  unfolding stsz_bytes
  stsz_among fits = among_one of_tables StszBox _ encodable_stsz refl fits

  -- all of them, where each fits
  pub tables_among : ((table : List ℕ) (number : ℕ) → slice_get (tables samples chunks) number ≡ Some table
      → length table < 2 ^ 32) → AreBoxesAmong of_tables (tables_bytes samples chunks)
  tables_among fits =
      among_both of_tables (stts_bytes samples) _ (stts_among (fits (stts_bytes samples) 0 refl))
      (among_both of_tables (ctts_bytes samples) _ (ctts_among (fits (ctts_bytes samples) 1 refl))
      (among_both of_tables (stss_bytes samples) _ (stss_among (fits (stss_bytes samples) 2 refl))
      (among_both of_tables (stsc_bytes chunks) _ (stsc_among (fits (stsc_bytes chunks) 3 refl))
      (among_both of_tables (stsz_bytes samples) _ (stsz_among (fits (stsz_bytes samples) 4 refl)) none))))
