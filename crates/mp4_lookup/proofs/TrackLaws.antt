-- At a number of the movie box, with tables that agree, the answers are the tables written out.
use Rattle.std.proofs.Common.{◌≡◌, ℕ, ◌^◌, ◌<◌, List, length, true, ap}
use Rattle.std.specs.Prelude.{nat_le, ◌||◌}
use Rattle.std.proofs.lemmas.Bool.{eq-eqb}
use Rattle.mp4_codec.specs.Cause.{◌>>=◌}
use Rattle.mp4_table.specs.Stsc.{HasFirstSamples}
use Rattle.mp4_boxes.specs.declared.trak.TrakBox.{TrakBox}
use Rattle.mp4_moof.specs.declared.traf.TrafBox.{TrafBox}
use Rattle.mp4_boxes.specs.Stbl.{sample_count}
use Rattle.mp4_fragments.specs.RunSamples.{PlacedRun}
use Rattle.mp4_samples.specs.Plain.{Consistent, plain_at}
use Rattle.mp4_samples.specs.Samples.{read_in, plain_sample_at}
use Rattle.mp4_lookup.specs.Tracks.{sample_at, is_of_movie, answer_at}
use Rattle.mp4_samples.specs.Tables.{tables_of}
use Rattle.mp4_lookup.proofs.RuleLaws.{rule_is_plain}

-- in a track that no fragment names, all numbers are the movie box's
pub unfragmented_is_of_movie : (trak : TrakBox) (trafs : List TrafBox) (k : ℕ) → length trafs ≡ 0
    → is_of_movie trak trafs k ≡ true
unfragmented_is_of_movie trak trafs k none =
    ap (λ b. b || nat_le k (sample_count (tables_of trak))) (eq-eqb (length trafs) 0 none)

pub answer_is_plain : (trak : TrakBox) (trafs : List TrafBox) (runs : List PlacedRun) (k : ℕ)
    → is_of_movie trak trafs k ≡ true → Consistent (tables_of trak)
    → HasFirstSamples (tables_of trak).stsc.entries → k < 2 ^ 32
    → answer_at trak trafs runs k ≡ plain_at (tables_of trak) k
unfolding answer_at
answer_is_plain trak trafs runs k of_movie fits firsts small =
    rw of_movie (rule_is_plain (tables_of trak) trak.tkhd.track_id k fits firsts small)

-- and what is read is what lies where they lead
pub sample_is_plain : (file : List ℕ) (trak : TrakBox) (trafs : List TrafBox) (runs : List PlacedRun) (k : ℕ)
    → is_of_movie trak trafs k ≡ true → Consistent (tables_of trak)
    → HasFirstSamples (tables_of trak).stsc.entries → k < 2 ^ 32
    → sample_at file trak trafs runs k ≡ plain_sample_at file (tables_of trak) k
unfolding sample_at plain_sample_at
sample_is_plain file trak trafs runs k of_movie fits firsts small =
    ap (λ answer. answer >>= read_in file) (answer_is_plain trak trafs runs k of_movie fits firsts small)
