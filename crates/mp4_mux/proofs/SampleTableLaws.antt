-- What the tables of samples say is what is known of the samples.
use Rattle.std.proofs.Common.{◌≡◌, true, List, length, map, nat_eq, Option, Some}
use Rattle.std.proofs.Common.{None, refl, sym, ◌∙◌, pos}
use Rattle.std.specs.Prelude.{IfSome}
use Rattle.std.specs.Ordering.{int_eq}
use Rattle.std.specs.List.{All}
use Rattle.std.proofs.lemmas.Bool.{eqb-true, cond_both}
use Rattle.std.proofs.lemmas.Bool.Decides.{Decides-int_eq, Decides-by_and}
use Rattle.mp4_table.specs.declared.ctts.CttsBox.{CttsBox}
use Rattle.mp4_table.specs.Runs.{durations, rendering_offsets, changes}
use Rattle.mp4_mux.specs.declared.sample_info.SampleInfo.{SampleInfo}
use Rattle.mp4_mux.specs.SampleTables.{runs_of, same_duration, stts_run, stts_for, same_offset, ctts_run, ctts_for}
use Rattle.mp4_mux.specs.SampleTables.{are_in_order}
use Rattle.mp4_mux.proofs.RunTableLaws.{length-runs_of, changes-map, IsRun, expand-runs_of}

stts_runs : IsRun same_duration stts_run (λ r. r.sample_count) (λ r. r.sample_delta) (λ s. s.duration)
stts_runs = record {
  counted = λ n s. refl;
  valued = λ n s. refl;
  alike = λ a b e. eqb-true a.duration b.duration e;
}

-- each sample has its duration
pub durations-stts_for : (ss : List SampleInfo) → durations (stts_for ss).entries ≡ map (λ s. s.duration) ss
unfolding stts_for
durations-stts_for ss =
    expand-runs_of same_duration stts_run (λ r. r.sample_count) (λ r. r.sample_delta) (λ s. s.duration) stts_runs ss

-- as few entries as there can be
pub length-stts_for : (ss : List SampleInfo)
    → length (stts_for ss).entries ≡ changes nat_eq (map (λ s. s.duration) ss)
unfolding stts_for
length-stts_for ss =
    length-runs_of same_duration stts_run ss ∙ sym (changes-map nat_eq (λ s. s.duration) ss)

ctts_runs : IsRun same_offset ctts_run (λ r. r.sample_count) (λ r. r.sample_offset) (λ s. s.rendering_offset)
ctts_runs = record {
  counted = λ n s. refl;
  valued = λ n s. refl;
  alike = λ a b e. (Decides-int_eq a.rendering_offset b.rendering_offset).0 e;
}

-- such a table says when these samples are shown: without one, each when it is decoded
abbrev pub Renders : Option CttsBox → List SampleInfo → Type 0
Renders None ss = All (λ s. s.rendering_offset ≡ pos 0) ss
Renders (Some ctts) ss = rendering_offsets ctts.entries ≡ map (λ s. s.rendering_offset) ss

pub in_order : (ss : List SampleInfo) → are_in_order ss ≡ true → All (λ s. s.rendering_offset ≡ pos 0) ss
in_order ss e =
    (Decides-by_and (λ s. int_eq s.rendering_offset (pos 0)) (λ s. s.rendering_offset ≡ pos 0) are_in_order
    (λ s. Decides-int_eq s.rendering_offset (pos 0)) refl (λ _ _. refl) ss).0 e

pub ctts_for-renders : (ss : List SampleInfo) → Renders (ctts_for ss) ss
unfolding ctts_for
ctts_for-renders ss =
    let table : CttsBox = record { version = 0; flags = 0; entries = runs_of same_offset ctts_run ss } in
    cond_both (are_in_order ss) None (Some table)
    (λ ctts. Renders ctts ss) (in_order ss)
    (λ _. expand-runs_of same_offset ctts_run (λ r. r.sample_count) (λ r. r.sample_offset) (λ s. s.rendering_offset)
    ctts_runs ss)

pub length-ctts_for : (ss : List SampleInfo)
    → IfSome (ctts_for ss) (λ ctts. length ctts.entries ≡ changes int_eq (map (λ s. s.rendering_offset) ss))
unfolding ctts_for
length-ctts_for ss =
    let table : CttsBox = record { version = 0; flags = 0; entries = runs_of same_offset ctts_run ss } in
    cond_both (are_in_order ss) None (Some table)
    (λ ctts. IfSome ctts (λ c. length c.entries ≡ changes int_eq (map (λ s. s.rendering_offset) ss)))
    (λ _. tt)
    (λ _. length-runs_of same_offset ctts_run ss ∙ sym (changes-map int_eq (λ s. s.rendering_offset) ss))
