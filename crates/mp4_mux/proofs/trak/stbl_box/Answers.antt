use Rattle.std.proofs.Common.{◌≡◌, Option, Result, Ok, Err, ap, inl, inr}
use Rattle.std.specs.Prelude.{◌⊎◌}
use Rattle.std.proofs.lemmas.Result.{err_from_is_err_and}
use Rattle.mp4_codec.specs.Cause.{Cause, cause_of, ◌>>=◌}
use Rattle.mp4_codec.specs.declared.error.Error.{Error}
use Rattle.mp4_codec.specs.declared.error.Error.TheVariants.{OutOfMemory}
use Rattle.mp4_table.specs.declared.stts.SttsBox.{SttsBox}
use Rattle.mp4_table.specs.declared.ctts.CttsBox.{CttsBox}
use Rattle.mp4_table.specs.declared.stss.StssBox.{StssBox}
use Rattle.mp4_table.specs.declared.stsc.StscBox.{StscBox}
use Rattle.mp4_table.specs.declared.stsz.StszBox.{StszBox}
use Rattle.mp4_table.specs.declared.stco.StcoBox.{StcoBox}
use Rattle.mp4_table.specs.declared.co64.Co64Box.{Co64Box}
use Rattle.mp4_entry.specs.declared.stsd.StsdBox.{StsdBox}
use Rattle.mp4_boxes.specs.declared.stbl.StblBox.{StblBox}
use Rattle.mp4_mux.specs.FinishedTrack.{stbl_for}
use Rattle.mp4_mux.specs.TrackParts.{finished}
use Rattle.mp4_mux.proofs.trak.stbl_box.Goals as goal

-- where the parts are, only memory refuses what is made of them
only_memory : {A B : Type 0} (e : Error) (parts : A) (whole : B)
    → (e ≡ OutOfMemory) ⊎ (◌≡◌ {A = Result A Cause} (Ok parts) (Err (cause_of e)))
    → (e ≡ OutOfMemory) ⊎ (◌≡◌ {A = Result B Cause} (Ok whole) (Err (cause_of e)))
only_memory e parts whole (inl memory) = inl memory
only_memory e parts whole (inr wrong) = absurd cc

pub returns-in_err-stts : goal.returns-in_err-stts
returns-in_err-stts c =
    let p = err_from_is_err_and c.from_residual.result c.from_residual.ensures.1 in
    let refused = c.in_err-stts.ensures _ _ (c.both.ensures _ _ c.time_tables-times.ensures c.sample_tables-sizes.ensures)
    (c.both-2.ensures _ _ c.chunk_tables-chunks.ensures c.stsd_box-stsd.ensures) in
    rw (p.1, p.2) (only_memory _ _ (stbl_for (finished c.args.track.now)) refused)

-- the table that is made of its parts
abbrev made : ((SttsBox × Option CttsBox) × (Option StssBox × StszBox)) × ((StscBox × Option StcoBox × Option Co64Box) × StsdBox)
    → StblBox
made (((stts, ctts), (stss, stsz)), ((stsc, stco, co64), stsd)) = record {
  stsd = stsd;
  stts = stts;
  ctts = ctts;
  stss = stss;
  stsc = stsc;
  stsz = stsz;
  stco = stco;
  co64 = co64;
}

pub returns : goal.returns
returns c =
    ap (λ r. r >>= λ parts. Ok (made parts))
    (c.in_ok-stts.ensures _ _ (c.both.ensures _ _ c.time_tables-times.ensures c.sample_tables-sizes.ensures)
    (c.both-2.ensures _ _ c.chunk_tables-chunks.ensures c.stsd_box-stsd.ensures))
