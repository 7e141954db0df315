-- The sample table and the media information of a payload, in the steps that reading takes.
use Rattle.std.proofs.Common.{◌≡◌, ℕ, List, Result, Ok, Err, refl}
use Rattle.mp4_codec.specs.declared.box_type.BoxType.TheVariants.{StsdBox as stsd, SttsBox as stts, StscBox as stsc}
use Rattle.mp4_codec.specs.declared.box_type.BoxType.TheVariants.{StszBox as stsz, DinfBox as dinf, StblBox as stbl}
use Rattle.mp4_codec.specs.Cause.{Cause, ◌>>=◌}
use Rattle.mp4_codec.specs.Children.{children, gathered, needed}
use Rattle.mp4_leaf.specs.declared.dinf.DinfBox.{DinfBox}
use Rattle.mp4_entry.specs.declared.stsd.StsdBox.{StsdBox}
use Rattle.mp4_table.specs.declared.stts.SttsBox.{SttsBox}
use Rattle.mp4_table.specs.declared.stsc.StscBox.{StscBox}
use Rattle.mp4_table.specs.declared.stsz.StszBox.{StszBox}
use Rattle.mp4_boxes.specs.declared.stbl.StblBox.{StblBox}
use Rattle.mp4_boxes.specs.declared.stbl.StblParts.{StblParts}
use Rattle.mp4_boxes.specs.declared.minf.MinfBox.{MinfBox}
use Rattle.mp4_boxes.specs.declared.minf.MinfParts.{MinfParts}
use Rattle.mp4_boxes.specs.Needed.{two_needed, two_needed-then, four_needed, four_needed-then}
use Rattle.mp4_boxes.specs.Minf.{minf_fault, minf_taken, minf_of}
use Rattle.mp4_boxes.specs.Stbl.{stbl_fault, stbl_taken, stbl_of, needed_places}

-- the table of these parts, and those that have to be there
abbrev with_tables : StblParts → StsdBox → SttsBox → StscBox → StszBox → Result StblBox Cause
with_tables p description durations chunks sizes = do
  places ← needed_places p.stco p.co64
  Ok (record {
    stsd = description;
    stts = durations;
    ctts = p.ctts;
    stss = p.stss;
    stsc = chunks;
    stsz = sizes;
    stco = places.0;
    co64 = places.1;
  })

pub stbl_of_steps : (payload : List ℕ)
    → stbl_of payload
    ≡ (gathered stbl_fault stbl_taken (children payload) >>= λ p.
    four_needed stsd stts stsc stsz p.stsd p.stts p.stsc p.stsz >>= λ all. with_tables p all.0 all.1 all.2 all.3)
unfolding stbl_of
stbl_of_steps payload = of_parts (gathered stbl_fault stbl_taken (children payload))
  where
    of_parts : (parts : Result StblParts Cause)
        → (parts >>= λ p. needed stsd p.stsd >>= λ d. needed stts p.stts >>= λ t. needed stsc p.stsc >>= λ c.
        needed stsz p.stsz >>= λ s. with_tables p d t c s)
        ≡ (parts >>= λ p.
        four_needed stsd stts stsc stsz p.stsd p.stts p.stsc p.stsz >>= λ all. with_tables p all.0 all.1 all.2 all.3)
    of_parts (Ok p) = four_needed-then stsd stts stsc stsz p.stsd p.stts p.stsc p.stsz (with_tables p)
    of_parts (Err e) = refl

-- the media information of these parts, and those that have to be there
abbrev with_table : MinfParts → DinfBox → StblBox → Result MinfBox Cause
with_table p information table = Ok (record { vmhd = p.vmhd; smhd = p.smhd; dinf = information; stbl = table })

pub minf_of_steps : (payload : List ℕ)
    → minf_of payload
    ≡ (gathered minf_fault minf_taken (children payload) >>= λ p.
    two_needed dinf stbl p.dinf p.stbl >>= λ all. with_table p all.0 all.1)
unfolding minf_of
minf_of_steps payload = of_parts (gathered minf_fault minf_taken (children payload))
  where
    of_parts : (parts : Result MinfParts Cause)
        → (parts >>= λ p. needed dinf p.dinf >>= λ d. needed stbl p.stbl >>= λ t. with_table p d t)
        ≡ (parts >>= λ p. two_needed dinf stbl p.dinf p.stbl >>= λ all. with_table p all.0 all.1)
    of_parts (Ok p) = two_needed-then dinf stbl p.dinf p.stbl (with_table p)
    of_parts (Err e) = refl
