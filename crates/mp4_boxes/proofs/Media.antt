-- The media and the track of a payload, in the steps that reading takes.
use Rattle.std.proofs.Common.{◌≡◌, ℕ, List, Result, Ok, Err, refl}
use Rattle.mp4_codec.specs.declared.box_type.BoxType.TheVariants.{MdhdBox as mdhd, HdlrBox as hdlr, MinfBox as minf}
use Rattle.mp4_codec.specs.declared.box_type.BoxType.TheVariants.{TkhdBox as tkhd, MdiaBox as mdia}
use Rattle.mp4_codec.specs.Cause.{Cause, ◌>>=◌}
use Rattle.mp4_codec.specs.Children.{children, gathered, needed}
use Rattle.mp4_leaf.specs.declared.mdhd.MdhdBox.{MdhdBox}
use Rattle.mp4_leaf.specs.declared.hdlr.HdlrBox.{HdlrBox}
use Rattle.mp4_boxes.specs.declared.minf.MinfBox.{MinfBox}
use Rattle.mp4_boxes.specs.declared.mdia.MdiaBox.{MdiaBox}
use Rattle.mp4_boxes.specs.declared.mdia.MdiaParts.{MdiaParts}
use Rattle.mp4_leaf.specs.declared.tkhd.TkhdBox.{TkhdBox}
use Rattle.mp4_boxes.specs.declared.trak.TrakBox.{TrakBox}
use Rattle.mp4_boxes.specs.declared.trak.TrakParts.{TrakParts}
use Rattle.mp4_boxes.specs.Needed.{two_needed, two_needed-then, three_needed, three_needed-then}
use Rattle.mp4_boxes.specs.Trak.{trak_fault, trak_taken, trak_of}
use Rattle.mp4_boxes.specs.Mdia.{mdia_fault, mdia_taken, mdia_of}

-- the media of these children
abbrev of_three : MdhdBox → HdlrBox → MinfBox → Result MdiaBox Cause
of_three header handler information = Ok (record { mdhd = header; hdlr = handler; minf = information })

pub mdia_of_steps : (payload : List ℕ)
    → mdia_of payload
    ≡ (gathered mdia_fault mdia_taken (children payload) >>= λ parts.
    three_needed mdhd hdlr minf parts.mdhd parts.hdlr parts.minf >>= λ all. of_three all.0 all.1 all.2)
unfolding mdia_of
mdia_of_steps payload = of_parts (gathered mdia_fault mdia_taken (children payload))
  where
    of_parts : (parts : Result MdiaParts Cause)
        → (parts >>= λ p. needed mdhd p.mdhd >>= λ a. needed hdlr p.hdlr >>= λ b. needed minf p.minf >>= λ c.
        of_three a b c)
        ≡ (parts >>= λ p. three_needed mdhd hdlr minf p.mdhd p.hdlr p.minf >>= λ all. of_three all.0 all.1 all.2)
    of_parts (Ok p) = three_needed-then mdhd hdlr minf p.mdhd p.hdlr p.minf of_three
    of_parts (Err e) = refl

-- the track of these parts, and those that have to be there
abbrev with_media : TrakParts → TkhdBox → MdiaBox → Result TrakBox Cause
with_media p header media = Ok (record { tkhd = header; edts = p.edts; meta = p.meta; mdia = media })

pub trak_of_steps : (payload : List ℕ)
    → trak_of payload
    ≡ (gathered trak_fault trak_taken (children payload) >>= λ p.
    two_needed tkhd mdia p.tkhd p.mdia >>= λ all. with_media p all.0 all.1)
unfolding trak_of
trak_of_steps payload = of_parts (gathered trak_fault trak_taken (children payload))
  where
    of_parts : (parts : Result TrakParts Cause)
        → (parts >>= λ p. needed tkhd p.tkhd >>= λ h. needed mdia p.mdia >>= λ m. with_media p h m)
        ≡ (parts >>= λ p. two_needed tkhd mdia p.tkhd p.mdia >>= λ all. with_media p all.0 all.1)
    of_parts (Ok p) = two_needed-then tkhd mdia p.tkhd p.mdia (with_media p)
    of_parts (Err e) = refl
