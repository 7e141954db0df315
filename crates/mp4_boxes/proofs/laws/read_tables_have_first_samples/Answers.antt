use Rattle.mp4_boxes.specs.StblLaws.{stbl_of-has_first_samples}
use Rattle.mp4_boxes.specs.MinfLaws.{minf_of-has_first_samples}
use Rattle.mp4_boxes.specs.MdiaLaws.{mdia_of-has_first_samples}
use Rattle.mp4_boxes.specs.TrakLaws.{trak_of-has_first_samples}
use Rattle.mp4_boxes.specs.MoovLaws.{moov_of-has_first_samples}
use Rattle.mp4_boxes.proofs.laws.read_tables_have_first_samples.Goals as goal

pub returns : goal.returns
returns c = record {
  stbl = stbl_of-has_first_samples;
  minf = minf_of-has_first_samples;
  mdia = mdia_of-has_first_samples;
  trak = trak_of-has_first_samples;
  moov = moov_of-has_first_samples;
}
