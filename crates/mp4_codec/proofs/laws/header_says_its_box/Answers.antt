use Rattle.mp4_codec.proofs.HeadLaws.{short_open_end, short_sized, long_open_end, long_sized}
use Rattle.mp4_codec.proofs.laws.header_says_its_box.Goals as goal

pub returns : goal.returns
returns c = record {
  open_end = short_open_end;
  sized = short_sized;
  long_open_end = long_open_end;
  long_sized =
      long_sized;
}
