-- The number of the bytes so far.
use Rattle.std.proofs.Common.{◌≡◌, ◌<◌, ◌^◌, take}
use Rattle.mp4_report.specs.TagValues.{big_endian}
use Rattle.mp4_report.proofs.tag_value.number_of.Given as goal

abbrev pub invariant-loop-byte : goal.invariant-loop-byte
invariant-loop-byte l = record {
  so_far : l.number ≡ big_endian (take l.byte-index l.bytes);
  small : l.number < 256 ^ l.byte-index;
}
