use Rattle.std.proofs.Common.{◌≡◌, ◌^◌, ◌<◌, take, true}
use Rattle.std.specs.Str.{all_ascii_digits}
use Rattle.mp4_media.specs.Metadata.{decimal_value}
use Rattle.mp4_script.proofs.commands.value_of.Given as goal

abbrev pub invariant-loop-digit : goal.invariant-loop-digit
invariant-loop-digit l = record {
  value : l.value ≡ decimal_value (take l.digit-index l.digits);
  digits : all_ascii_digits (take l.digit-index l.digits) ≡ true;
  fits : l.value < 10 ^ l.digit-index;
}
