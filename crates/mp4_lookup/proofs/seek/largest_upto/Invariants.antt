use Rattle.std.proofs.Common.{◌+◌, take}
use Rattle.mp4_search.specs.Partition.{AnswersLast}
use Rattle.mp4_lookup.specs.ByTime.{is_number_of}
use Rattle.mp4_lookup.proofs.seek.largest_upto.Given as goal

abbrev pub invariant-loop-number : goal.invariant-loop-number
invariant-loop-number l = AnswersLast (is_number_of (take l.number-index l.numbers)) (l.k + 1) l.largest
