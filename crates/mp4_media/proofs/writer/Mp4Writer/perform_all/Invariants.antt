use Rattle.std.proofs.Common.{◌≡◌, ◌≤◌, length, take, vec_len}
use Rattle.std.specs.Prelude.{vec_capacity}
use Rattle.std.specs.List.{AllByRecursion}
use Rattle.mp4_mux.specs.Calls.{Answered, IsInRangeCall, after}
use Rattle.mp4_media.specs.WriterCalls.{calls_of}
use Rattle.mp4_media.proofs.Performing.{OpensAtEnd}
use Rattle.mp4_media.proofs.writer.Mp4Writer.perform_all.Given as goal

-- the calls so far are in range, have their replies, and have left this
abbrev pub invariant-loop-call : goal.invariant-loop-call
invariant-loop-call l = record {
  room : length l.calls ≤ vec_capacity l.replies;
  count : vec_len l.replies ≡ l.call-index;
  replies : Answered (calls_of (take l.call-index l.calls)) l.replies.items l.fn.self;
  after : l.self ≡ after (calls_of (take l.call-index l.calls)) l.replies.items l.fn.self;
  fits : AllByRecursion IsInRangeCall (calls_of (take l.call-index l.calls));
  opens : OpensAtEnd l.fn.self → OpensAtEnd l.self;
}
