use Rattle.std.proofs.Common.{◌≡◌, ◌+◌, [], ◌∷◌, ◌++◌, take, refl, subst, ap, sym, ◌∙◌, arith}
use Rattle.mp4_codec.specs.Cause.{AnswersCause}
use Rattle.mp4_mux.specs.Writing.{WriterState}
use Rattle.mp4_mux.specs.Calls.{Answered, call_cause, after, after_reply}
use Rattle.mp4_mux.proofs.CallLaws.{after_one_more, answered_one_more}
use Rattle.mp4_media.specs.WriterCalls.{call_of, calls_of}
use Rattle.mp4_media.proofs.Performing.{calls_of-more, in_range-more}
use Rattle.mp4_media.proofs.writer.Mp4Writer.perform_all.Goals as goal

pub loop-call-init : goal.loop-call-init
unfolding after Answered
loop-call-init c =
    record {
      room = c.requires.room;
      count = c.requires.count;
      replies = rw c.requires.none tt;
      after = refl;
      fits = tt;
      opens = λ h. h;
    }

pub loop-call-preserved : goal.loop-call-preserved
loop-call-preserved c =
    let i = c.loop-call.call-index in
    let inv = c.loop-call.invariant in
    let before = calls_of (take i c.args.calls.now) in
    let call = call_of c.call-item.result in
    let more : calls_of (take (i + 1) c.args.calls.now) ≡ before ++ call ∷ [] =
    calls_of-more c.args.calls.now i c.call-item.result (omega arith) c.call-item.is in
    let told : c.push_reserved.new.self.items ≡ c.loop-call.replies.items ++ c.perform-reply.result ∷ [] =
    c.push_reserved.ensures.items in
    record {
      room = omega (arith, c.push_reserved.ensures.capacity, inv.room);
      count = let n = c.push_reserved.ensures.len in omega arith;
      replies = rw (more, told) (answered_one_more before c.loop-call.replies.items c.args.self.now call
          c.perform-reply.result inv.replies
          (subst (λ (w : WriterState). AnswersCause (call_cause w call) c.perform-reply.result) inv.after
          c.perform-reply.ensures.cause));
      after = rw (more, told) (c.perform-reply.ensures.after
          ∙ ap (λ (w : WriterState). after_reply w call c.perform-reply.result) inv.after
          ∙ sym (after_one_more before c.loop-call.replies.items c.args.self.now call c.perform-reply.result
          inv.replies));
      fits = rw more (in_range-more before call inv.fits c.in_range.ensures);
      opens = λ h. c.perform-reply.ensures.opens (inv.opens h);
    }
