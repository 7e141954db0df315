-- After its end a writer's sink has the bytes of the state.
use Rattle.std.proofs.Common.{◌≡◌, Option, Some, None, List, ℕ, refl}
use Rattle.std.specs.Prelude.{IfSome}
use Rattle.mp4_mux.specs.Writing.{end_cause, whole_of, with_end}
use Rattle.mp4_media.proofs.WritingToSinks.{counted_whole, known_whole}
use Rattle.mp4_c.specs.WrittenReply.{refusal_in}
use Rattle.mp4_c.proofs.Refusals.{refused_by, refused_error}
use Rattle.mp4_c.proofs.written.ended.Goals as goal

each_known : (known : Option (List ℕ)) (bytes : List ℕ)
    → ((xs : List ℕ) → known ≡ Some xs → xs ≡ bytes) → IfSome known (λ xs. xs ≡ bytes)
each_known None bytes f = tt
each_known (Some xs) bytes f = f xs refl

pub returns-in-Ok-clause-movie : goal.returns-in-Ok-clause-movie
returns-in-Ok-clause-movie g c = λ st h.
    let after = c.in-Ok.ensures.ok st h in
    record {
      bytes = rw c.into_inner.ensures.contents (each_known _ (whole_of (with_end st))
          (λ xs is. known_whole _ (with_end st) xs after is));
      count = rw c.into_inner.ensures.len (counted_whole _ (with_end st) after);
      opens = c.in-Ok.ensures.opens st h;
      written = c.in-Ok.ensures.written st h;
    }

pub returns-in-Err-clause-refused : goal.returns-in-Err-clause-refused
returns-in-Err-clause-refused g c =
    rw c.refusal_in.ensures (λ st h. refused_error (λ x. end_cause st ≡ Some x) (end_cause st)
    (refusal_in c.in-Err.error) (λ x same. same) (refused_by _ (end_cause st) c.in-Err.error
    (c.in-Err.ensures.cause st h)))
