use Rattle.std.proofs.Common.{◌≡◌, ◌+◌, suc, Ok, None, arith, subst}
use Rattle.mp4_samples.specs.Plain.{plain_at}
use Rattle.mp4_mux.specs.Written.{Finds}
use Rattle.mp4_mux.proofs.ReadBackLaws.{finds_each, none_past}
use Rattle.mp4_mux.proofs.laws.described_samples_are_found.Goals as goal

pub returns : goal.returns
returns c = record {
  found = λ file t ss h fits k s e.
      let number : suc k ≡ k + 1 = omega arith in
      subst (λ n. Finds file (plain_at t n) s) number (finds_each file t ss h fits k s e);
  past = λ file t ss h k l.
      let number : suc k ≡ k + 1 = omega arith in
      subst (λ n. plain_at t n ≡ Ok None) number (none_past file t ss h k l);
}
