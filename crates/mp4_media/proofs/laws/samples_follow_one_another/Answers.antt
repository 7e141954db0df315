use Rattle.std.proofs.Common.{◌≡◌, suc, ◌+◌, sym, ◌∙◌, arith}
use Rattle.mp4_media.proofs.ReadBack.{accepted_follows}
use Rattle.mp4_media.proofs.laws.samples_follow_one_another.Goals as goal

pub returns : goal.returns
returns c = λ movie accepted exactly id k small s next e f.
    let more : k + 1 ≡ suc k = omega arith in
    accepted_follows accepted id k s next (sym (exactly.samples id k (omega (arith, small))) ∙ e)
    (rw more at (sym (exactly.samples id (k + 1) small) ∙ f))
