use Rattle.std.proofs.Common.{◌≡◌, ◌∙◌, ap, sym, take, List, ℕ, Ok, rules}
use Rattle.mp4_codec.specs.Bytes.{until_zero}
use Rattle.mp4_codec.specs.FieldLaws.{take-until_zero}
use Rattle.mp4_codec.proofs.fields.Fields.until_zero.Goals as goal

pub returns : goal.returns
returns c =
    let rest : List ℕ = c.self.inside.rest.now in
    let copied : c.from.result ≡ take c.zero_place-n.result rest = search rules in
    let place : take c.zero_place-n.result rest ≡ until_zero rest =
    rw c.zero_place-n.ensures.place (take-until_zero rest) in
    rw (← c.self.view_is) (ap Ok (sym (copied ∙ place)))
