use Rattle.std.proofs.Common.{rules, ◌≡◌, ◌∙◌, ap, ℕ}
use Rattle.std.proofs.lemmas.Nat.{be_bytes_4}
use Rattle.mp4_codec.proofs.BoxTypeLaws.{code_of-box_type}
use Rattle.mp4_codec.specs.BoxType.{code_of}
use Rattle.mp4_c.proofs.text.box_type_of.Goals as goal

pub returns : goal.returns
returns c = be_bytes_4 c.args.bytes _ (search rules) (search rules)
    (ap code_of c.from.ensures ∙ (code_of-box_type c.from_be_bytes.result ∙ c.from_be_bytes.ensures))
