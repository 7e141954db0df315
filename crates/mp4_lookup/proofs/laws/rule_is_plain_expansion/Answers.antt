use Rattle.mp4_lookup.proofs.RuleLaws.{rule_is_plain}
use Rattle.mp4_lookup.proofs.laws.rule_is_plain_expansion.Goals as goal

pub returns : goal.returns
returns c = rule_is_plain
