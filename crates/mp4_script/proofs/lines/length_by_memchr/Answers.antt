use Rattle.mp4_script.proofs.Cutting.{first_feed, no_feed}
use Rattle.mp4_script.proofs.lines.length_by_memchr.Goals as goal

pub returns-in-Some : goal.returns-in-Some
returns-in-Some c = first_feed c.args.text.now c.in-Some.place c.in-Some.ensures.0 c.in-Some.ensures.1

pub returns-in-None : goal.returns-in-None
returns-in-None c = no_feed c.args.text.now c.in-None.ensures
