use Rattle.mp4_remux.proofs.Naming.{all_but}
use Rattle.mp4_remux.proofs.places.children_of.Goals as goal

pub returns-in-Some : goal.returns-in-Some
returns-in-Some c = all_but 4 c.args.one.now.payload.now
