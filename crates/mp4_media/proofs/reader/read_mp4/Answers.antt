use Rattle.mp4_media.proofs.reader.read_mp4.Goals as goal

pub returns-clause-opening : goal.returns-clause-opening
returns-clause-opening c = rw c.new.ensures at c.read_header.ensures.opening
