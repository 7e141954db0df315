use Rattle.std.proofs.Common.{arith}
use Rattle.mp4_media.proofs.OpenAnswers.{nothing_there, too_little_there}
use Rattle.mp4_media.proofs.file.check_first_box.Goals as goal

pub returns-then-start-size-clause-fault : goal.returns-then-start-size-clause-fault
returns-then-start-size-clause-fault c = λ bytes. nothing_there c.args.size bytes c.args.start c.if-start-size.true

pub returns-then-size-start-lt-HEADER_SIZE-clause-fault : goal.returns-then-size-start-lt-HEADER_SIZE-clause-fault
returns-then-size-start-lt-HEADER_SIZE-clause-fault c = λ bytes.
    too_little_there c.args.size bytes c.args.start (omega (arith, c.if-start-size.false))
    (omega (arith, c.if-start-size.false, c.if-size-start-lt-HEADER_SIZE.true))
