use Rattle.mp4_media.proofs.Contents.{meaning-none}
use Rattle.mp4_faults.proofs.top_level.is_read.Goals as goal

pub returns-in_default : goal.returns-in_default
returns-in_default c = record {
  yes = λ e. absurd cc;
  not = λ no named. meaning-none c.args.name named c.in_default.not-FtypBox c.in_default.not-MoovBox
      c.in_default.not-MoofBox c.in_default.not-EmsgBox;
}
