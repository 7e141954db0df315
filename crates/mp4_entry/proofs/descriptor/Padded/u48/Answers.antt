use Rattle.mp4_entry.specs.DescriptorLaws.{padded_at-joined}
use Rattle.mp4_entry.proofs.descriptor.Padded.u48.Goals as goal

pub returns : goal.returns
returns c = padded_at-joined 2 4 _ _ _ _ _ c.u16-high.ensures c.u32-low.ensures
