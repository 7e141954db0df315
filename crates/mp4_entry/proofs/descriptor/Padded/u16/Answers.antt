use Rattle.mp4_entry.specs.DescriptorLaws.{padded_at-joined}
use Rattle.mp4_entry.proofs.descriptor.Padded.u16.Goals as goal

pub returns : goal.returns
returns c = padded_at-joined 1 1 _ _ _ _ _ c.u8-high.ensures c.u8-low.ensures
