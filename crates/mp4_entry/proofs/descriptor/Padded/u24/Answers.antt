use Rattle.mp4_entry.specs.DescriptorLaws.{padded_at-joined}
use Rattle.mp4_entry.proofs.descriptor.Padded.u24.Goals as goal

pub returns : goal.returns
returns c = padded_at-joined 1 2 _ _ _ _ _ c.u8-high.ensures c.u16-low.ensures
