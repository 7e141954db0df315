use Rattle.std.proofs.Common.{false, IsTrue, arith, subst}
use Rattle.mp4_codec.specs.declared.error.Error.TheVariants.{EndOfData}
use Rattle.mp4_remux.specs.declared.error.RemuxError.TheVariants.{Mp4}
use Rattle.mp4_remux.proofs.Causes.{top_fits}
use Rattle.mp4_remux.proofs.Naming.{part_is_there}
use Rattle.mp4_remux.proofs.frame.bytes_of.Goals as goal

pub returns-clause-ends : goal.returns-clause-ends
returns-clause-ends g c =
    part_is_there (g.S.ByteSource.contents c.args.source.now) c.args.len c.args.one.place c.args.one.end
    c.read_into.new.buffer.items c.requires
    (omega (arith, c.fits.ensures.0 c.if-not-fits.false, c.saturating_sub-size.ensures))
    (rw c.saturating_sub-size.ensures at c.in_ok-read_into.ensures.value)

pub returns-then-not-fits-clause-cause : goal.returns-then-not-fits-clause-cause
returns-then-not-fits-clause-cause g c =
    top_fits (g.S.ByteSource.contents c.args.source.now) c.args.len c.args.one (Mp4 EndOfData) c.requires
    (λ fits.
    let t : IsTrue false = subst IsTrue c.if-not-fits.true
    (c.fits.ensures.1 (omega (arith, fits, c.saturating_sub-size.ensures))) in absurd cc)
