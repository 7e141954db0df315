use Rattle.mp4_codec.specs.declared.box_type.BoxType.TheVariants.{FtypBox as ftyp, MoovBox as moov}
use Rattle.mp4_media.proofs.TwoParts.{second_is}
use Rattle.mp4_media.proofs.movie.open_found.Goals as goal

pub tracks_of-requires-clause-first_samples : goal.tracks_of-requires-clause-first_samples
tracks_of-requires-clause-first_samples c =
    rw (second_is ftyp moov c.args.found.ftyp c.args.found.moov _ (rw c.in-Ok.is at c.required_two.ensures))
    at c.requires.first_samples

pub tracks_of-requires-clause-places : goal.tracks_of-requires-clause-places
tracks_of-requires-clause-places c = rw (c.as_slice-2.ensures, c.as_slice.ensures) c.requires.places
