use Rattle.std.proofs.Common.{drop}
use Rattle.mp4_media.proofs.Gathering.{Made}
use Rattle.mp4_media.proofs.tracks.tracks_with_defaults.Given as goal

abbrev pub invariant-loop-index : goal.invariant-loop-index
invariant-loop-index l = Made l.moov l.moofs l.places (drop l.index l.traks) l.tracks l.fragments
