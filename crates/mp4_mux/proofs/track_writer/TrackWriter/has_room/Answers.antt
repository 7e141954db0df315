use Rattle.std.proofs.Common.{arith}
use Rattle.std.proofs.lemmas.Bool.Decides.{nat_tests}
use Rattle.mp4_mux.proofs.track_writer.TrackWriter.has_room.Goals as goal

pub overflow_sub-room : goal.overflow_sub-room
overflow_sub-room c = omega (arith, c.self.invariant.fits)

pub returns : goal.returns
returns c = rw (← c.self.view_is) (grind (arith, nat_tests, c.self.invariant.movie, c.self.invariant.fits))
