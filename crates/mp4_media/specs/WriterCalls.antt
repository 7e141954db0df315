-- Calls of a writer as data.
use Rattle.std.specs.Prelude.{List, map}
use Rattle.mp4_samples.specs.Samples.{sample_of}
use Rattle.mp4_mux.specs.Calls.{Call, add_track, write_sample, write_end}
use Rattle.mp4_media.specs.declared.calls.WriterCall.{WriterCall}
use Rattle.mp4_media.specs.declared.calls.WriterCall.TheVariants.{AddTrack, WriteSample, WriteEnd}

-- what a call asks for; the caller's start time is no part of it
abbrev pub call_of : WriterCall → Call
call_of (AddTrack config) = add_track config
call_of (WriteSample id s) = write_sample id (sample_of s)
call_of WriteEnd = write_end

-- the same of a list
abbrev pub calls_of : List WriterCall → List Call
calls_of calls = map call_of calls
